-- How high an expression under a path of terms is.
use Rattle.std.proofs.Common.{◌≡◌, ◌≤◌, ◌<◌, ◌+◌, ◌-◌, ◌↔◌, ℕ, List, [], ◌∷◌, ap, length, arith}
use Rattle.mz_logic_theory.specs.Tree.{Tree, app, none, more, under}
use Rattle.mz_math_theory.specs.Meaning.{height}
use Rattle.mz_math_theory.proofs.Offered.{height-some}

height-under : (ts : List ℕ) (e : Tree) → height (under ts e) ≡ length ts + height e
height-under [] e = omega arith
height-under (t ∷ ts) e = let ih = height-under ts (app t (more e none)) in omega (arith, ih)

module _ (ts : List ℕ) (e : Tree) (many most : ℕ) (is : many ≡ length ts) where
  pub low-under : (f : Tree) → f ≡ e → many < most → (height f ≤ most - many) ↔ (height (under ts e) ≤ most)
  low-under f same less =
      let all = height-under ts e in
      let one = ap height same in
      (λ low. omega (arith, is, all, one, low, less), λ low. omega (arith, is, all, one, low, less))

  pub high-under : most ≤ many → height (under ts e) ≤ most → ⊥
  high-under less low = let all = height-under ts e in let some = height-some e in omega (arith, is, all, some, less, low)
