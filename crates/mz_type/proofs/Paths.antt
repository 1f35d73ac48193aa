-- How many stand in an expression under a path of terms.
use Rattle.std.proofs.Common.{ℕ, ◌≡◌, ◌+◌, List, [], ◌∷◌, ap, arith, length}
use Rattle.mz_logic_theory.specs.Tree.{Tree, app, none, more, size, under}

size-under : (ts : List ℕ) (e : Tree) → size (under ts e) ≡ length ts + size e
size-under [] e = omega arith
size-under (t ∷ ts) e = let ih = size-under ts (app t (more e none)) in omega (arith, ih)

module _ (ts : List ℕ) (e whole : Tree) (is : under ts e ≡ whole) (f : Tree) (same : f ≡ e) where
  pub path-and-size : (many own : ℕ) → many ≡ length ts → own ≡ size f → many + own ≡ size whole
  path-and-size many own long sized =
      let all = size-under ts e in
      let put = ap size is in
      let one = ap size same in
      omega (arith, all, put, one, long, sized)
