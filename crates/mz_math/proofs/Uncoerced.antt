-- Without coercions a tree stands for itself; nothing has no height.
use Rattle.std.proofs.Common.{◌≡◌, ◌∙◌, ◌<◌, ◌≤◌, ℕ, List, [], ◌∷◌, ap, refl, subst, inl, inr, arith}
use Rattle.std.proofs.lemmas.Bool.{cases_lt}
use Rattle.std.proofs.lemmas.Option.{none-some}
use Rattle.mz_logic_theory.specs.Signature.{Signature}
use Rattle.mz_logic_theory.specs.Tree.{Tree, Trees, var, app, none, more}
use Rattle.mz_logic_theory.specs.declared.binder.Binder.{Binder}
use Rattle.mz_math_theory.specs.declared.coercion.Coercion.{Coercion}
use Rattle.mz_math_theory.specs.Coercions.{IsPath, wrapped}
use Rattle.mz_math_theory.specs.Meaning.{Coerced, CoercedAll, height}

nowhere : (s to : ℕ) (path : List ℕ) (e : Tree) → IsPath [] s path to → wrapped [] path e ≡ e
nowhere s to [] e on = refl
nowhere s to (p ∷ path) e (c, at, from, rest) = absurd (none-some _ at)

module _ (sigs : List Signature) (ctx : List Binder) where
  mutual
    itself : (t e : Tree) (s : ℕ) → Coerced sigs [] ctx t e s → e ≡ t
    itself (var x) e s is = is.0
    itself (app t es) e s (d, fs, at, sort, made, all) = made ∙ ap (app t) (all-themselves es d.params fs all)

    all-themselves : (es : Trees) (bs : List Binder) (fs : Trees) → CoercedAll sigs [] ctx es bs fs → fs ≡ es
    all-themselves none [] fs is = is
    all-themselves none (b ∷ bs) fs is = absurd is
    all-themselves (more e es) [] fs is = absurd is
    all-themselves (more e es) (b ∷ bs) fs (f, s, path, gs, has, on, bound, made, all) =
        made ∙ ap (λ g. more g gs) (nowhere s b.sort path f on ∙ itself e f s has) ∙ ap (more e) (all-themselves es bs gs all)

module _ (sigs : List Signature) (cs : List Coercion) (ctx : List Binder) (no_coercions : cs ≡ []) (t : Tree) where
  same : (e : Tree) (s : ℕ) → Coerced sigs cs ctx t e s → e ≡ t
  same e s has = itself sigs ctx t e s (subst (λ (ks : List Coercion). Coerced sigs ks ctx t e s) no_coercions has)

  pub low-itself : (e : Tree) (s high : ℕ) → Coerced sigs cs ctx t e s → height t ≤ high → (s : ℕ) × Coerced sigs cs ctx t t s × (height t ≤ high)
  low-itself e s high has low = (s, subst (λ f. Coerced sigs cs ctx t f s) (same e s has) has, low)

  pub high-itself : (high : ℕ) → (height t ≤ high → ⊥) → (e : Tree) (s : ℕ) → Coerced sigs cs ctx t e s → high < height e
  high-itself high not_low e s has =
      let as_high = ap height (same e s has) in
      elim (cases_lt high (height t)) [ inl above ↦ omega (arith, as_high, above) | inr low ↦ absurd (not_low low) ]

pub no-height : (e : Tree) (most : ℕ) → most ≡ 0 → most < height e
no-height (var x) most is = omega (arith, is)
no-height (app t es) most is = omega (arith, is)
