-- The rules of parameters hold exactly where they are right.
use Rattle.std.proofs.Common.{ℕ, zero, suc, ◌≡◌, ◌+◌, List, [], ◌∷◌, slice_get, Some, refl, sym, ◌∙◌, subst, arith, add-zero, add-suc, suc-add}
use Rattle.std.proofs.lemmas.Option.{none-some}
use Rattle.mz_base.specs.Checks.{AllHold}
use Rattle.mz_sexpr.specs.Node.{Nodes}
use Rattle.mz_sexpr.specs.Number.{rest}
use Rattle.mz_logic_theory.specs.Declaration.{Declaration, sorts}
use Rattle.mz_logic_theory.specs.Legality.{IsParam, AreParams}
use Rattle.mz_logic_theory.specs.declared.binder.Binder.{Binder}
use Rattle.mz_logic_theory.proofs.Offered.{one_at}
use Rattle.mz_mmu_theory.specs.Rules.{param_rules}

module _ (env : List Declaration) (params : List Binder) where
  params_from : (i : ℕ) (bs : List Binder) (ns : Nodes) → AllHold (param_rules env params i bs ns)
      → (k : ℕ) (b : Binder) → slice_get bs k ≡ Some b → IsParam (sorts env) params (i + k) b
  params_from i [] ns all k b at = absurd (none-some _ at)
  params_from i (c ∷ bs) ns (here, all) zero b at = subst (λ j. IsParam (sorts env) params j b) (sym (add-zero i)) (subst (IsParam (sorts env) params i) (one_at refl at) here)
  params_from i (c ∷ bs) ns (here, all) (suc k) b at = subst (λ j. IsParam (sorts env) params j b) (suc-add i k ∙ sym (add-suc i k)) (params_from (suc i) bs (rest ns) all k b at)

  params_to : (i : ℕ) (bs : List Binder) (ns : Nodes) → ((k : ℕ) (b : Binder) → slice_get bs k ≡ Some b → IsParam (sorts env) params (i + k) b)
      → AllHold (param_rules env params i bs ns)
  params_to i [] ns h = tt
  params_to i (c ∷ bs) ns h = (
    subst (λ j. IsParam (sorts env) params j c) (add-zero i) (h zero c refl),
    params_to (suc i) bs (rest ns) (λ k b at. subst (λ j. IsParam (sorts env) params j b) (add-suc i k ∙ sym (suc-add i k)) (h (suc k) b at)),
  )

  pub are_params : (ns : Nodes) → AllHold (param_rules env params 0 params ns) → AreParams (sorts env) params
  are_params ns all k b at = subst (λ j. IsParam (sorts env) params j b) (zero_add k) (params_from 0 params ns all k b at)
    where
      zero_add : (k : ℕ) → 0 + k ≡ k
      zero_add k = omega arith

  pub param_rules_hold : (ns : Nodes) → AreParams (sorts env) params → AllHold (param_rules env params 0 params ns)
  param_rules_hold ns h = params_to 0 params ns (λ k b at. subst (λ j. IsParam (sorts env) params j b) (zero_add k) (h k b at))
    where
      zero_add : (k : ℕ) → k ≡ 0 + k
      zero_add k = omega arith
