-- The words of expressions stay right when a variable is entered.
use Rattle.std.proofs.Common.{ℕ, ◌∷◌, [], ◌++◌, Bool, List, length, refl, sym, subst, inl, inr}
use Rattle.mz_base.proofs.Offered.{slice_get-last}
use Rattle.mz_logic_theory.specs.Tree.{var}
use Rattle.mz_logic_theory.specs.Signature.{Signature}
use Rattle.mz_logic_theory.specs.Variables.{InV}
use Rattle.mz_logic_theory.specs.declared.binder.Binder.{Binder}
use Rattle.mz_logic_theory.proofs.Offered.{Extends, extends_append, DepsInside}
use Rattle.mz_store.specs.Bits.{Tells, bound_vars}
use Rattle.mz_store.specs.Nodes.{binder_after, IsVariableWord}
use Rattle.mz_store.specs.declared.item.DepsMode.TheVariants as of
use Rattle.mz_store.proofs.Offered.{tells-longer, told-of-var, tells-variable, adds-past}
use Rattle.mz_pmachine_unify.specs.Numbering.{Numbering, entry_of, by_vars, by_deps, IsRightEntry, IsOver}
use Rattle.mz_pmachine_unify.specs.Entering.{Made, variable, entered}
use Rattle.mz_pmachine_unify.proofs.Growing.{entered-begins, entry-kept, entry-new, in-cases}

pub over-entered : (s : Numbering) (sort deps : ℕ) (bound : Bool) → DepsInside s.context → IsVariableWord (length (bound_vars s.context)) deps bound
    → (sigs : List Signature) → IsOver sigs s → IsOver sigs (entered s (record { sort = sort; vars = deps; deps = deps; form = variable bound }))
over-entered s sort deps bound inside word sigs over i in_i = elim (in-cases s n i in_i) [
  | inl before ↦ subst (IsRightEntry s.mode sigs ctx') (sym (entry-kept s (entered s n) (entered-begins s n) i before)) (
    tells-longer s.mode sigs s.context ctx' longer (adds-past s.context b) inside (by_deps (entry_of s i)) (over i before).0,
    tells-longer of.All sigs s.context ctx' longer (adds-past s.context b) inside (by_vars (entry_of s i)) (over i before).1,
  )
  | inr last ↦ subst (λ j. IsRightEntry s.mode sigs ctx' (entry_of (entered s n) j)) (sym last) (subst (IsRightEntry s.mode sigs ctx') (sym (entry-new s n)) (
    ((b, slice_get-last s.context b, refl), told-of-var s.mode sigs ctx' (bound_vars ctx') deps (length s.context) its-own),
    ((b, slice_get-last s.context b, refl), its-own),
  ))
]
  where
    n : Made
    n = record { sort = sort; vars = deps; deps = deps; form = variable bound }

    b : Binder
    b = binder_after s.context sort deps bound

    ctx' : List Binder
    ctx' = s.context ++ b ∷ []

    longer : Extends s.context ctx'
    longer = extends_append s.context (b ∷ [])

    its-own : Tells (bound_vars ctx') deps (λ x. InV ctx' x (var (length s.context)))
    its-own = tells-variable s.context sort deps bound word
