-- Binders of a group's variables, which depend on the same.
use Rattle.std.proofs.Common.{◌≡◌, ◌∙◌, ◌-◌, ◌++◌, ◌∷◌, [], ℕ, List, Option, Some, length, ap, subst, arith}
use Rattle.std.specs.Prelude.{slice_get}
use Rattle.std.specs.Option.{option_map_or}
use Rattle.mz_base.proofs.Offered.{length-push, slice_get-last}
use Rattle.mz_logic_theory.specs.Alike.{deps_at}
use Rattle.mz_logic_theory.specs.declared.binder.Binder.{Binder}
use Rattle.mz_logic_theory.proofs.Offered.{one_at}
use Rattle.mz_spec_theory.specs.Dependencies.{dep_places}
use Rattle.mz_spec_theory.specs.State.{State, binder_of, sort_number}
use Rattle.mz_spec_theory.specs.Statement.{TypeText}
use Rattle.mz_spec_theory.specs.StatementCode.{type_text}
use Rattle.mz_spec_theory.specs.View.{Variable}
use Rattle.mz_spec_variables.specs.Code.{IsOfTypes, IsTypedBy, typed, variable}
use Rattle.mz_spec_variables.specs.declared.variables.Variable.{Variable as VariableRead}
use Rattle.mz_spec_rules.specs.LastOf.{IsLastOf, sort_at}

module _ (types : ℕ → Option TypeText) (v : VariableRead) (is : IsOfTypes types (typed v)) where
  -- a variable has the type of its group
  pub in-group : (g : ℕ) → v.group ≡ Some g → types g ≡ Some (type_text v.ty.now)
  in-group g own = subst (λ o. IsTypedBy types o (type_text v.ty.now)) own is

  module _ (σ : State) (ps : List Variable) (bs : List Binder) where
    -- so where the last one's is its group, it has the sort of the last one, and depends on what that does
    pub as-last : (group : Option ℕ) → IsLastOf σ types ps group bs → (g : ℕ) → v.group ≡ Some g → group ≡ Some g
        → (sort_at bs (length bs - 1) ≡ sort_number σ (type_text v.ty.now)) × (deps_at bs (length bs - 1) ≡ dep_places 0 ps (type_text v.ty.now).deps)
    as-last group last g own same = last g (type_text v.ty.now) same (in-group g own)

    -- and it is the last one then
    pub last-more : (new : List Binder) → new ≡ bs ++ binder_of σ ps (variable v) ∷ [] → IsLastOf σ types ps v.group new
    last-more new is-new g t own told =
        let same = one_at (in-group g own) told in (
          ended (λ x. x.sort) 0 ∙ ap (sort_number σ) same,
          ended (λ x. x.deps) [] ∙ ap (λ (u : TypeText). dep_places 0 ps u.deps) same,
        )
      where
        b : Binder
        b = binder_of σ ps (variable v)

        ended : {X : Type 0} → (f : Binder → X) (other : X) → option_map_or f (slice_get new (length new - 1)) other ≡ f b
        ended f other =
            ap (λ (xs : List Binder). option_map_or f (slice_get xs (length xs - 1)) other) is-new
            ∙ ap (λ i. option_map_or f (slice_get (bs ++ b ∷ []) i) other) (let many = length-push bs b in let end : length (bs ++ b ∷ []) - 1 ≡ length bs = omega (arith, many) in end)
            ∙ ap (λ o. option_map_or f o other) (slice_get-last bs b)
