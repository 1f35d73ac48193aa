use Rattle.std.proofs.Common.{◌≡◌, ◌++◌, ℕ, Option, map, drop}
use Rattle.mz_spec_theory.specs.Statement.{TypeText}
use Rattle.mz_spec_variables.specs.Code.{IsOfTypes, typed, variable}
use Rattle.mz_spec_theory.specs.Dependencies.{Every}
use Rattle.mz_spec_rules.specs.Entries.{state}
use Rattle.mz_spec_rules.specs.LastOf.{IsLastOf}
use Rattle.mz_spec_theory.specs.State.{binder_of}
use Rattle.mz_spec_rules.proofs.state.State.push_binders.Given as goal

abbrev pub invariant-loop-variable : goal.invariant-loop-variable
invariant-loop-variable l = record {
  binders : (types : ℕ → Option TypeText) → Every (IsOfTypes types) (map typed l.variables)
      → l.binders ++ map (binder_of (state l.self) (map variable l.params)) (map variable (drop l.variable-index l.variables)) ≡ map (binder_of (state l.self) (map variable l.params)) (map variable l.variables);
  last : (types : ℕ → Option TypeText) → Every (IsOfTypes types) (map typed l.variables) → IsLastOf (state l.self) types (map variable l.params) l.group l.binders;
}
