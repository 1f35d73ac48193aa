use Rattle.std.proofs.Common.{◌≡◌, ◌++◌, ℕ, Option, map, drop}
use Rattle.mz_spec_theory.specs.Statement.{TypeText}
use Rattle.mz_spec_variables.specs.Code.{IsOfTypes, typed, variable}
use Rattle.mz_spec_theory.specs.Dependencies.{Every}
use Rattle.mz_spec_rules.specs.Entries.{state}
use Rattle.mz_spec_rules.specs.LastOf.{IsLastOf}
use Rattle.mz_spec_theory.specs.State.{binder_of, variable_bytes}
use Rattle.mz_spec_rules.proofs.state.State.push_variables.Given as goal

abbrev pub invariant-loop-variable : goal.invariant-loop-variable
invariant-loop-variable l = record {
  names : l.scope.names ++ map variable_bytes (map variable (drop l.variable-index l.variables)) ≡ l.initial.scope.names ++ map variable_bytes (map variable l.variables);
  binders : (types : ℕ → Option TypeText) → Every (IsOfTypes types) (map typed l.variables)
      → l.scope.binders ++ map (binder_of (state l.self) (map variable l.params)) (map variable (drop l.variable-index l.variables))
      ≡ l.initial.scope.binders ++ map (binder_of (state l.self) (map variable l.params)) (map variable l.variables);
  last : (types : ℕ → Option TypeText) → Every (IsOfTypes types) (map typed l.variables) → IsLastOf (state l.self) types (map variable l.params) l.group l.scope.binders;
}
