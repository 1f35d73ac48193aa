use Rattle.std.proofs.Common.{ℕ, [], Option, map, take, drop}
use Rattle.std.specs.Prelude.{◌↔◌}
use Rattle.mz_spec_theory.specs.Statement.{TypeText}
use Rattle.mz_spec_variables.specs.Code.{IsOfTypes, typed, variable}
use Rattle.mz_spec_theory.specs.Dependencies.{Every}
use Rattle.mz_spec_rules.specs.Entries.{state}
use Rattle.mz_spec_theory.specs.Rules.{AreBinders}
use Rattle.mz_spec_rules.proofs.Binding.{IsGroupBehind}
use Rattle.mz_spec_rules.proofs.state.State.are_binders.Given as goal

abbrev pub invariant-loop-i : goal.invariant-loop-i
invariant-loop-i l = record {
  binders : AreBinders (state l.self) (map variable (take l.i l.params)) (map variable (drop l.i l.params)) ↔ AreBinders (state l.self) [] (map variable l.params);
  last : (types : ℕ → Option TypeText) → Every (IsOfTypes types) (map typed l.params) → IsGroupBehind (state l.self) types (map variable (take l.i l.params)) l.last l.was_bound;
}
