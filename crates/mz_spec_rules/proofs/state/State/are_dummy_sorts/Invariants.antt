use Rattle.std.proofs.Common.{ℕ, Option, map, drop}
use Rattle.std.specs.Prelude.{◌↔◌}
use Rattle.mz_spec_theory.specs.Statement.{TypeText}
use Rattle.mz_spec_variables.specs.Code.{IsOfTypes, typed, variable}
use Rattle.mz_spec_rules.specs.Entries.{state}
use Rattle.mz_spec_theory.specs.Dependencies.{Every}
use Rattle.mz_spec_theory.specs.Rules.{IsDummySort}
use Rattle.mz_spec_rules.proofs.Binding.{IsGroupDummy}
use Rattle.mz_spec_rules.proofs.state.State.are_dummy_sorts.Given as goal

abbrev pub invariant-loop-dummy : goal.invariant-loop-dummy
invariant-loop-dummy l = record {
  sorts : (types : ℕ → Option TypeText) → Every (IsOfTypes types) (map typed l.dummies)
      → Every (IsDummySort (state l.self)) (map variable (drop l.dummy-index l.dummies)) ↔ Every (IsDummySort (state l.self)) (map variable l.dummies);
  last : (types : ℕ → Option TypeText) → Every (IsOfTypes types) (map typed l.dummies) → IsGroupDummy (state l.self) types l.last;
}
