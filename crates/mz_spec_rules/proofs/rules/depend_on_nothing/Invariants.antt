use Rattle.std.proofs.Common.{map, drop}
use Rattle.std.specs.Prelude.{◌↔◌}
use Rattle.mz_spec_variables.specs.Code.{variable}
use Rattle.mz_spec_theory.specs.Dependencies.{Every}
use Rattle.mz_spec_theory.specs.Rules.{DependsOnNothing}
use Rattle.mz_spec_rules.proofs.rules.depend_on_nothing.Given as goal

abbrev pub invariant-loop-variable : goal.invariant-loop-variable
invariant-loop-variable l = Every DependsOnNothing (map variable (drop l.variable-index l.variables)) ↔ Every DependsOnNothing (map variable l.variables)
