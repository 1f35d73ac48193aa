use Rattle.std.proofs.Common.{map, drop}
use Rattle.std.specs.Prelude.{◌↔◌}
use Rattle.mz_spec_theory.specs.StatementCode.{lexeme}
use Rattle.mz_spec_variables.specs.Code.{variable}
use Rattle.mz_spec_theory.specs.Dependencies.{IsBoundAmong}
use Rattle.mz_spec_variables.proofs.variables.is_bound.Given as goal

abbrev pub invariant-loop-variable : goal.invariant-loop-variable
invariant-loop-variable l = IsBoundAmong (map variable (drop l.variable-index l.variables)) (lexeme l.dep) ↔ IsBoundAmong (map variable l.variables) (lexeme l.dep)
