use Rattle.std.proofs.Common.{map, take, drop}
use Rattle.std.specs.Prelude.{◌↔◌}
use Rattle.mz_spec_theory.specs.StatementCode.{lexeme}
use Rattle.mz_spec_variables.specs.Code.{variable}
use Rattle.mz_spec_theory.specs.Dependencies.{Every, IsBoundAmong}
use Rattle.mz_spec_variables.proofs.by_name.are_bound_before.Given as goal

abbrev pub invariant-loop-dep : goal.invariant-loop-dep
invariant-loop-dep l = Every (IsBoundAmong (map variable (take l.end l.variables))) (map lexeme (drop l.dep-index l.deps)) ↔ Every (IsBoundAmong (map variable (take l.end l.variables))) (map lexeme l.deps)
