use Rattle.std.proofs.Common.{map, drop}
use Rattle.mz_base.specs.Checks.{each_in_order}
use Rattle.mz_base.proofs.Offered.{Decides}
use Rattle.mz_spec_theory.specs.StatementCode.{lexeme}
use Rattle.mz_spec_theory.specs.Rules.{is_known}
use Rattle.mz_spec_rules.proofs.rules.check_all_known.Given as goal

abbrev pub invariant-loop-name : goal.invariant-loop-name
invariant-loop-name l = Decides (each_in_order (is_known l.names) (map lexeme (drop l.name-index l.found))) (each_in_order (is_known l.names) (map lexeme l.found))
