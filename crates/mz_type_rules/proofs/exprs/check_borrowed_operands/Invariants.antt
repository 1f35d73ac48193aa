use Rattle.std.proofs.Common.{◌≤◌, drop, length}
use Rattle.mz_base.proofs.Offered.{Decides}
use Rattle.mz_logic_theory.specs.Declaration.{signatures}
use Rattle.mz_logic_theory.specs.Tree.{past}
use Rattle.mz_mmu_theory.specs.Rules.{operand_rules}
use Rattle.mz_type_rules.proofs.exprs.check_borrowed_operands.Given as goal

abbrev pub invariant-loop-i : goal.invariant-loop-i
invariant-loop-i l = record {
  decides : Decides (operand_rules (signatures l.env) l.ctx (past l.i l.es) l.left (drop l.i l.params)) (operand_rules (signatures l.env) l.ctx l.es l.nodes l.params);
  within : l.i ≤ length l.params;
}
