use Rattle.std.proofs.Common.{◌∙◌, ap, sym}
use Rattle.mz_logic_theory.specs.View.{tree}
use Rattle.mz_logic_theory.proofs.Offered.{operand_in, operand_past}
use Rattle.mz_math.proofs.Picking.{operand-other}
use Rattle.mz_math.proofs.permute.taken_at.Goals as goal

pub returns-then-k-operands-clause-is : goal.returns-then-k-operands-clause-is
returns-then-k-operands-clause-is c = c.absent.ensures ∙ sym (operand_past c.args.operands.now c.args.k c.if-k-operands.true)

pub returns-clause-is : goal.returns-clause-is
returns-clause-is c = ap tree c.replace.ensures.value ∙ sym (operand_in c.args.operands.now c.args.k _ c.if-k-operands.false)

pub returns-clause-kept : goal.returns-clause-kept
returns-clause-kept c = λ j other. operand-other c.args.operands.now c.args.k j c.replace.new.dest other
