use Rattle.std.proofs.Common.{subst}
use Rattle.mz_base.specs.Checks.{Judges}
use Rattle.mz_logic_theory.specs.Declaration.{signatures}
use Rattle.mz_mmu_theory.specs.Rules.{operand_rules}
use Rattle.mz_type_rules.proofs.exprs.check_operands.Goals as goal

pub returns : goal.returns
returns c =
    subst (λ es. Judges c.check_borrowed_operands.result (operand_rules (signatures c.args.env.now) c.args.ctx.now es c.args.nodes.now c.args.params.now)) c.borrowed.ensures
    c.check_borrowed_operands.ensures
