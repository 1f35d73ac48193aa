use Rattle.std.proofs.Common.{subst, length}
use Rattle.mz_logic_theory.specs.Declaration.{signatures}
use Rattle.mz_logic_theory.specs.Legality.{InRange}
use Rattle.mz_logic_theory.proofs.Offered.{operand_in_range}
use Rattle.mz_logic.proofs.disjoint.is_in_operand.Goals as goal

pub in_tree-requires : goal.in_tree-requires
in_tree-requires c = subst (InRange (signatures c.args.env.now) (length c.args.ctx.now)) c.in-Some.ensures.operand
    (operand_in_range (signatures c.args.env.now) (length c.args.ctx.now) c.args.es.now c.args.i c.requires.there c.requires.within)
