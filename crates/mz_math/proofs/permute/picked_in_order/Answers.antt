use Rattle.std.proofs.Common.{None, get_or, ap, refl}
use Rattle.mz_logic_theory.specs.Tree.{followed_by}
use Rattle.mz_logic_theory.specs.View.{tree, trees}
use Rattle.mz_math.specs.Arrange.{picked}
use Rattle.mz_math.proofs.Picking.{picks-all, picks-on}
use Rattle.mz_math.proofs.permute.picked_in_order.Goals as goal

pub loop-at-init : goal.loop-at-init
loop-at-init c = ap (λ es. followed_by es (picked (trees c.args.operands.now) c.args.order.now)) c.in_ok-all.ensures

pub loop-at-preserved : goal.loop-at-preserved
loop-at-preserved c =
    picks-on (trees c.args.operands.now) c.args.order.now c.loop-at.at-index (get_or c.args.order.now c.loop-at.at-index None) c.loop-at-test.true refl c.requires
    (trees c.loop-at.operands) (trees c.taken-operand.new.operands) c.loop-at.all c.push.new.self (tree c.taken-operand.result)
    c.taken-operand.ensures.is c.taken-operand.ensures.kept c.in_ok-push.ensures.ok c.loop-at.invariant

pub returns : goal.returns
returns c = picks-all (trees c.args.operands.now) c.args.order.now c.loop-at.at-index (trees c.loop-at.operands) c.loop-at.all c.loop-at-test.false c.loop-at.invariant
