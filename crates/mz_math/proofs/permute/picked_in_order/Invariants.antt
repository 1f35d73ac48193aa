use Rattle.mz_logic_theory.specs.View.{trees}
use Rattle.mz_math.proofs.Picking.{PicksTo}
use Rattle.mz_math.proofs.permute.picked_in_order.Given as goal

abbrev pub invariant-loop-at : goal.invariant-loop-at
invariant-loop-at l = PicksTo (trees l.initial.operands) l.order l.at-index (trees l.operands) l.all
