use Rattle.std.proofs.Common.{ap, arith}
use Rattle.mz_logic_theory.proofs.Offered.{past-end}
use Rattle.mz_prefix.specs.Measures.{operand_count}
use Rattle.mz_prefix.proofs.measure.+room_after.Goals as goal

pub room_after_operands-returns : goal.room_after_operands-returns
room_after_operands-returns t c =
    let end = ap operand_count (past-end c.args.es.now c.loop-i.i (omega (arith, c.len-i-end.ensures, c.loop-i-test.false))) in
    omega (arith, end, c.loop-i.invariant)
