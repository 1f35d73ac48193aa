use Rattle.std.proofs.Common.{◌+◌, sym, ap, ◌∙◌, arith}
use Rattle.mz_logic_theory.specs.Tree.{past, trees_size}
use Rattle.mz_logic_theory.proofs.Offered.{past-end}
use Rattle.mz_type.specs.Shapes.{all_counted}
use Rattle.mz_type.proofs.Shaping.{total, total_counted}
use Rattle.mz_type.proofs.instance_sizes.+count_uses.Goals as goal

pub count_all-count_uses-requires : goal.count_all-count_uses-requires
count_all-count_uses-requires t c =
    let cut = ap trees_size c.at.ensures.left in (omega (arith, c.at.ensures.within, c.decreases), omega (arith, cut, c.loop-i.invariant.room))

pub count_all-loop-i-preserved : goal.count_all-loop-i-preserved
count_all-loop-i-preserved t c =
    let i = c.loop-i.i in
    let cut = ap trees_size c.at.ensures.left in
    record {
      left = ap (λ us. all_counted us (past (i + 1) c.args.es.now)) c.count_uses.ensures ∙ sym (ap (all_counted c.loop-i.uses) c.at.ensures.left) ∙ c.loop-i.invariant.left;
      room = omega (arith, cut, c.loop-i.invariant.room, total_counted c.loop-i.uses c.at.result, ap total c.count_uses.ensures);
    }

pub count_all-returns : goal.count_all-returns
count_all-returns t c =
    ap (all_counted c.loop-i.uses) (sym (past-end c.args.es.now c.loop-i.i (omega (arith, c.len-i-end.ensures, c.loop-i-test.false)))) ∙ c.loop-i.invariant.left
