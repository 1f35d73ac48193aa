use Rattle.std.proofs.Common.{rules}
use Rattle.mz_sexpr.specs.Scan.{text_checks}
use Rattle.mz_sexpr.proofs.ByteSteps.{byte_decides, byte_fails, byte_rows, depth_kept, tops_kept}
use Rattle.mz_sexpr.proofs.sexprs.read_rows.Goals as goal

pub returns-in-Some : goal.returns-in-Some
returns-in-Some c =
    byte_fails c.args.text.now c.loop-i.i c.loop-i.seen c.loop-i-test.true c.class_at-class.result (text_checks c.args.text.now) c.in-Some.refusal
    c.class_at-class.ensures c.in-Some.ensures c.loop-i.invariant.decides

pub loop-i-preserved : goal.loop-i-preserved
loop-i-preserved c = record {
  decides = rw c.with-seen.ensures (byte_decides c.args.text.now c.loop-i.i c.loop-i.seen c.loop-i-test.true c.class_at-class.result (text_checks c.args.text.now)
      c.class_at-class.ensures c.in_default.ensures c.loop-i.invariant.decides);
  rows_left = rw c.with-seen.ensures (byte_rows c.args.text.now c.loop-i.i c.loop-i.seen c.loop-i-test.true c.class_at-class.result c.loop-i.rows.items _ c.row_at-row.result _ c.class_at-class.ensures
      (search rules) (c.row_at-row.ensures c.args.text.now c.class_at-class.ensures c.loop-i-test.true) c.loop-i.invariant.rows_left);
  depth = rw c.with-seen.ensures (depth_kept c.loop-i.i _ c.loop-i.seen c.class_at-class.result c.in_default.ensures c.loop-i.invariant.depth);
  tops = rw c.with-seen.ensures (tops_kept c.loop-i.i _ c.loop-i.seen c.class_at-class.result c.in_default.ensures c.loop-i.invariant.tops);
}
