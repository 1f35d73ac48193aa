use Rattle.std.proofs.Common.{refl, sym, ◌∙◌, append-nil}
use Rattle.mz_layout_tables.specs.Normal.{row_block, blocks}
use Rattle.mz_layout_tables.proofs.Offered.{appended, all-written, blocks-more}
use Rattle.mz_layout.proofs.sequences.put_blocks.Goals as goal

pub loop-row-init : goal.loop-row-init
loop-row-init c = refl

pub loop-row-preserved : goal.loop-row-preserved
loop-row-preserved c =
    let more = blocks-more c.args.rows.now c.loop-row.row-index c.row-item.result c.loop-row-test.true c.row-item.is in
    appended _ _ _ (row_block c.row-item.result) _ _ c.loop-row.invariant more c.in_ok-put_block.ensures

pub returns : goal.returns
returns c =
    sym (append-nil c.loop-row.out.items) ∙ all-written blocks c.args.rows.now c.loop-row.row-index _ c.loop-row.out.items c.loop-row-test.false c.loop-row.invariant
