use Rattle.std.proofs.Common.{refl, sym, ◌∙◌, append-nil, arith}
use Rattle.mz_layout_tables.specs.Normal.{record_bytes, table}
use Rattle.mz_layout_tables.proofs.Offered.{appended, all-written, table-next, block-within}
use Rattle.mz_layout.proofs.sequences.put_table.Goals as goal

pub loop-row-init : goal.loop-row-init
loop-row-init c = (refl, c.requires)

pub overflow_cast-place : goal.overflow_cast-place
overflow_cast-place c =
    let within =
    block-within 4294967295 c.loop-row.place c.args.rows.now c.loop-row.row-index c.row-item.result c.block_len.result
    c.loop-row-test.true c.row-item.is c.block_len.ensures.len c.loop-row.invariant.1 in
    omega (arith, within)

pub overflow_add-place : goal.overflow_add-place
overflow_add-place c =
    let within =
    block-within 4294967295 c.loop-row.place c.args.rows.now c.loop-row.row-index c.row-item.result c.block_len.result
    c.loop-row-test.true c.row-item.is c.block_len.ensures.len c.loop-row.invariant.1 in
    omega (arith, within)

pub loop-row-preserved : goal.loop-row-preserved
loop-row-preserved c =
    let next = table-next c.loop-row.place c.args.rows.now c.loop-row.row-index c.row-item.result c.block_len.result c.loop-row-test.true c.row-item.is c.block_len.ensures.len in (
      appended _ _ _ (record_bytes c.loop-row.place c.row-item.result) _ _ c.loop-row.invariant.0 next c.in_ok-put_record.ensures,
      block-within 4294967295 c.loop-row.place c.args.rows.now c.loop-row.row-index c.row-item.result c.block_len.result c.loop-row-test.true c.row-item.is c.block_len.ensures.len
          c.loop-row.invariant.1,
    )

pub returns : goal.returns
returns c =
    sym (append-nil c.loop-row.out.items) ∙ all-written (table c.loop-row.place) c.args.rows.now c.loop-row.row-index _ c.loop-row.out.items c.loop-row-test.false c.loop-row.invariant.0
