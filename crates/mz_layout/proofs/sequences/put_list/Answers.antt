use Rattle.std.proofs.Common.{refl}
use Rattle.mz_layout_tables.specs.Normal.{statement_bytes, list_bytes}
use Rattle.mz_layout_tables.proofs.Offered.{appended, all-written, ended, list-more, statement-within}
use Rattle.mz_layout.proofs.sequences.put_list.Goals as goal

pub loop-statement-init : goal.loop-statement-init
loop-statement-init c = (refl, c.requires)

pub put-requires : goal.put-requires
put-requires c =
    let within =
    statement-within 4294967295 c.args.statements.now c.loop-statement.statement-index c.statement-item.result
    c.loop-statement-test.true c.statement-item.is c.loop-statement.invariant.1 in
    within.0

pub loop-statement-preserved : goal.loop-statement-preserved
loop-statement-preserved c =
    let within =
    statement-within 4294967295 c.args.statements.now c.loop-statement.statement-index c.statement-item.result
    c.loop-statement-test.true c.statement-item.is c.loop-statement.invariant.1 in
    let more = list-more c.args.statements.now c.loop-statement.statement-index c.statement-item.result c.loop-statement-test.true c.statement-item.is in (
      appended _ _ _ (statement_bytes c.statement-item.result) _ _ c.loop-statement.invariant.0 more c.in_ok-put.ensures,
      within.1,
    )

pub returns : goal.returns
returns c =
    ended c.extend_from_slice.result _ _ _ _ c.extend_from_slice.ensures.items
    (all-written list_bytes c.args.statements.now c.loop-statement.statement-index _ c.loop-statement.out.items c.loop-statement-test.false c.loop-statement.invariant.0)
