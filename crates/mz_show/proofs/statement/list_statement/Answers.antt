use Rattle.mz_show.proofs.Parts.{statement-told}
use Rattle.mz_show.proofs.statement.list_statement.Goals as goal

pub returns : goal.returns
returns c =
    statement-told c.args.mmb.now c.args.place c.args.head c.args.text.now.items _ c.list_streams.new.text.items c.list_streams.result
    c.requires.holds c.in_ok-list_row.ensures c.list_streams.ensures
