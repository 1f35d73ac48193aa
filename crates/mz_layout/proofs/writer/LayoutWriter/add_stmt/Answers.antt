use Rattle.mz_layout_tables.proofs.Offered.{room-for-statement}
use Rattle.mz_layout.proofs.writer.LayoutWriter.add_stmt.Goals as goal

pub invariant_of-self-2 : goal.invariant_of-self-2
invariant_of-self-2 c =
    room-for-statement _ c.in_ok-statement.statement c.self.invariant (rw c.in_ok-statement.ensures c.requires) c.push.new.self.items c.in_ok-push.ensures.items
