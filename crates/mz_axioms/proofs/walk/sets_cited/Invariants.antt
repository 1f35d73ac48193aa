use Rattle.std.proofs.Common.{◌≤◌, ◌-◌}
use Rattle.mz_axioms.proofs.Telling.{SetsCited}
use Rattle.mz_axioms.proofs.walk.sets_cited.Given as goal

abbrev pub invariant-citations : goal.invariant-citations
invariant-citations l = record { to : l.pos ≤ l.head.next; so_far : SetsCited l.mmb l.rows l.head.body l.head.next l.pos l.ids.items }

abbrev pub decreases-citations : goal.decreases-citations
decreases-citations l = l.head.next - l.pos
