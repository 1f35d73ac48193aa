use Rattle.std.proofs.Common.{◌+◌, ◌*◌}
use Rattle.mz_logic_theory.specs.Tree.{past, size, trees_size}
use Rattle.mz_logic_theory.specs.Words.{signatures_of}
use Rattle.mz_emit_bodies.proofs.Making.{Making}
use Rattle.mz_emit_bodies.proofs.shared.+instance_id.Given as goal

abbrev pub decreases-instance_ids : goal.decreases-instance_ids
decreases-instance_ids g l = 2 * trees_size l.es.now + 1

abbrev pub decreases-instance_id : goal.decreases-instance_id
decreases-instance_id g l = 2 * size l.expr.now

abbrev pub invariant-instance_ids-loop-i : goal.invariant-instance_ids-loop-i
invariant-instance_ids-loop-i g l = Making (signatures_of (g.T.Terms.all_terms l.terms)) l.initial.store l.store l.operands l.ids.items (past l.i l.es) l.es
