use Rattle.mz_logic_theory.specs.Tree.{past}
use Rattle.mz_logic_theory.specs.Words.{signatures_of}
use Rattle.mz_emit_bodies.proofs.Making.{Making}
use Rattle.mz_emit_bodies.proofs.shared.instance_hyps.Given as goal

abbrev pub invariant-loop-i : goal.invariant-loop-i
invariant-loop-i g l = Making (signatures_of (g.T.Terms.all_terms l.terms)) l.initial.store l.store l.operands l.ids.items (past l.i l.hyps) l.hyps
