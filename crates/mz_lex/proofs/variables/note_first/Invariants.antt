use Rattle.mz_lex.proofs.Placing.{AreNoted}
use Rattle.mz_lex.proofs.variables.note_first.Given as goal

abbrev pub invariant-names : goal.invariant-names
invariant-names l = AreNoted l.i l.places l.names
