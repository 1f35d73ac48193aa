use Rattle.mz_prefix.proofs.Gathering.{Gathered}
use Rattle.mz_prefix.proofs.names.Names.of.Given as goal

abbrev pub invariant-loop-i : goal.invariant-loop-i
invariant-loop-i l = Gathered l.text.statements l.i l.names
