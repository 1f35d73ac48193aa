use Rattle.std.proofs.Common.{take}
use Rattle.mz_axioms.proofs.Halving.{IsAll}
use Rattle.mz_axioms.proofs.sets.one_word.Given as goal

abbrev pub invariant-words : goal.invariant-words
invariant-words l = record { so_far : IsAll (take l.word-index l.words) l.all }
