use Rattle.std.proofs.Common.{take}
use Rattle.mz_axioms.proofs.Halving.{SoFar}
use Rattle.mz_axioms.proofs.sets.without_repeats.Given as goal

abbrev pub invariant-ids : goal.invariant-ids
invariant-ids l = record { so_far : SoFar (take l.id-index l.ids) l.kept.items l.last }
