use Rattle.mz_axioms.proofs.sets.Sets.+union.Given as goal

abbrev pub decreases-union : goal.decreases-union
decreases-union l = l.height
