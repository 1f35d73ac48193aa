use Rattle.mz_axioms.proofs.sets.Sets.+single.Given as goal

abbrev pub decreases-single : goal.decreases-single
decreases-single l = l.size.height
