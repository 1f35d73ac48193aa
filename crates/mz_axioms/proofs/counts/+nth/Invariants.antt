use Rattle.mz_axioms.proofs.counts.+nth.Given as goal

abbrev pub decreases-nth : goal.decreases-nth
decreases-nth l = l.size.height
