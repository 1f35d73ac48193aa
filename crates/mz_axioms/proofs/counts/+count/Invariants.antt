use Rattle.mz_axioms.proofs.counts.+count.Given as goal

abbrev pub decreases-count : goal.decreases-count
decreases-count l = l.size.height
