use Rattle.mz_axioms.proofs.counts.+nth_bit.Given as goal

abbrev pub decreases-nth_bit : goal.decreases-nth_bit
decreases-nth_bit l = l.many
