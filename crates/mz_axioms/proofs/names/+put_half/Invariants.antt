use Rattle.mz_axioms.proofs.names.+put_half.Given as goal

abbrev pub decreases-put_half : goal.decreases-put_half
decreases-put_half g l = l.size.height
