use Rattle.mz_read_tests.proofs.sexpr.+outline.Given as goal

abbrev pub decreases-outline : goal.decreases-outline
decreases-outline l = l.limit
