use Rattle.mz_read_tests.proofs.trace.proof_of.Given as goal

abbrev pub ghosts-traced : goal.ghosts-traced
ghosts-traced a = record { name = a.blank.name; parts = a.blank.parts }
