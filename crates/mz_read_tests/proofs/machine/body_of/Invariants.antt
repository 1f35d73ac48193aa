use Rattle.mz_read_tests.proofs.machine.body_of.Given as goal

abbrev pub ghosts-check_alone : goal.ghosts-check_alone
ghosts-check_alone a = record { name = a.blank.name; parts = a.blank.parts }
