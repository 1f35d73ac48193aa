use Rattle.mz_read_tests.proofs.cmd.steps_take_no_bytes.Given as goal

abbrev pub ghosts-count_from_none : goal.ghosts-count_from_none
ghosts-count_from_none g a = record { name = a.blank.name; parts = a.blank.parts }
