use Rattle.mz_decompile.proofs.proof.prove.Given as goal

abbrev pub ghosts-traced : goal.ghosts-traced
ghosts-traced a = record { name = a.blank.name; parts = a.blank.parts }
