use Rattle.mz_tool_verify.proofs.judge.verify.Given as goal

abbrev pub ghosts-counted_verdict : goal.ghosts-counted_verdict
ghosts-counted_verdict a = record { name = a.blank.name; parts = a.blank.parts }
