use Rattle.mz_tool.proofs.draft.draft.Given as goal

abbrev pub ghosts-judged : goal.ghosts-judged
ghosts-judged a = record { name = a.blank.name; parts = a.blank.parts }
