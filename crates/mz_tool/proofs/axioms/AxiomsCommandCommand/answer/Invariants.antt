use Rattle.mz_tool.proofs.axioms.AxiomsCommandCommand.answer.Given as goal

abbrev pub ghosts-judged : goal.ghosts-judged
ghosts-judged g a = record { name = a.blank.name; parts = a.blank.parts }
