use Rattle.std.proofs.Common.{◌≡◌, max, drop}
use Rattle.mz_mmu_theory.specs.DeclaredNames.{longest_run, text_names}
use Rattle.mz_prefix.proofs.gather.longest_run.Given as goal

abbrev pub invariant-loop-i : goal.invariant-loop-i
invariant-loop-i l = max l.run (longest_run (text_names (drop l.i l.text.statements))) ≡ longest_run (text_names l.text.statements)
