use Rattle.std.proofs.Common.{◌≡◌, max}
use Rattle.mz_mmu_theory.specs.DeclaredNames.{longest_run}
use Rattle.mz_decompile_text.specs.Names.{declared_names}
use Rattle.mz_decompile_text.proofs.Runs.{rest}
use Rattle.mz_decompile_text.proofs.source.longest_run.Given as goal

abbrev pub invariant-loop-k : goal.invariant-loop-k
invariant-loop-k l = max l.run (longest_run (rest l.spec.text.now l.spec.declared l.k)) ≡ longest_run (declared_names l.spec.text.now l.spec.declared)
