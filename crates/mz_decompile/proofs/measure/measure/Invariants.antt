use Rattle.std.proofs.Common.{◌-◌, List, length}
use Rattle.mz_mmu_theory.specs.Statements.{Statement}
use Rattle.mz_decompile_text.specs.Naming.{vocabulary_by}
use Rattle.mz_binary_walk.specs.Walk.{IsPlaced}
use Rattle.mz_decompile.specs.Standing.{AreAll}
use Rattle.mz_decompile.proofs.Walking.{IsMeasuring}
use Rattle.mz_decompile.proofs.measure.measure.Given as goal

abbrev pub invariant-statements : goal.invariant-statements
invariant-statements l = record {
  each : (all : List Statement) → AreAll l.mmb l.names all → IsMeasuring l.mmb l.names (vocabulary_by l.names) l.passed l.so_far all;
  placed : IsPlaced l.mmb l.passed;
}

abbrev pub decreases-statements : goal.decreases-statements
decreases-statements l = length l.mmb - l.passed.at
