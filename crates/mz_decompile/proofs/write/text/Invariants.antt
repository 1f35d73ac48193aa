use Rattle.std.proofs.Common.{◌-◌, List, length}
use Rattle.mz_mmu_theory.specs.Statements.{Statement}
use Rattle.mz_decompile_text.specs.Naming.{vocabulary_by}
use Rattle.mz_binary_walk.specs.Walk.{IsPlaced}
use Rattle.mz_decompile.specs.Standing.{AreAll}
use Rattle.mz_decompile.proofs.Walking.{IsWriting}
use Rattle.mz_decompile.proofs.write.text.Given as goal

abbrev pub invariant-statements : goal.invariant-statements
invariant-statements l = record {
  each : (all : List Statement) → AreAll l.mmb l.names all → IsWriting l.mmb l.names (vocabulary_by l.names) l.passed l.out.items all;
  placed : IsPlaced l.mmb l.passed;
}

abbrev pub decreases-statements : goal.decreases-statements
decreases-statements l = length l.mmb - l.passed.at
