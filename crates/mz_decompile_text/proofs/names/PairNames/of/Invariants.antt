use Rattle.std.proofs.Common.{◌-◌, length}
use Rattle.mz_binary_walk.specs.Walk.{IsPlaced}
use Rattle.mz_decompile_text.specs.Names.{declared_names}
use Rattle.mz_decompile_text.proofs.Walking.{Walked}
use Rattle.mz_decompile_text.proofs.names.PairNames.of.Given as goal

abbrev pub invariant-statements : goal.invariant-statements
invariant-statements l = record { so_far : Walked (declared_names l.spec.text.now l.spec.declared) l.mmb l.passed l.names; placed : IsPlaced l.mmb l.passed }

abbrev pub decreases-statements : goal.decreases-statements
decreases-statements l = length l.mmb - l.passed.at
