use Rattle.std.proofs.Common.{◌≡◌, ◌+◌, drop}
use Rattle.mz_mmu_theory.specs.DeclaredNames.{underscores}
use Rattle.mz_mmu.proofs.underscores.leading_underscores.Given as goal

abbrev pub invariant-loop-byte : goal.invariant-loop-byte
invariant-loop-byte l = (l.count ≡ l.byte-index) × (l.count + underscores (drop l.byte-index l.name) ≡ underscores l.name)
