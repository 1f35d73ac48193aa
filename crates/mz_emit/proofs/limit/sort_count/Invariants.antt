use Rattle.std.proofs.Common.{◌≡◌, ◌≤◌, ◌+◌, drop}
use Rattle.mz_mmu_theory.specs.Weight.{sort_count}
use Rattle.mz_emit.proofs.limit.sort_count.Given as goal

abbrev pub invariant-loop-i : goal.invariant-loop-i
invariant-loop-i l = record { count : l.n + sort_count (drop l.i l.text.statements) ≡ sort_count l.text.statements; most : l.n ≤ l.i }
