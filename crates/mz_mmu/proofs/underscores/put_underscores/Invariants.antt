use Rattle.std.proofs.Common.{◌≡◌, ◌++◌, replicate}
use Rattle.mz_mmu.proofs.underscores.put_underscores.Given as goal

abbrev pub invariant-loop-i : goal.invariant-loop-i
invariant-loop-i l = l.out.items ≡ l.initial.out.items ++ replicate l.i 95
