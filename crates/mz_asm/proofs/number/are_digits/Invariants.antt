use Rattle.std.proofs.Common.{◌≡◌, true, take}
use Rattle.mz_asm.specs.Numbers.{are_digits}
use Rattle.mz_asm.proofs.number.are_digits.Given as goal

abbrev pub invariant-loop-byte : goal.invariant-loop-byte
invariant-loop-byte l = are_digits (take l.byte-index l.bytes) ≡ true
