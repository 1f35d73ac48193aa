use Rattle.std.proofs.Common.{◌≡◌, take}
use Rattle.mz_asm.specs.Numbers.{number_of}
use Rattle.mz_asm.proofs.number.value_of.Given as goal

abbrev pub invariant-loop-digit : goal.invariant-loop-digit
invariant-loop-digit l = l.value ≡ number_of (take l.digit-index l.digits)
