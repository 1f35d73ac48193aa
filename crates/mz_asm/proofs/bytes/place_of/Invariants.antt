use Rattle.std.proofs.Common.{◌≡◌, ◌≤◌, ◌<◌, ◌-◌, ◌==◌, ℕ, false, length, get_or}
use Rattle.mz_asm.proofs.bytes.place_of.Given as goal

abbrev pub invariant-places : goal.invariant-places
invariant-places l = record {
  within : l.at ≤ length l.bytes;
  none : (k : ℕ) → k < l.at → (get_or l.bytes k 0 == l.mark) ≡ false;
}

abbrev pub decreases-places : goal.decreases-places
decreases-places l = length l.bytes - l.at
