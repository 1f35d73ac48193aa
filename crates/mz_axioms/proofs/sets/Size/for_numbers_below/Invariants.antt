use Rattle.std.proofs.Common.{◌≡◌, ◌≤◌, ◌<◌, ◌-◌, ◌^◌}
use Rattle.mz_axioms.specs.Members.{span}
use Rattle.mz_axioms.proofs.sets.Size.for_numbers_below.Given as goal

abbrev pub invariant-heights : goal.invariant-heights
invariant-heights l = record { power : l.span ≡ span l.height; some : 64 ≤ l.span; low : l.height < l.span; small : l.span ≤ 2 ^ 33 }

abbrev pub decreases-heights : goal.decreases-heights
decreases-heights l = l.bound - l.span
