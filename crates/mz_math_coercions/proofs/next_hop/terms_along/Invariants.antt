use Rattle.std.proofs.Common.{◌-◌, length}
use Rattle.mz_math_coercions.proofs.Leading.{IsAlong}
use Rattle.mz_math_coercions.proofs.next_hop.terms_along.Given as goal

abbrev pub invariant-steps : goal.invariant-steps
invariant-steps l = IsAlong l.items l.fn.from l.to l.sort l.terms.items

abbrev pub decreases-steps : goal.decreases-steps
decreases-steps l = length l.items - length l.terms.items
