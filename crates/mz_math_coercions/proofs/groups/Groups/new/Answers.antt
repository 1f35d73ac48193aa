use Rattle.mz_math_coercions.proofs.Naming.{none-down}
use Rattle.mz_math_coercions.proofs.groups.Groups.new.Goals as goal

pub invariant_of-result : goal.invariant_of-result
invariant_of-result c = none-down c.new.result.items c.new.ensures.items
