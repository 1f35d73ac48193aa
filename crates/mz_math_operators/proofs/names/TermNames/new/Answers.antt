use Rattle.mz_math_operators.proofs.Naming.{once-empty}
use Rattle.mz_math_operators.proofs.names.TermNames.new.Goals as goal

pub invariant_of-result : goal.invariant_of-result
invariant_of-result c = once-empty (λ k. k.items) c.with_hasher.result.entries c.with_hasher.ensures.empty
