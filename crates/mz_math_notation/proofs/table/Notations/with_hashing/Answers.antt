use Rattle.mz_math_theory.proofs.Offered.{empty-made}
use Rattle.mz_math_notation.proofs.table.Notations.with_hashing.Goals as goal

pub invariant_of-result : goal.invariant_of-result
invariant_of-result c =
    empty-made c.new.result c.new-2.result c.new-3.result c.new-4.result c.new-5.result c.new.ensures c.new-2.ensures c.new-3.ensures c.new-4.ensures c.new-5.ensures
