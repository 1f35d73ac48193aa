use Rattle.std.proofs.Common.{ℕ, List, false, subst, sym}
use Rattle.std.proofs.Math.ListN.{replicate}
use Rattle.mz_lex.specs.Sets.{Tells}
use Rattle.mz_lex.proofs.Marking.{none-tells}
use Rattle.mz_lex.proofs.set.ByteSet.new.Goals as goal

pub invariant_of-result : goal.invariant_of-result
invariant_of-result c = subst (λ (xs : List ℕ). Tells (replicate 256 false) xs) (sym c.new.ensures.items) (none-tells 256)
