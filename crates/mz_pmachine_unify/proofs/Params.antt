-- Operands by their places.
use Rattle.std.proofs.Common.{ℕ, zero, suc, ◌≡◌, ◌<◌, List, [], ◌∷◌, length, get_or, refl, ap, arith}
use Rattle.mz_logic_theory.specs.Tree.{operand}
use Rattle.mz_store.specs.declared.item.Id.{Id}
use Rattle.mz_store.proofs.Offered.{many, nothing}
use Rattle.mz_pmachine_unify.specs.Numbering.{Numbering, tree_of, trees_of, IsIn, AreIn}

pub in-at : (s : Numbering) (is : List Id) (i : ℕ) → AreIn s is → i < length is → IsIn s (get_or is i nothing).0
in-at s [] i inside less = absurd (omega arith)
in-at s (j ∷ is) zero (here, rest) less = here
in-at s (j ∷ is) (suc i) (here, rest) less = in-at s is i rest (omega arith)

pub operand-at : (s : Numbering) (is : List Id) (i : ℕ) → i < length is → operand (trees_of s is) i ≡ tree_of s (get_or is i nothing).0
operand-at s [] i less = absurd (omega arith)
operand-at s (j ∷ is) zero less = refl
operand-at s (j ∷ is) (suc i) less = operand-at s is i (omega arith)

pub many-operands : (s : Numbering) (is : List Id) → many (trees_of s is) ≡ length is
many-operands s [] = refl
many-operands s (i ∷ is) = ap suc (many-operands s is)
