use Rattle.std.proofs.Common.{◌≡◌, ℕ, List}
use Rattle.mz_base.proofs.Offered.{AllSoFar}
use Rattle.mz_math_theory.specs.declared.notation.Element.{Element}
use Rattle.mz_math_theory.specs.declared.notation.Element.TheVariants.{Fixed as fixed}
use Rattle.mz_math_theory.specs.Clear.{HasConstant}
use Rattle.mz_math_operators.proofs.ambiguity.keeps_levels.Given as goal

abbrev pub invariant-loop-element : goal.invariant-loop-element
invariant-loop-element l = AllSoFar (λ (x : Element). (w : List ℕ) (q p : ℕ) → x ≡ fixed w q → HasConstant l.notations w p → p ≡ q) l.elements l.element-index
