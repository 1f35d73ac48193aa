use Rattle.std.proofs.Common.{◌≡◌, ◌∙◌, ℕ, List, Contains, sym, subst, refl}
use Rattle.std.proofs.lemmas.Bool.{true≢false, false≢true}
use Rattle.mz_base.proofs.Offered.{all_so_far_more, all-members}
use Rattle.mz_math_theory.specs.declared.notation.Element.{Element}
use Rattle.mz_math_theory.specs.declared.notation.Element.TheVariants.{Fixed as fixed}
use Rattle.mz_math_theory.specs.Clear.{HasConstant}
use Rattle.mz_math_operators.proofs.ambiguity.keeps_levels.Goals as goal

pub returns-then-not-keeps_level : goal.returns-then-not-keeps_level
returns-then-not-keeps_level c =
    let mem : Contains c.args.elements.now c.element-item.result = (c.loop-element.element-index, c.loop-element-test.true, sym c.element-item.is) in
    (λ f. absurd (false≢true f), λ all. absurd (true≢false (sym (c.keeps_level.ensures.1 (λ w q p is. all w q p (subst (Contains c.args.elements.now) is mem))) ∙ c.if-not-keeps_level.true)))

pub loop-element-preserved : goal.loop-element-preserved
loop-element-preserved c =
    let P : Element → Type 0 = λ x. (w : List ℕ) (q p : ℕ) → x ≡ fixed w q → HasConstant c.args.notations.now w p → p ≡ q in
    all_so_far_more P c.args.elements.now c.loop-element.element-index c.element-item.result c.loop-element.invariant c.loop-element-test.true
    (subst P c.element-item.is (c.keeps_level.ensures.0 c.if-not-keeps_level.false))

pub returns : goal.returns
returns c =
    let P : Element → Type 0 = λ x. (w : List ℕ) (q p : ℕ) → x ≡ fixed w q → HasConstant c.args.notations.now w p → p ≡ q in
    let seen = c.loop-element.invariant in
    let done = c.loop-element-test.false in
    (λ t. λ w q p inn. all-members P c.args.elements.now seen done (fixed w q) inn w q p refl, λ all. refl)
