use Rattle.std.proofs.Common.{refl, subst}
use Rattle.std.proofs.lemmas.Bool.{false≢true}
use Rattle.mz_math_operators.specs.Levels.{IsLevelNoted}
use Rattle.mz_math_operators.proofs.Noting.{all-noted, none-noted, noted-on, noted-twice}
use Rattle.mz_math_operators.proofs.ambiguity.keeps_own_levels.Goals as goal

pub loop-element-init : goal.loop-element-init
loop-element-init c = none-noted c.new-levels.result c.args.elements.now c.new-levels.ensures

pub loop-element-preserved : goal.loop-element-preserved
loop-element-preserved c =
    let old = c.loop-element.levels in
    let new = c.note_level.new.levels in
    let e = c.element-item.result in
    noted-on c.args.elements.now c.loop-element.element-index e c.loop-element-test.true c.element-item.is old new
    (subst (λ b. IsLevelNoted b old e new) c.if-not-is_noted.false c.in_ok-is_noted.ensures) c.loop-element.invariant

pub returns-then-not-is_noted : goal.returns-then-not-is_noted
returns-then-not-is_noted c =
    let old = c.loop-element.levels in
    let new = c.note_level.new.levels in
    let e = c.element-item.result in (
      λ f. absurd (false≢true f),
      λ keeps. absurd (noted-twice c.args.elements.now c.loop-element.element-index e c.loop-element-test.true c.element-item.is old new
          (subst (λ b. IsLevelNoted b old e new) c.if-not-is_noted.true c.in_ok-is_noted.ensures) c.loop-element.invariant keeps),
    )

pub returns : goal.returns
returns c = (λ t. all-noted c.loop-element.levels c.args.elements.now c.loop-element.element-index c.loop-element-test.false c.loop-element.invariant, λ all. refl)
