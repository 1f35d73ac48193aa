use Rattle.std.proofs.Common.{◌≡◌, ◌∙◌, ◌<◌, ◌+◌, length, false, get_or, ap, refl, arith}
use Rattle.std.proofs.lemmas.Bool.{false≢true}
use Rattle.mz_math_operators.specs.Once.{one_if, times}
use Rattle.mz_math_operators.proofs.Marking.{marked-on, named-twice, once-set, set-once}
use Rattle.mz_math_operators.proofs.parameters.mark_each_once.Goals as goal

pub loop-element-init : goal.loop-element-init
loop-element-init c = (
  refl,
  λ i below.
      let all : 0 + times c.args.elements.now i ≡ times c.args.elements.now i = omega arith in
      ap (λ b. one_if b + times c.args.elements.now i) (c.requires i) ∙ all,
)

pub loop-element-preserved : goal.loop-element-preserved
loop-element-preserved c =
    let es = c.args.elements.now in
    let k = c.loop-element.element-index in
    let e = c.element-item.result in
    let old = c.loop-element.marks in
    let new = c.mark_element.new.marks in
    let many = c.mark_element.ensures.many in (
      many ∙ c.loop-element.invariant.0,
      λ i below.
          let within : i < length old = omega (arith, below, many) in
          marked-on es k e c.loop-element-test.true c.element-item.is i (get_or old i false) (get_or new i false)
          (c.mark_element.ensures.marked c.if-not-mark_element.false i within) (c.loop-element.invariant.1 i within),
    )

pub returns-then-not-mark_element : goal.returns-then-not-mark_element
returns-then-not-mark_element c =
    let es = c.args.elements.now in
    let k = c.loop-element.element-index in
    let e = c.element-item.result in
    let old = c.loop-element.marks in
    let (i, within, was, one) = c.mark_element.ensures.twice c.if-not-mark_element.true in (
      λ f. absurd (false≢true f),
      λ all. absurd (named-twice es k e c.loop-element-test.true c.element-item.is i (get_or old i false) was one (c.loop-element.invariant.1 i within)
          (all i (omega (arith, within, c.loop-element.invariant.0)))),
    )

pub returns : goal.returns
returns c =
    let es = c.args.elements.now in
    let k = c.loop-element.element-index in
    let ms = c.loop-element.marks in
    let many = c.loop-element.invariant.0 in (
      λ t i below.
          let within : i < length ms = omega (arith, below, many) in
          set-once es k c.loop-element-test.false i (get_or ms i false) (c.loop-element.invariant.1 i within) (c.are_set.ensures.0 t i within),
      λ all. c.are_set.ensures.1 (λ i within.
          let below : i < length c.args.marks.now = omega (arith, within, many) in
          once-set es k c.loop-element-test.false i (get_or ms i false) (c.loop-element.invariant.1 i within) (all i below)),
    )
