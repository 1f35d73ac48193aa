use Rattle.std.proofs.Common.{◌∙◌, ◌<◌, ◌+◌, None, get_or, length, drop, ap, ap₂, sym, refl, arith}
use Rattle.mz_math_theory.specs.Listed.{element}
use Rattle.mz_math_theory.specs.Notation.{places}
use Rattle.mz_math.specs.Arrange.{first_of}
use Rattle.mz_math.proofs.Arranging.{at-constant, at-slot}
use Rattle.mz_math.proofs.Picking.{first_with, with-more, with-none, with-past}
use Rattle.mz_math.proofs.permute.note_order.Goals as goal
use Rattle.mz_math.proofs.permute.note_order.Goals.{in-Fixed, in-Slot}

pub elements-init : goal.elements-init
elements-init c = (
  refl,
  omega arith,
  λ i below.
      let first = first_of (places c.args.elements.now) i in
      ap (λ o. first_with o 0 first) (c.requires i) ∙ with-none 0 first refl,
)

pub elements-preserved : goal.elements-preserved
elements-preserved c =
    let es = c.args.elements.now in
    let k = c.elements.at in
    let e = element c.in-Some.element in
    let here = c.in-Some.ensures.element in
    let next = c.elements.next in
    let (many, few, so_far) = c.elements.invariant in
    elim c.match-element.branch [
      | in-Fixed w ↦ (
        ap length w.order-is ∙ many,
        omega (arith, few, w.next-is),
        λ i below.
            let within : i < length c.elements.order = omega (arith, below, ap length w.order-is) in
            ap₂ (λ os n. first_with (get_or os i None) n (first_of (places (drop (k + 1) es)) i)) w.order-is w.next-is
            ∙ ap (λ js. first_with (get_or c.elements.order i None) next (first_of js i)) (sym (at-constant es k e here _ _ (ap element w.in-Fixed.is))) ∙ so_far i within,
      )
      | in-Slot w ↦ (
        ap length w.order-is ∙ w.note_first.ensures.many ∙ many,
        omega (arith, few, w.next-is),
        λ i below.
            let within : i < length c.elements.order = omega (arith, below, ap length w.order-is, w.note_first.ensures.many) in
            let js = places (drop (k + 1) es) in
            ap₂ (λ os n. first_with (get_or os i None) n (first_of js i)) w.order-is w.next-is
            ∙ with-more w.in-Slot.slot i next (get_or c.elements.order i None) (get_or w.note_first.new.order i None) js (w.note_first.ensures.noted i within)
            ∙ ap (λ ks. first_with (get_or c.elements.order i None) next (first_of ks i)) (sym (at-slot es k e here w.in-Slot.slot (ap element w.in-Slot.is))) ∙ so_far i within,
      )
    ]

pub returns-clause-firsts : goal.returns-clause-firsts
returns-clause-firsts c = λ i below.
    let (many, few, so_far) = c.elements.invariant in
    let none_left = ap places c.in_default.ensures.element in
    let within : i < length c.elements.order = omega (arith, below, many) in
    sym (with-past c.elements.next (get_or c.elements.order i None))
    ∙ ap (λ js. first_with (get_or c.elements.order i None) c.elements.next (first_of js i)) (sym none_left) ∙ so_far i within
