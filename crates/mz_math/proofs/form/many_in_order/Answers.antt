use Rattle.std.proofs.Common.{◌++◌, ◌∙◌, ap, sym}
use Rattle.std.proofs.lemmas.List.{append-nil}
use Rattle.mz_math_theory.specs.Listed.{element, slots}
use Rattle.mz_math_theory.specs.Notation.{places}
use Rattle.mz_math.proofs.Arranging.{counts-constant, counts-slot}
use Rattle.mz_math.proofs.form.many_in_order.Goals as goal
use Rattle.mz_math.proofs.form.many_in_order.Goals.{in-Fixed, in-Slot+else-slot-next}

pub elements-preserved : goal.elements-preserved
elements-preserved c =
    let ls = c.args.elements.now in
    let i = c.elements.at in
    let e = element c.in-Some.element in
    let here = c.in-Some.ensures.element in
    elim c.match-element.branch [
      | in-Fixed w ↦ counts-constant ls i c.elements.next c.match-element.next e here _ _ (ap element w.in-Fixed.is) w.next-is c.elements.invariant
      | in-Slot+else-slot-next w ↦ counts-slot ls i c.elements.next c.match-element.next e here w.in-Slot.slot (ap element w.in-Slot.is) w.if-slot-next.false w.next-is c.elements.invariant
    ]

pub returns : goal.returns
returns c =
    let counted = places (slots 0 c.elements.next) in
    sym c.elements.invariant.0 ∙ ap (λ ls. counted ++ places ls) c.in_default.ensures.element ∙ append-nil counted
