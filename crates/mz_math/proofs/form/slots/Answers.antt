use Rattle.std.proofs.Common.{ap, length, arith}
use Rattle.mz_math_theory.specs.Listed.{element}
use Rattle.mz_math_theory.specs.Notation.{places}
use Rattle.mz_math.proofs.Arranging.{at-constant, at-slot}
use Rattle.mz_math.proofs.form.slots.Goals as goal
use Rattle.mz_math.proofs.form.slots.Goals.{in-Fixed, in-Slot}

pub elements-preserved : goal.elements-preserved
elements-preserved c =
    let ls = c.args.elements.now in
    let i = c.elements.at in
    let e = element c.in-Some.element in
    let so_far = c.elements.invariant in
    elim c.match-element.branch [
      | in-Fixed w ↦ let here = ap length (at-constant ls i e c.in-Some.ensures.element _ _ (ap element w.in-Fixed.is)) in (omega (arith, so_far, here, w.many-is), omega (arith, so_far, w.many-is))
      | in-Slot w ↦ let here = ap length (at-slot ls i e c.in-Some.ensures.element _ (ap element w.in-Slot.is)) in (omega (arith, so_far, here, w.many-is), omega (arith, so_far, w.many-is))
    ]

pub returns : goal.returns
returns c = omega (arith, c.elements.invariant, ap (λ ls. length (places ls)) c.in_default.ensures.element)
