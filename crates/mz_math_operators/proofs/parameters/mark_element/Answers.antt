use Rattle.std.proofs.Common.{◌≡◌, ◌∙◌, ◌+◌, ◌∷◌, [], false, get_or, ap, sym, arith}
use Rattle.mz_math_theory.specs.declared.notation.Element.{Element}
use Rattle.mz_math_operators.specs.Once.{one_if, times}
use Rattle.mz_math_operators.proofs.Marking.{slot-here, times-slot}
use Rattle.std.proofs.lemmas.Bool.{true≢false}
use Rattle.mz_math_operators.proofs.parameters.mark_element.Goals as goal

pub returns-in-Fixed-clause-marked : goal.returns-in-Fixed-clause-marked
returns-in-Fixed-clause-marked c = λ is i below.
    let n = one_if (get_or c.args.marks.now i false) in
    let e : n ≡ n + 0 = omega arith in
    e ∙ ap (λ (x : Element). n + times (x ∷ []) i) (sym c.in-Fixed.is)

pub returns-in-Fixed-clause-twice : goal.returns-in-Fixed-clause-twice
returns-in-Fixed-clause-twice c = λ is. absurd (true≢false is)

pub returns-in-Slot-clause-marked : goal.returns-in-Slot-clause-marked
returns-in-Slot-clause-marked c = λ is i below.
    let n = one_if (get_or c.args.marks.now i false) in
    c.mark.ensures.marked is i below ∙ ap (λ m. n + m) (sym (times-slot c.in-Slot.slot i)) ∙ ap (λ (x : Element). n + times (x ∷ []) i) (sym c.in-Slot.is)

pub returns-in-Slot-clause-twice : goal.returns-in-Slot-clause-twice
returns-in-Slot-clause-twice c = λ is.
    let there = c.mark.ensures.twice is in
    (c.in-Slot.slot, there.0, there.1, ap (λ (x : Element). times (x ∷ []) c.in-Slot.slot) c.in-Slot.is ∙ slot-here c.in-Slot.slot)
