use Rattle.std.proofs.Common.{◌≡◌, Some, slice_get, ap}
use Rattle.mz_math_theory.specs.Listed.{element}
use Rattle.mz_math_theory.specs.declared.notation.Element.TheVariants.{Fixed as fixed}
use Rattle.mz_math_theory.proofs.Offered.{constant-at, none-at, slot-no-constant}
use Rattle.mz_math_operators.proofs.Spotting.{found-kept, noted-here, noted-kept, noted-known}
use Rattle.mz_math_operators.proofs.notations.note_constant.Goals as goal
use Rattle.mz_math_operators.proofs.notations.note_constant.Goals.{In_ok-insert-in-None-level_in}

here : (c : In_ok-insert-in-None-level_in) → slice_get c.args.notation.now.elements c.args.place ≡ Some (fixed c.as_slice-word.result.now c.in-Some-Fixed.field-0-1)
here c = constant-at c.args.notation.now.elements _ c.args.place _ c.as_slice-word.result.now _ c.in-Some-Fixed.field-0-1 c.in-Some-Fixed.ensures.element (ap element c.in-Some-Fixed.field-0-is) c.as_slice-word.ensures

pub returns-in_ok-insert-in-None-level_in-clause-found : goal.returns-in_ok-insert-in-None-level_in-clause-found
returns-in_ok-insert-in-None-level_in-clause-found c =
    found-kept c.args.constants.now c.insert.new.self c.args.items.now c.args.notation.now c.as_slice-word.result.now c.args.place c.in-Some-Fixed.field-0-1 (here c) c.in_ok-insert-in-None-level_in.ensures.ok c.requires c.in-None-level_in.ensures

pub returns-in_ok-insert-in-None-level_in-clause-ok : goal.returns-in_ok-insert-in-None-level_in-clause-ok
returns-in_ok-insert-in-None-level_in-clause-ok c =
    noted-here c.args.constants.now c.insert.new.self c.args.items.now c.args.notation.now c.as_slice-word.result.now c.args.place c.in-Some-Fixed.field-0-1 (here c) c.in_ok-insert-in-None-level_in.ensures.ok

pub returns-in_ok-insert-in-None-level_in-clause-kept : goal.returns-in_ok-insert-in-None-level_in-clause-kept
returns-in_ok-insert-in-None-level_in-clause-kept c =
    noted-kept c.args.constants.now c.insert.new.self c.args.items.now c.args.notation.now c.as_slice-word.result.now c.args.place c.in-Some-Fixed.field-0-1 (here c) c.in_ok-insert-in-None-level_in.ensures.ok

pub returns-in-Some-clause-ok : goal.returns-in-Some-clause-ok
returns-in-Some-clause-ok c =
    noted-known c.args.constants.now c.args.items.now c.args.notation.now c.as_slice-word.result.now c.args.place c.in-Some-Fixed.field-0-1 _
    (constant-at c.args.notation.now.elements _ c.args.place _ c.as_slice-word.result.now _ c.in-Some-Fixed.field-0-1 c.in-Some-Fixed.ensures.element (ap element c.in-Some-Fixed.field-0-is) c.as_slice-word.ensures) c.requires c.in-Some.ensures

pub returns-in-None-clause-ok : goal.returns-in-None-clause-ok
returns-in-None-clause-ok c = λ w q at. absurd (none-at c.args.notation.now.elements c.args.place c.in-None.ensures.element (fixed w q) at)

pub returns-in-Some-Slot-clause-ok : goal.returns-in-Some-Slot-clause-ok
returns-in-Some-Slot-clause-ok c = λ w q at. absurd (slot-no-constant c.args.notation.now.elements _ c.args.place _ _ c.in-Some-Slot.ensures.element (ap element c.in-Some-Slot.field-0-is) w q at)
