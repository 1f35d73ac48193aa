use Rattle.std.proofs.Common.{◌∙◌, ap, sym, subst}
use Rattle.std.proofs.lemmas.Result.{IfOk-weaker}
use Rattle.mz_math_operators.specs.Levels.{IsLevelNoted}
use Rattle.mz_math_theory.specs.declared.notation.Element.{Element}
use Rattle.mz_math_theory.specs.declared.notation.Element.TheVariants.{Fixed as fixed}
use Rattle.mz_math_operators.proofs.Noting.{noted-slot}
use Rattle.mz_math_operators.proofs.ambiguity.note_level.Goals as goal

pub returns-in-Fixed : goal.returns-in-Fixed
returns-in-Fixed c =
    IfOk-weaker c.note_level_of.result _ _
    (λ b noted. subst (λ (e : Element). IsLevelNoted b c.args.levels.now e c.note_level_of.new.levels) (ap (λ v. fixed v c.in-Fixed.level) c.as_slice.ensures ∙ sym c.in-Fixed.is) noted)
    c.note_level_of.ensures

pub returns-in-Slot : goal.returns-in-Slot
returns-in-Slot c = noted-slot c.args.levels.now c.args.element.now _ c.in-Slot.is
