use Rattle.std.proofs.Common.{◌∙◌, ap, sym}
use Rattle.mz_math_theory.specs.declared.notation.Element.TheVariants.{Fixed as fixed}
use Rattle.mz_math_theory.specs.Clear.{HasConstant}
use Rattle.mz_math_theory.proofs.Offered.{fixed-level}
use Rattle.mz_math_operators.proofs.ambiguity.keeps_level.Goals as goal

pub returns-in-Fixed : goal.returns-in-Fixed
returns-in-Fixed c =
    fixed-level c.args.element.now c.as_slice.result.now c.in-Fixed.level (c.in-Fixed.is ∙ ap (λ w. fixed w c.in-Fixed.level) (sym c.as_slice.ensures))
    c.has_level_in.result (λ w p. HasConstant c.args.notations.now w p) c.has_level_in.ensures
