use Rattle.std.proofs.Common.{◌∙◌, ap, arith, sym}
use Rattle.std.specs.Prelude.{not}
use Rattle.mz_logic_theory.specs.View.{tree}
use Rattle.mz_mmu_theory.specs.ConvCode.{conv_steps}
use Rattle.mz_mmu_theory.specs.ConvView.{conversion}
use Rattle.mz_mmu_theory.specs.Sides.{side}
use Rattle.mz_type_rules.proofs.ClaimSides.{side_refl, side_turned, side_cong, side_unfolded, side_folded, right_of_gap, left_of_gap}
use Rattle.mz_type_rules.proofs.claim.+side_of.Goals as goal

pub returns-in-Refl-clause-same : goal.returns-in-Refl-clause-same
returns-in-Refl-clause-same t c = sym (ap (λ x. side c.args.right (conversion x)) c.in-Refl.is ∙ side_refl c.args.right (tree c.in-Refl.e))

pub returns-in-Refl-clause-small : goal.returns-in-Refl-clause-small
returns-in-Refl-clause-small t c = omega arith

pub returns-in-Sym-clause-same : goal.returns-in-Sym-clause-same
returns-in-Sym-clause-same t c = c.side_of.ensures.same ∙ sym (ap (λ x. side c.args.right (conversion x)) c.in-Sym.is ∙ side_turned c.args.right c.in-Sym.part ∙ ap (side (not c.args.right))
    (sym c.get.ensures))

pub returns-in-Sym-clause-small : goal.returns-in-Sym-clause-small
returns-in-Sym-clause-small t c =
    let steps = ap (λ x. conv_steps (conversion x)) c.in-Sym.is in
    let part = ap conv_steps c.get.ensures in
    omega (arith, c.side_of.ensures.small, steps, part)

pub returns-in-Cong-clause-same : goal.returns-in-Cong-clause-same
returns-in-Cong-clause-same t c = sym (ap (λ x. side c.args.right (conversion x)) c.in-Cong.is ∙ side_cong c.args.right c.in-Cong.t c.in-Cong.parts)

pub returns-in-Cong-clause-small : goal.returns-in-Cong-clause-small
returns-in-Cong-clause-small t c = let steps = ap (λ x. conv_steps (conversion x)) c.in-Cong.is in omega (arith, steps)

pub returns-then-right-clause-same : goal.returns-then-right-clause-same
returns-then-right-clause-same t c = c.side_of-then-right.ensures.same ∙
    sym (ap (λ x. side c.args.right (conversion x)) c.in-Unfold.is ∙ side_unfolded c.args.right c.in-Unfold.t c.in-Unfold.es c.in-Unfold.field-2 c.in-Unfold.part c.if-right.true
    ∙ ap (side c.args.right) (sym c.get-then-right.ensures))

pub returns-then-right-clause-small : goal.returns-then-right-clause-small
returns-then-right-clause-small t c =
    let steps = ap (λ x. conv_steps (conversion x)) c.in-Unfold.is in
    let part = ap conv_steps c.get-then-right.ensures in
    omega (arith, c.side_of-then-right.ensures.small, steps, part)

pub returns-else-right-clause-same : goal.returns-else-right-clause-same
returns-else-right-clause-same t c = sym (ap (λ x. side c.args.right (conversion x)) c.in-Unfold.is ∙ side_folded c.args.right c.in-Unfold.t c.in-Unfold.es c.in-Unfold.field-2 c.in-Unfold.part
    c.if-right.false)

pub returns-else-right-clause-small : goal.returns-else-right-clause-small
returns-else-right-clause-small t c = omega arith

pub returns-then-right-2-clause-same : goal.returns-then-right-2-clause-same
returns-then-right-2-clause-same t c = sym (ap (λ x. side c.args.right (conversion x)) c.in-Gap.is ∙ right_of_gap c.args.right (tree c.in-Gap.l) (tree c.in-Gap.r) c.if-right-2.true)

pub returns-then-right-2-clause-small : goal.returns-then-right-2-clause-small
returns-then-right-2-clause-small t c = omega arith

pub returns-else-right-2-clause-same : goal.returns-else-right-2-clause-same
returns-else-right-2-clause-same t c = sym (ap (λ x. side c.args.right (conversion x)) c.in-Gap.is ∙ left_of_gap c.args.right (tree c.in-Gap.l) (tree c.in-Gap.r) c.if-right-2.false)

pub returns-else-right-2-clause-small : goal.returns-else-right-2-clause-small
returns-else-right-2-clause-small t c = omega arith
