use Rattle.std.proofs.Common.{◌↔◌, ◌∙◌, ap, sym, subst}
use Rattle.std.specs.Prelude.{IsTrue, not}
use Rattle.mz_logic_theory.specs.Sorts.{IsBoundVar}
use Rattle.mz_logic_theory.specs.View.{tree}
use Rattle.mz_mmu_theory.specs.ConvView.{conversion}
use Rattle.mz_mmu_theory.specs.Sides.{side}
use Rattle.mz_type_rules.proofs.ClaimSides.{never, no_variable, side_refl, side_turned, side_cong, side_unfolded, side_folded, right_of_gap, left_of_gap}
use Rattle.mz_type_rules.proofs.convs.+is_bound_side.Goals as goal

pub returns-in-Refl : goal.returns-in-Refl
returns-in-Refl t c = subst (λ z. IsTrue c.is_bound_var.result ↔ IsBoundVar c.args.ctx.now z)
    (sym (ap (λ x. side c.args.right (conversion x)) c.in-Refl.is ∙ side_refl c.args.right (tree c.in-Refl.e))) c.is_bound_var.ensures

pub returns-in-Sym : goal.returns-in-Sym
returns-in-Sym t c = subst (λ z. IsTrue c.is_bound_side.result ↔ IsBoundVar c.args.ctx.now z)
    (sym (ap (λ x. side c.args.right (conversion x)) c.in-Sym.is ∙ side_turned c.args.right c.in-Sym.conv ∙ ap (side (not c.args.right)) (sym c.get.ensures))) c.is_bound_side.ensures

pub returns-in-Cong : goal.returns-in-Cong
returns-in-Cong t c = never (λ h. no_variable (sym (ap (λ x. side c.args.right (conversion x)) c.in-Cong.is ∙ side_cong c.args.right c.in-Cong.field-0 c.in-Cong.field-1) ∙ h.2))

pub returns-then-right : goal.returns-then-right
returns-then-right t c = subst (λ z. IsTrue c.is_bound_side-then-right.result ↔ IsBoundVar c.args.ctx.now z)
    (sym (ap (λ x. side c.args.right (conversion x)) c.in-Unfold.is ∙ side_unfolded c.args.right c.in-Unfold.field-0 c.in-Unfold.field-1 c.in-Unfold.field-2 c.in-Unfold.conv c.if-right.true
    ∙ ap (side c.args.right) (sym c.get-then-right.ensures))) c.is_bound_side-then-right.ensures

pub returns-else-right : goal.returns-else-right
returns-else-right t c = subst (λ b. IsTrue b ↔ IsBoundVar c.args.ctx.now (side c.args.right (conversion c.args.conv.now))) (sym c.if-right.false)
    (never (λ h. no_variable (sym (ap (λ x. side c.args.right (conversion x)) c.in-Unfold.is ∙ side_folded c.args.right c.in-Unfold.field-0 c.in-Unfold.field-1 c.in-Unfold.field-2
    c.in-Unfold.conv c.if-right.false) ∙ h.2)))

pub returns-then-right-2 : goal.returns-then-right-2
returns-then-right-2 t c = subst (λ z. IsTrue c.is_bound_var-then-right-2.result ↔ IsBoundVar c.args.ctx.now z)
    (sym (ap (λ x. side c.args.right (conversion x)) c.in-Gap.is ∙ right_of_gap c.args.right (tree c.in-Gap.l) (tree c.in-Gap.r) c.if-right-2.true)) c.is_bound_var-then-right-2.ensures

pub returns-else-right-2 : goal.returns-else-right-2
returns-else-right-2 t c = subst (λ z. IsTrue c.is_bound_var-else-right-2.result ↔ IsBoundVar c.args.ctx.now z)
    (sym (ap (λ x. side c.args.right (conversion x)) c.in-Gap.is ∙ left_of_gap c.args.right (tree c.in-Gap.l) (tree c.in-Gap.r) c.if-right-2.false)) c.is_bound_var-else-right-2.ensures
