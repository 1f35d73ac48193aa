use Rattle.std.proofs.Common.{◌∷◌, [], ap, ◌∙◌, subst, arith}
use Rattle.std.proofs.lemmas.Result.{on_ok_weaker}
use Rattle.mz_mmu_theory.specs.ConvView.{conversion}
use Rattle.mz_emit_theory.specs.Costs.{pay_costs}
use Rattle.mz_emit_bodies.specs.Sight.{parts}
use Rattle.mz_emit_bodies.specs.TaskInvariant.{pay, pay_all, to_do, left}
use Rattle.mz_emit_bodies.specs.Going.{Does}
use Rattle.mz_emit_bodies.proofs.Paying.{no_convs_left, first_conv, none_paid, more_paid}
use Rattle.mz_emit_bodies.proofs.body.Body.pay_all.Goals as goal

pub returns-in-empty-clause-does : goal.returns-in-empty-clause-does
returns-in-empty-clause-does c = λ o d. none_paid _ o _ _ _ _ _ _ _ _ (subst (λ z. Does o c.args.self.now (pay_all z ∷ [])) (no_convs_left c.args.convs.now c.in-empty.len_below) d)

pub returns-in_ok-add-in-len1-up-clause-does : goal.returns-in_ok-add-in-len1-up-clause-does
returns-in_ok-add-in-len1-up-clause-does c = on_ok_weaker c.add-in-len1-up.result (λ last o d. more_paid _ o _ _ _ _ _ _ (to_do c.args.self.now.tasks.items) _ (conversion c.first-item.result) _ _
    (last ∙ ap (λ z. pay (conversion c.first-item.result) ∷ z) c.in_ok-add-in-len1-up.ensures)
    (subst (λ z. Does o c.args.self.now (pay_all z ∷ [])) (first_conv c.args.convs.now c.first-item.result c.in-len1-up.len_at_least c.first-item.is) d))
    c.add-in-len1-up.ensures

pub returns-in-empty-clause-less : goal.returns-in-empty-clause-less
returns-in-empty-clause-less c = let paid = ap (pay_costs c.args.self.now.before.env.now) (no_convs_left c.args.convs.now c.in-empty.len_below) in omega (arith, paid)

pub returns-in_ok-add-in-len1-up-clause-less : goal.returns-in_ok-add-in-len1-up-clause-less
returns-in_ok-add-in-len1-up-clause-less c =
    let paid = ap (pay_costs c.args.self.now.before.env.now) (first_conv c.args.convs.now c.first-item.result c.in-len1-up.len_at_least c.first-item.is) in
    on_ok_weaker c.add-in-len1-up.result
    (λ last. let steps = ap (left c.args.self.now.before.env.now c.args.self.now.shared.store (parts c.args.self.now.cells.cells.items))
    (last ∙ ap (λ z. pay (conversion c.first-item.result) ∷ z) c.in_ok-add-in-len1-up.ensures) in omega (arith, paid, steps))
    c.add-in-len1-up.ensures
