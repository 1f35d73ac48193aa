use Rattle.std.proofs.Common.{ap, ◌∙◌, ◌<◌, sym, subst, arith, ◌∷◌, []}
use Rattle.std.proofs.lemmas.Result.{on_ok_weaker}
use Rattle.std.specs.Prelude.{OnOk}
use Rattle.mz_logic_theory.specs.Conversions.{unfold_conv}
use Rattle.mz_mmu_theory.specs.ConvView.{conversion}
use Rattle.mz_emit_theory.specs.Costs.{pay_cost, pay_costs}
use Rattle.mz_emit_bodies.specs.Sight.{parts}
use Rattle.mz_emit_bodies.specs.TaskInvariant.{pay, pay_all, to_do, left}
use Rattle.mz_emit_bodies.specs.Going.{Job, Does, steps_left}
use Rattle.mz_emit_bodies.proofs.Paying.{refl_paid, sym_paid, cong_paid, gap_paid}
use Rattle.mz_emit_bodies.proofs.body.Body.pay.Goals as goal

pub returns-in-Refl-clause-does : goal.returns-in-Refl-clause-does
returns-in-Refl-clause-does c = on_ok_weaker c.put.result (λ bytes o d. refl_paid _ o _ _ _ _ _ _ _ _ _ _ bytes
    (subst (λ z. Does o c.args.self.now (pay z ∷ [])) (ap conversion c.in-Refl.is) d))
    c.put.ensures.bytes

pub returns-in_ok-add-in-Sym-clause-does : goal.returns-in_ok-add-in-Sym-clause-does
returns-in_ok-add-in-Sym-clause-does c = on_ok_weaker c.put-in-Sym.result (λ bytes o d. sym_paid _ o _ _ _ _ _ _ (to_do c.args.self.now.tasks.items) _ _ c.in-Sym.part (to_do c.add.new.tasks.items)
    (c.in_ok-add-in-Sym.ensures ∙ ap (λ z. pay z ∷ to_do c.args.self.now.tasks.items) c.get.ensures)
    bytes
    (subst (λ z. Does o c.args.self.now (pay z ∷ [])) (ap conversion c.in-Sym.is) d))
    c.put-in-Sym.ensures.bytes

pub returns-in_ok-add-in-Cong-clause-does : goal.returns-in_ok-add-in-Cong-clause-does
returns-in_ok-add-in-Cong-clause-does c = on_ok_weaker c.put-in-Cong.result (λ bytes o d. cong_paid _ o _ _ _ _ _ _ (to_do c.args.self.now.tasks.items) _ _ _ c.in-Cong.parts (to_do c.add-in-Cong.new.tasks.items)
    (c.in_ok-add-in-Cong.ensures ∙ ap (λ z. pay_all z ∷ to_do c.args.self.now.tasks.items) c.as_slice.ensures)
    bytes
    (subst (λ z. Does o c.args.self.now (pay z ∷ [])) (ap conversion c.in-Cong.is) d))
    c.put-in-Cong.ensures.bytes

pub returns-in-Gap-clause-does : goal.returns-in-Gap-clause-does
returns-in-Gap-clause-does c = on_ok_weaker c.put-in-Gap.result (λ bytes o d. gap_paid _ o _ _ _ _ _ _ _ _ _ _ _ bytes
    (subst (λ z. Does o c.args.self.now (pay z ∷ [])) (ap conversion c.in-Gap.is) d))
    c.put-in-Gap.ensures.bytes

pub returns-in-Refl-clause-less : goal.returns-in-Refl-clause-less
returns-in-Refl-clause-less c = let paid = ap (λ x. pay_cost c.args.self.now.before.env.now (conversion x)) c.in-Refl.is in on_ok_weaker c.put.result (λ bytes. omega (arith, paid)) c.put.ensures.bytes

pub returns-in-Gap-clause-less : goal.returns-in-Gap-clause-less
returns-in-Gap-clause-less c = let paid = ap (λ x. pay_cost c.args.self.now.before.env.now (conversion x)) c.in-Gap.is in on_ok_weaker c.put-in-Gap.result (λ bytes. omega (arith, paid)) c.put-in-Gap.ensures.bytes

pub returns-in_ok-add-in-Sym-clause-less : goal.returns-in_ok-add-in-Sym-clause-less
returns-in_ok-add-in-Sym-clause-less c =
    let paid = ap (λ x. pay_cost c.args.self.now.before.env.now (conversion x)) c.in-Sym.is in
    let part = ap (pay_cost c.args.self.now.before.env.now) c.get.ensures in
    let steps = ap (left c.args.self.now.before.env.now c.args.self.now.shared.store (parts c.args.self.now.cells.cells.items)) c.in_ok-add-in-Sym.ensures in
    on_ok_weaker c.put-in-Sym.result (λ bytes. omega (arith, paid, part, steps)) c.put-in-Sym.ensures.bytes

pub returns-in_ok-add-in-Cong-clause-less : goal.returns-in_ok-add-in-Cong-clause-less
returns-in_ok-add-in-Cong-clause-less c =
    let paid = ap (λ x. pay_cost c.args.self.now.before.env.now (conversion x)) c.in-Cong.is in
    let part = ap (pay_costs c.args.self.now.before.env.now) c.as_slice.ensures in
    let steps = ap (left c.args.self.now.before.env.now c.args.self.now.shared.store (parts c.args.self.now.cells.cells.items)) c.in_ok-add-in-Cong.ensures in
    on_ok_weaker c.put-in-Cong.result (λ bytes. omega (arith, paid, part, steps)) c.put-in-Cong.ensures.bytes

pub unfold-requires-clause-can : goal.unfold-requires-clause-can
unfold-requires-clause-can c =
    let is = ap conversion c.in-Unfold.is ∙ ap (unfold_conv c.in-Unfold.term c.in-Unfold.es c.in-Unfold.vars) (sym c.get-in-Unfold.ensures) in
    (c.requires.can.0, subst (λ z. Does c.requires.can.0 c.args.self.now (pay z ∷ [])) is c.requires.can.1)

pub returns-in-Unfold-clause-does : goal.returns-in-Unfold-clause-does
returns-in-Unfold-clause-does c =
    let is = ap conversion c.in-Unfold.is ∙ ap (unfold_conv c.in-Unfold.term c.in-Unfold.es c.in-Unfold.vars) (sym c.get-in-Unfold.ensures) in
    subst (λ z. OnOk c.unfold.result ((o : Job) → Does o c.args.self.now (pay z ∷ []) → Does o c.unfold.new.self [])) (sym is) c.unfold.ensures.does

pub returns-in-Unfold-clause-less : goal.returns-in-Unfold-clause-less
returns-in-Unfold-clause-less c =
    let is = ap conversion c.in-Unfold.is ∙ ap (unfold_conv c.in-Unfold.term c.in-Unfold.es c.in-Unfold.vars) (sym c.get-in-Unfold.ensures) in
    subst (λ z. OnOk c.unfold.result (steps_left c.unfold.new.self [] < steps_left c.args.self.now (pay z ∷ []))) (sym is) c.unfold.ensures.less
