use Rattle.std.proofs.Common.{◌<◌, sym, ap, ◌∙◌, subst, arith, ◌∷◌, [], ℕ}
use Rattle.mz_emit_bodies.proofs.Lists.{on_ok_both}
use Rattle.std.proofs.lemmas.Result.{on_ok_weaker}
use Rattle.std.specs.Prelude.{OnOk}
use Rattle.mz_logic_theory.specs.View.{tree}
use Rattle.mz_mmu_theory.specs.ConvView.{conversion}
use Rattle.mz_mmu_theory.specs.Proof.{by_conv, by_let}
use Rattle.mz_mmu_theory.specs.ProofView.{proof_view}
use Rattle.mz_emit_bodies.specs.Scopes.{in_sight}
use Rattle.mz_emit_theory.specs.Costs.{cost}
use Rattle.mz_emit_bodies.specs.Sight.{parts}
use Rattle.mz_emit_bodies.specs.TaskInvariant.{prove, prove_all, to_do, left, let_costs}
use Rattle.mz_emit_bodies.specs.Going.{Job, Does, steps_left}
use Rattle.mz_emit_bodies.proofs.Moves.{cite_parts, hyp_there, hyp_within}
use Rattle.mz_emit_bodies.proofs.Lists.{index_slice}
use Rattle.mz_emit_bodies.proofs.body.Body.prove.Goals as goal

pub returns-in_ok-add-in-Cite-clause-does : goal.returns-in_ok-add-in-Cite-clause-does
returns-in_ok-add-in-Cite-clause-does c = on_ok_weaker c.add-in-Cite.result (λ last o d. cite_parts _ o _ _ _ _ _ _ c.in-Cite.number c.in-Cite.es c.in-Cite.proofs c.args.chain _ _ _
    (last ∙ ap (λ q. prove_all q c.args.chain ∷ to_do c.add.new.tasks.items) c.as_slice.ensures ∙ ap (λ z. prove_all c.in-Cite.proofs c.args.chain ∷ z) c.in_ok-add-in-Cite.ensures)
    (subst (λ p. Does o c.args.self.now (prove p c.args.chain ∷ [])) (ap proof_view c.in-Cite.is) d))
    c.add-in-Cite.ensures

pub returns-in-Hyp-clause-does : goal.returns-in-Hyp-clause-does
returns-in-Hyp-clause-does c = on_ok_both c.put.result (λ bytes small o d. hyp_there _ o _ _ _ _ _ _ c.in-Hyp.i c.index-place.result.now c.args.chain _ _ _
    (index_slice ℕ c.args.self.now.hyps.items c.in-Hyp.i c.index-place.result.now _ (hyp_within _ o _ _ _ _ _ _ c.in-Hyp.i c.args.chain _ _ (subst (λ p. Does o c.args.self.now (prove p c.args.chain ∷ [])) (ap proof_view c.in-Hyp.is) d)) c.index-place.ensures) bytes small
    (subst (λ p. Does o c.args.self.now (prove p c.args.chain ∷ [])) (ap proof_view c.in-Hyp.is) d))
    c.put.ensures.bytes c.put.ensures.small

pub returns-in-Gap-clause-less : goal.returns-in-Gap-clause-less
returns-in-Gap-clause-less c = on_ok_weaker c.leave_gap.result (λ less. subst (λ p. steps_left c.leave_gap.new.self [] < steps_left c.args.self.now (prove p c.args.chain ∷ [])) (sym (ap proof_view c.in-Gap.is))
    (less c.args.chain))
    c.leave_gap.ensures.less

pub name-requires-clause-can : goal.name-requires-clause-can
name-requires-clause-can c =
    let is = ap proof_view c.in-Name.is in
    (c.requires.can.0, subst (λ p. Does c.requires.can.0 c.args.self.now (prove p c.args.chain ∷ [])) is c.requires.can.1)

pub returns-in-Name-clause-does : goal.returns-in-Name-clause-does
returns-in-Name-clause-does c =
    let is = ap proof_view c.in-Name.is in
    subst (λ p. OnOk c.name.result ((o : Job) → Does o c.args.self.now (prove p c.args.chain ∷ []) → Does o c.name.new.self [])) (sym is) c.name.ensures.does

pub returns-in-Name-clause-less : goal.returns-in-Name-clause-less
returns-in-Name-clause-less c =
    let is = ap proof_view c.in-Name.is in
    subst (λ p. OnOk c.name.result (steps_left c.name.new.self [] < steps_left c.args.self.now (prove p c.args.chain ∷ []))) (sym is) c.name.ensures.less

pub convert-requires-clause-can : goal.convert-requires-clause-can
convert-requires-clause-can c =
    let is = ap proof_view c.in-Conv.is ∙ ap (λ z. by_conv (tree c.in-Conv.e) z c.in-Conv.part) (sym c.get.ensures) ∙ ap (by_conv (tree c.in-Conv.e) (conversion c.get.result.now))
    (sym c.get-in-Conv.ensures) in
    (c.requires.can.0, subst (λ p. Does c.requires.can.0 c.args.self.now (prove p c.args.chain ∷ [])) is c.requires.can.1)

pub returns-in-Conv-clause-does : goal.returns-in-Conv-clause-does
returns-in-Conv-clause-does c =
    let is = ap proof_view c.in-Conv.is ∙ ap (λ z. by_conv (tree c.in-Conv.e) z c.in-Conv.part) (sym c.get.ensures) ∙ ap (by_conv (tree c.in-Conv.e) (conversion c.get.result.now))
    (sym c.get-in-Conv.ensures) in
    subst (λ p. OnOk c.convert.result ((o : Job) → Does o c.args.self.now (prove p c.args.chain ∷ []) → Does o c.convert.new.self [])) (sym is) c.convert.ensures.does

pub returns-in-Conv-clause-less : goal.returns-in-Conv-clause-less
returns-in-Conv-clause-less c =
    let is = ap proof_view c.in-Conv.is ∙ ap (λ z. by_conv (tree c.in-Conv.e) z c.in-Conv.part) (sym c.get.ensures) ∙ ap (by_conv (tree c.in-Conv.e) (conversion c.get.result.now))
    (sym c.get-in-Conv.ensures) in
    subst (λ p. OnOk c.convert.result (steps_left c.convert.new.self [] < steps_left c.args.self.now (prove p c.args.chain ∷ []))) (sym is) c.convert.ensures.less

pub bind-requires-clause-can : goal.bind-requires-clause-can
bind-requires-clause-can c =
    let is = ap proof_view c.in-Let.is ∙ ap (λ z. by_let z c.in-Let.second) (sym c.get-in-Let.ensures) ∙ ap (by_let (proof_view c.get-in-Let.result.now)) (sym c.get-in-Let-2.ensures) in
    (c.requires.can.0, subst (λ p. Does c.requires.can.0 c.args.self.now (prove p c.args.chain ∷ [])) is c.requires.can.1)

pub returns-in-Let-clause-does : goal.returns-in-Let-clause-does
returns-in-Let-clause-does c =
    let is = ap proof_view c.in-Let.is ∙ ap (λ z. by_let z c.in-Let.second) (sym c.get-in-Let.ensures) ∙ ap (by_let (proof_view c.get-in-Let.result.now)) (sym c.get-in-Let-2.ensures) in
    subst (λ p. OnOk c.bind.result ((o : Job) → Does o c.args.self.now (prove p c.args.chain ∷ []) → Does o c.bind.new.self [])) (sym is) c.bind.ensures.does

pub returns-in-Let-clause-less : goal.returns-in-Let-clause-less
returns-in-Let-clause-less c =
    let is = ap proof_view c.in-Let.is ∙ ap (λ z. by_let z c.in-Let.second) (sym c.get-in-Let.ensures) ∙ ap (by_let (proof_view c.get-in-Let.result.now)) (sym c.get-in-Let-2.ensures) in
    subst (λ p. OnOk c.bind.result (steps_left c.bind.new.self [] < steps_left c.args.self.now (prove p c.args.chain ∷ []))) (sym is) c.bind.ensures.less

pub returns-in-Hyp-clause-less : goal.returns-in-Hyp-clause-less
returns-in-Hyp-clause-less c =
    let proved = ap (λ x. cost c.args.self.now.before.env.now (in_sight (let_costs c.args.self.now.before.env.now (parts c.args.self.now.cells.cells.items)) c.args.chain) (proof_view x))
    c.in-Hyp.is in
    on_ok_weaker c.put.result (λ bytes. omega (arith, proved)) c.put.ensures.bytes

pub returns-in_ok-add-in-Cite-clause-less : goal.returns-in_ok-add-in-Cite-clause-less
returns-in_ok-add-in-Cite-clause-less c =
    let proved = ap (λ x. cost c.args.self.now.before.env.now (in_sight (let_costs c.args.self.now.before.env.now (parts c.args.self.now.cells.cells.items)) c.args.chain) (proof_view x))
    c.in-Cite.is in
    on_ok_weaker c.add-in-Cite.result (λ last. let steps = ap (left c.args.self.now.before.env.now c.args.self.now.shared.store (parts c.args.self.now.cells.cells.items))
    (last ∙ ap (λ q. prove_all q c.args.chain ∷ to_do c.add.new.tasks.items) c.as_slice.ensures ∙ ap (λ z. prove_all c.in-Cite.proofs c.args.chain ∷ z)
    c.in_ok-add-in-Cite.ensures) in omega (arith, proved, steps))
    c.add-in-Cite.ensures

pub leave_gap-requires-clause-can : goal.leave_gap-requires-clause-can
leave_gap-requires-clause-can c =
    (c.args.chain, c.requires.can.0, subst (λ p. Does c.requires.can.0 c.args.self.now (prove p c.args.chain ∷ [])) (ap proof_view c.in-Gap.is) c.requires.can.1)

pub returns-in-Gap-clause-does : goal.returns-in-Gap-clause-does
returns-in-Gap-clause-does c =
    on_ok_weaker c.leave_gap.result (λ does o d. does c.args.chain o (subst (λ p. Does o c.args.self.now (prove p c.args.chain ∷ [])) (ap proof_view c.in-Gap.is) d)) c.leave_gap.ensures.does
