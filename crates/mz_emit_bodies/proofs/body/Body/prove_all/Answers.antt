use Rattle.std.proofs.Common.{◌∷◌, [], ap, ◌∙◌, subst, arith}
use Rattle.std.proofs.lemmas.Result.{on_ok_weaker}
use Rattle.mz_mmu_theory.specs.ProofView.{proof_view}
use Rattle.mz_emit_bodies.specs.Scopes.{in_sight}
use Rattle.mz_emit_theory.specs.Costs.{costs}
use Rattle.mz_emit_bodies.specs.Sight.{parts}
use Rattle.mz_emit_bodies.specs.TaskInvariant.{prove, prove_all, to_do, left, let_costs}
use Rattle.mz_emit_bodies.specs.Going.{Does}
use Rattle.mz_emit_bodies.proofs.Moves.{no_proofs_left, first_proof, none_proved, more_proved}
use Rattle.mz_emit_bodies.proofs.body.Body.prove_all.Goals as goal

pub returns-in-empty-clause-does : goal.returns-in-empty-clause-does
returns-in-empty-clause-does c = λ o d. none_proved _ o _ _ _ _ _ _ c.args.chain _ _ (subst (λ z. Does o c.args.self.now (prove_all z c.args.chain ∷ [])) (no_proofs_left c.args.proofs.now c.in-empty.len_below) d)

pub returns-in_ok-add-in-len1-up-clause-does : goal.returns-in_ok-add-in-len1-up-clause-does
returns-in_ok-add-in-len1-up-clause-does c = on_ok_weaker c.add-in-len1-up.result
    (λ last o d. more_proved _ o _ _ _ _ _ _ (proof_view c.first-item.result) _ c.args.chain (to_do c.args.self.now.tasks.items) _ _
    (last ∙ ap (λ z. prove (proof_view c.first-item.result) c.args.chain ∷ z) c.in_ok-add-in-len1-up.ensures)
    (subst (λ z. Does o c.args.self.now (prove_all z c.args.chain ∷ [])) (first_proof c.args.proofs.now c.first-item.result c.in-len1-up.len_at_least c.first-item.is) d))
    c.add-in-len1-up.ensures

pub returns-in-empty-clause-less : goal.returns-in-empty-clause-less
returns-in-empty-clause-less c =
    let proved = ap (costs c.args.self.now.before.env.now (in_sight (let_costs c.args.self.now.before.env.now (parts c.args.self.now.cells.cells.items)) c.args.chain))
    (no_proofs_left c.args.proofs.now c.in-empty.len_below) in
    omega (arith, proved)

pub returns-in_ok-add-in-len1-up-clause-less : goal.returns-in_ok-add-in-len1-up-clause-less
returns-in_ok-add-in-len1-up-clause-less c =
    let proved = ap (costs c.args.self.now.before.env.now (in_sight (let_costs c.args.self.now.before.env.now (parts c.args.self.now.cells.cells.items)) c.args.chain))
    (first_proof c.args.proofs.now c.first-item.result c.in-len1-up.len_at_least c.first-item.is) in
    on_ok_weaker c.add-in-len1-up.result
    (λ last. let steps = ap (left c.args.self.now.before.env.now c.args.self.now.shared.store (parts c.args.self.now.cells.cells.items))
    (last ∙ ap (λ z. prove (proof_view c.first-item.result) c.args.chain ∷ z) c.in_ok-add-in-len1-up.ensures) in omega (arith, proved, steps))
    c.add-in-len1-up.ensures
