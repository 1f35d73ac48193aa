use Rattle.std.proofs.Common.{◌<◌, ◌+◌, ◌∷◌, [], sym, ap, ◌∙◌, subst, arith, length, ℕ, Option}
use Rattle.mz_emit_bodies.proofs.Lists.{on_ok_both}
use Rattle.std.proofs.lemmas.Result.{on_ok_weaker}
use Rattle.mz_mmu_theory.specs.Proof.{by_name}
use Rattle.mz_mmu_theory.specs.ProofView.{proof_view}
use Rattle.mz_emit_bodies.specs.TaskInvariant.{prove, to_do, left, let_costs}
use Rattle.mz_emit_bodies.specs.Scopes.{in_sight}
use Rattle.mz_emit_theory.specs.Costs.{cost}
use Rattle.mz_emit_bodies.specs.Sight.{parts, IsThere}
use Rattle.mz_emit_bodies.specs.Going.{Does}
use Rattle.mz_emit_bodies.proofs.Scoping.{links_long, parts_long}
use Rattle.mz_emit_bodies.proofs.Naming.{name_within, name_placed, name_parts, name_cost}
use Rattle.mz_emit_bodies.proofs.body.Body.name.Goals as goal

pub visible-cell-requires-clause-within : goal.visible-cell-requires-clause-within
visible-cell-requires-clause-within c = name_within _ c.requires.can.0 _ _ _ _ _ _ c.args.number c.in-Some.innermost _ _
    (subst (λ (ch : Option ℕ). Does c.requires.can.0 c.args.self.now (prove (by_name c.args.number) ch ∷ [])) c.in-Some.is c.requires.can.1)

pub returns-in-Some-place-clause-does : goal.returns-in-Some-place-clause-does
returns-in-Some-place-clause-does c = on_ok_both c.put.result (λ bytes small o d. name_placed _ o _ _ _ _ _ _ c.args.number c.in-Some.innermost _ _
    (subst (λ (ch : Option ℕ). Does o c.args.self.now (prove (by_name c.args.number) ch ∷ [])) c.in-Some.is d)
    c.visible-cell.result c.visible-cell.ensures.sight c.visible-cell.ensures.there c.in-Some-place.place _ (sym c.in-Some-place.ensures) bytes small)
    c.put.ensures.bytes c.put.ensures.small

pub returns-in_ok-add-in-None-clause-does : goal.returns-in_ok-add-in-None-clause-does
returns-in_ok-add-in-None-clause-does c = on_ok_weaker c.add-in-None.result (λ last o d. name_parts _ o _ _ _ _ _ _ c.args.number c.in-Some.innermost _ _
    (subst (λ (ch : Option ℕ). Does o c.args.self.now (prove (by_name c.args.number) ch ∷ [])) c.in-Some.is d)
    c.visible-cell.result c.visible-cell.ensures.sight c.visible-cell.ensures.there _ _ (sym c.in-None.ensures) c.part-outer.ensures
    (last ∙ ap (λ z. prove (proof_view c.part-outer.result.0.now) c.part-outer.result.1 ∷ z) c.in_ok-add-in-None.ensures))
    c.add-in-None.ensures

pub returns-in_ok-add-in-None-clause-less : goal.returns-in_ok-add-in-None-clause-less
returns-in_ok-add-in-None-clause-less c = on_ok_weaker c.add-in-None.result (λ last.
    subst (λ (ch : Option ℕ). left c.args.self.now.before.env.now c.args.self.now.shared.store (parts c.args.self.now.cells.cells.items) (to_do c.add-in-None.new.tasks.items)
    < cost c.args.self.now.before.env.now (in_sight (let_costs c.args.self.now.before.env.now (parts c.args.self.now.cells.cells.items)) ch) (by_name c.args.number)
    + left c.args.self.now.before.env.now c.args.self.now.shared.store (parts c.args.self.now.cells.cells.items) (to_do c.args.self.now.tasks.items)) (sym c.in-Some.is)
    (name_cost c.args.self.now.before.env.now c.requires.can.0 c.args.self.now.shared.store c.args.self.now.shared.variables.items c.args.self.now.heap.places.items c.args.self.now.heap.len c.args.self.now.hyps.items
    c.args.self.now.cells.cells.items c.args.number c.in-Some.innermost (to_do c.args.self.now.tasks.items) c.args.self.now.out.items
    (subst (λ (ch : Option ℕ). Does c.requires.can.0 c.args.self.now (prove (by_name c.args.number) ch ∷ [])) c.in-Some.is c.requires.can.1)
    c.visible-cell.result c.visible-cell.ensures.sight c.visible-cell.ensures.there (record { proof = proof_view c.part-outer.result.0.now; outer = c.part-outer.result.1 }) (to_do c.add-in-None.new.tasks.items) c.part-outer.ensures
    (last ∙ ap (λ z. prove (proof_view c.part-outer.result.0.now) c.part-outer.result.1 ∷ z) c.in_ok-add-in-None.ensures)))
    c.add-in-None.ensures

pub visible-cell-requires-clause-right : goal.visible-cell-requires-clause-right
visible-cell-requires-clause-right c = c.requires.can.1.lets.linked

pub visible-cell-requires-clause-there : goal.visible-cell-requires-clause-there
visible-cell-requires-clause-there c =
    let cells = c.args.self.now.cells.cells.items in
    let there = subst (IsThere (length (parts cells))) c.in-Some.is c.requires.can.1.can.0.1 in
    omega (arith, there, parts_long cells, links_long cells)

pub place-requires : goal.place-requires
place-requires c = omega (arith, c.visible-cell.ensures.there, links_long c.args.self.now.cells.cells.items)

pub part-outer-requires : goal.part-outer-requires
part-outer-requires c = omega (arith, c.visible-cell.ensures.there, links_long c.args.self.now.cells.cells.items)

pub returns-in-Some-place-clause-less : goal.returns-in-Some-place-clause-less
returns-in-Some-place-clause-less c = on_ok_weaker c.put.result (λ bytes. omega arith) c.put.ensures.bytes
