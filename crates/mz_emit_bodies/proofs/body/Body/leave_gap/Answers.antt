use Rattle.std.proofs.Common.{ap, ◌∙◌, ◌∷◌}
use Rattle.std.proofs.lemmas.Result.{on_ok_weaker}
use Rattle.mz_logic_theory.specs.View.{tree}
use Rattle.mz_emit_bodies.specs.TaskInvariant.{push, to_do}
use Rattle.mz_emit_bodies.proofs.Growing.{gap_done, gap_cost, shared_as, vars_as}
use Rattle.mz_emit_bodies.proofs.body.Body.leave_gap.Goals as goal

pub returns-clause-does : goal.returns-clause-does
returns-clause-does c = on_ok_weaker c.add-2.result (λ last chain o d. vars_as _ o c.id.new.self.store _ _ _ _ _ _ _ _ c.in_ok-id.ensures.variables
    (gap_done _ o _ c.id.new.self.store c.in_ok-id.ensures.grows _ _ _ _ _ (tree c.args.e.now) chain c.in_ok-id.id.0
    (to_do c.args.self.now.tasks.items) (to_do c.add-2.new.tasks.items) _ (shared_as c.args.self.now.before.env.now _ c.id.new.self.store _ _ c.requires.before.1 c.in_ok-id.ensures.variables c.in_ok-id.ensures.shared) c.in_ok-id.ensures.holds
    (last ∙ ap (λ z. push c.in_ok-id.id.0 ∷ z) c.in_ok-add.ensures) d))
    c.add-2.ensures

pub returns-clause-less : goal.returns-clause-less
returns-clause-less c = on_ok_weaker c.add-2.result (λ last chain. gap_cost c.args.self.now.before.env.now c.requires.can.1 c.args.self.now.shared.store c.id.new.self.store c.in_ok-id.ensures.grows c.args.self.now.shared.variables.items
    c.args.self.now.heap.places.items c.args.self.now.heap.len c.args.self.now.hyps.items c.args.self.now.cells.cells.items
    (tree c.args.e.now) c.requires.can.0 c.in_ok-id.id.0 (to_do c.args.self.now.tasks.items) (to_do c.add-2.new.tasks.items) c.args.self.now.out.items c.in_ok-id.ensures.holds.1
    (last ∙ ap (λ z. push c.in_ok-id.id.0 ∷ z) c.in_ok-add.ensures) c.requires.can.2)
    c.add-2.ensures
