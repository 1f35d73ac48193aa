use Rattle.std.proofs.lemmas.Result.{on_ok_weaker}
use Rattle.mz_mmu_theory.specs.ProofView.{proof_view}
use Rattle.mz_emit_bodies.specs.TaskInvariant.{to_do}
use Rattle.mz_emit_bodies.proofs.Binding.{bind_done, bind_cost}
use Rattle.mz_emit_bodies.proofs.Counting.{let_room}
use Rattle.mz_emit_bodies.proofs.body.Body.bind.Goals as goal

pub returns-clause-does : goal.returns-clause-does
returns-clause-does c = on_ok_weaker c.add.result (λ is o d. bind_done c.args.self.now.before.env.now o c.args.self.now.shared.store _ _ _ _ c.args.self.now.cells.cells.items c.open.new.self.cells.items (proof_view c.args.first.now) (proof_view c.args.second.now) c.args.chain
    (to_do c.args.self.now.tasks.items) (to_do c.add.new.tasks.items) _ c.in_ok-cell.cell c.in_ok-cell.ensures.parts c.in_ok-cell.ensures.many c.in_ok-cell.ensures.number is d c.in_ok-cell.ensures.right c.in_ok-cell.ensures.places c.in_ok-cell.ensures.kept)
    c.add.ensures

pub returns-clause-less : goal.returns-clause-less
returns-clause-less c = on_ok_weaker c.add.result (λ is. bind_cost c.args.self.now.before.env.now c.requires.can.0 c.args.self.now.shared.store c.args.self.now.shared.variables.items c.args.self.now.heap.places.items c.args.self.now.heap.len c.args.self.now.hyps.items
    c.args.self.now.cells.cells.items c.open.new.self.cells.items (proof_view c.args.first.now) (proof_view c.args.second.now) c.args.chain
    (to_do c.args.self.now.tasks.items) (to_do c.add.new.tasks.items) c.args.self.now.out.items c.in_ok-cell.cell c.in_ok-cell.ensures.parts c.in_ok-cell.ensures.many c.in_ok-cell.ensures.number is c.requires.can.1)
    c.add.ensures

pub open-requires-clause-room : goal.open-requires-clause-room
open-requires-clause-room c = let_room c.args.self.now.before.env.now c.args.self.now.shared.store _ _ _ _ c.requires.can.1.commands c.requires.can.0.whole (to_do c.args.self.now.tasks.items) (proof_view c.args.first.now) (proof_view c.args.second.now) c.args.chain c.requires.can.1.writing
