use Rattle.std.proofs.Common.{sym, subst}
use Rattle.std.proofs.lemmas.Result.{on_ok_weaker}
use Rattle.mz_logic_theory.specs.View.{tree}
use Rattle.mz_mmu_theory.specs.ConvView.{conversion}
use Rattle.mz_mmu_theory.specs.ProofView.{proof_view}
use Rattle.mz_emit_bodies.specs.Variables.{IsShared}
use Rattle.mz_emit_bodies.specs.TaskInvariant.{to_do}
use Rattle.mz_emit_bodies.proofs.Growing.{convert_done, convert_cost, shared_as, vars_as}
use Rattle.mz_emit_bodies.proofs.body.Body.convert.Goals as goal

pub returns-clause-does : goal.returns-clause-does
returns-clause-does c = on_ok_weaker c.add_conversion.result (λ tasks-are o d. vars_as _ o c.id.new.self.store _ _ _ _ _ _ _ _ c.in_ok-id.ensures.variables
    (convert_done _ o _ c.id.new.self.store c.in_ok-id.ensures.grows _ _ _ _ _ (tree c.args.e.now) (conversion c.args.conv.now) (proof_view c.args.part.now) c.args.chain c.in_ok-id.id.0
    (to_do c.args.self.now.tasks.items) (to_do c.add_conversion.new.tasks.items) _
    (shared_as c.args.self.now.before.env.now _ c.id.new.self.store _ _ c.requires.before.1 c.in_ok-id.ensures.variables c.in_ok-id.ensures.shared) c.in_ok-id.ensures.holds
    tasks-are d))
    c.add_conversion.ensures

pub returns-clause-less : goal.returns-clause-less
returns-clause-less c = on_ok_weaker c.add_conversion.result (λ tasks-are. convert_cost c.args.self.now.before.env.now c.requires.can.0 c.args.self.now.shared.store c.id.new.self.store
    c.in_ok-id.ensures.grows c.args.self.now.shared.variables.items
    c.args.self.now.heap.places.items c.args.self.now.heap.len c.args.self.now.hyps.items c.args.self.now.cells.cells.items
    (tree c.args.e.now) (conversion c.args.conv.now) (proof_view c.args.part.now) c.args.chain c.in_ok-id.id.0 (to_do c.args.self.now.tasks.items) (to_do c.add_conversion.new.tasks.items)
    c.args.self.now.out.items c.in_ok-id.ensures.holds.1
    tasks-are c.requires.can.1)
    c.add_conversion.ensures

pub id-requires-clause-shared : goal.id-requires-clause-shared
id-requires-clause-shared c = subst (λ sigs. IsShared sigs c.args.self.now.shared.store c.args.self.now.shared.variables.items) (sym c.requires.before.1) c.requires.can.1.shared
