use Rattle.std.proofs.Common.{ap, []}
use Rattle.std.proofs.lemmas.Result.{on_ok_weaker}
use Rattle.mz_mmu_theory.specs.ProofView.{proof_view}
use Rattle.mz_emit_theory.specs.BodyWriting.{write_proof}
use Rattle.mz_emit_bodies.specs.TaskInvariant.{to_do}
use Rattle.mz_emit_bodies.specs.Stages.{writing_too}
use Rattle.mz_emit_bodies.proofs.Ends.{proof_owed}
use Rattle.mz_emit_bodies.proofs.body.Body.put_proof.Goals as goal

pub run-requires-clause-can : goal.run-requires-clause-can
run-requires-clause-can c =
    let o = c.requires.can.0 in
    let w = c.requires.can.1 in (
      writing_too o (write_proof c.args.self.now.before.env.now o.store.context [] (proof_view c.args.stated.now)),
      proof_owed c.args.self.now.before.env.now o c.args.self.now.shared.store _ _ _ _ _ (proof_view c.args.stated.now) (to_do c.args.self.now.tasks.items) _ _ (ap to_do w.0.1) c.in_ok-add.ensures w.1 w.2 w.3 w.0.0,
    )

pub returns-clause-does : goal.returns-clause-does
returns-clause-does c = on_ok_weaker c.run.result (λ does o w. does (writing_too o (write_proof c.args.self.now.before.env.now o.store.context [] (proof_view c.args.stated.now)))
    (proof_owed c.args.self.now.before.env.now o c.args.self.now.shared.store _ _ _ _ _ (proof_view c.args.stated.now) (to_do c.args.self.now.tasks.items) _ _ (ap to_do w.0.1) c.in_ok-add.ensures w.1 w.2 w.3 w.0.0))
    c.run.ensures.does
