use Rattle.std.proofs.Common.{length, [], sym, subst}
use Rattle.std.proofs.lemmas.Result.{on_ok_weaker}
use Rattle.mz_mmu_theory.specs.ProofView.{proof_view}
use Rattle.mz_emit_theory.specs.BodyWriting.{write_proof}
use Rattle.mz_emit_bodies.specs.declared.body.Before.{Before}
use Rattle.mz_emit_bodies.specs.Going.{IsAfter, Does}
use Rattle.mz_emit_bodies.specs.Stages.{with_hyps, writing_too}
use Rattle.mz_emit_bodies.proofs.Ends.{proves_next}
use Rattle.mz_emit_bodies.proofs.body.Body.put_theorem.Goals as goal

pub put_hyps-requires-clause-can : goal.put_hyps-requires-clause-can
put_hyps-requires-clause-can c = (c.requires.can.0, c.requires.can.1.0)

pub put_proof-requires-clause-before : goal.put_proof-requires-clause-before
put_proof-requires-clause-before c = subst IsAfter (sym c.in_ok-put_hyps.ensures.same) c.requires.before

pub put_proof-requires-clause-can : goal.put_proof-requires-clause-can
put_proof-requires-clause-can c =
    let o = c.requires.can.0 in
    let is = c.args.hyps.now in (
      with_hyps o (length is) is,
      proves_next o c.args.self.now c.put_hyps.new.self is (proof_view c.args.stated.now) c.in_ok-put_hyps.ensures.same c.requires.can.1 (c.in_ok-put_hyps.ensures.does o c.requires.can.1.0),
    )

pub returns-clause-does : goal.returns-clause-does
returns-clause-does c = on_ok_weaker c.put_proof.result (λ does o can.
    let is = c.args.hyps.now in
    let p = proof_view c.args.stated.now in
    subst (λ (z : Before). Does (writing_too (with_hyps o (length is) is) (write_proof z.env.now o.store.context [] p)) c.put_proof.new.self []) c.in_ok-put_hyps.ensures.same
    (does (with_hyps o (length is) is) (proves_next o c.args.self.now c.put_hyps.new.self is p c.in_ok-put_hyps.ensures.same can (c.in_ok-put_hyps.ensures.does o can.0))))
    c.put_proof.ensures.does
