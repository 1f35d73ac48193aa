use Rattle.std.proofs.Common.{◌≡◌, ◌+◌, ◌∙◌, ◌++◌, ◌∷◌, [], Err, Ok, sym, ap, subst, arith}
use Rattle.std.proofs.lemmas.Result.{err_from_is_err_and}
use Rattle.mz_cmd.specs.declared.code.ProofCode.TheVariants as code
use Rattle.mz_pmachine_unify.specs.Numbering.{IsOver, expr_of}
use Rattle.mz_store.specs.declared.item.Item.TheVariants.{Proof}
use Rattle.mz_pmachine_theory.specs.NodeIdentity.{portable}
use Rattle.mz_machine_theory.specs.Profile.{proof}
use Rattle.mz_unify.proofs.Offered.{stopped-through, went-through}
use Rattle.mz_pmachine_unify.proofs.Offered.{items-push, items-in-both}
use Rattle.mz_machine_theory.specs.ProofMachine.{proof_step}
use Rattle.mz_machine_theory.specs.Bodies.{row_steps}
use Rattle.mz_machine_env.specs.Before.{tables_of}
use Rattle.mz_pmachine.specs.OverNodes.{with_stack}
use Rattle.mz_machine_env.proofs.Offered.{signatures-before}
use Rattle.mz_machine.proofs.Offered.{thm-stopped, thm-save-stopped, thm-stopped-steps, thm-refused, thm-save-refused, thm-row, thm-save-row, thm-steps, no-more, so-many, stops-as, memory-stops, memory-unless}
use Rattle.mz_pmachine.proofs.Citing.{cited-run, cited-count}
use Rattle.mz_pmachine.proofs.commands.terms.thm.Goals as goal

pub returns-in_err-target-clause-plain : goal.returns-in_err-target-clause-plain
returns-in_err-target-clause-plain g c at st ctx is =
    let p = err_from_is_err_and c.from_residual.result c.from_residual.ensures.1 in
    rw (p.1, p.2) (stops-as c.in_err-target.field-0.0 _ (λ k. proof_step portable (tables_of c.args.env.now) at code.Thm c.args.t st ≡ Err k)
    (λ k h. thm-stopped portable (tables_of c.args.env.now) at c.args.t st k h) (c.in_err-target.ensures.taken st ctx is))

pub returns-in_err-target-clause-saved : goal.returns-in_err-target-clause-saved
returns-in_err-target-clause-saved g c at st ctx is =
    let p = err_from_is_err_and c.from_residual.result c.from_residual.ensures.1 in
    rw (p.1, p.2) (stops-as c.in_err-target.field-0.0 _ (λ k. proof_step portable (tables_of c.args.env.now) at code.ThmSave c.args.t st ≡ Err k)
    (λ k h. thm-save-stopped portable (tables_of c.args.env.now) at c.args.t st k h) (c.in_err-target.ensures.taken st ctx is))

pub returns-in_err-target-clause-steps : goal.returns-in_err-target-clause-steps
returns-in_err-target-clause-steps g c st ctx is =
    let p = err_from_is_err_and c.from_residual.result c.from_residual.ensures.1 in
    rw (p.1, p.2) (stops-as c.in_err-target.field-0.0 _ (λ k. c.args.steps.now ≡ c.args.steps.now + row_steps portable (tables_of c.args.env.now) code.Thm c.args.t st)
    (λ k h. no-more _ _ (thm-stopped-steps portable (tables_of c.args.env.now) c.args.t st k h)) (c.in_err-target.ensures.taken st ctx is))

pub unify_in-requires-clause-over : goal.unify_in-requires-clause-over
unify_in-requires-clause-over g c = subst (λ sigs. IsOver sigs c.args.nodes.now) (sym (signatures-before c.args.env.now)) c.requires.over

pub returns-in_err-through-clause-plain : goal.returns-in_err-through-clause-plain
returns-in_err-through-clause-plain g c at st ctx is =
    let p = err_from_is_err_and c.from_residual-in_err-through.result c.from_residual-in_err-through.ensures.1 in
    rw (p.1, p.2) (stopped-through c.unify_in.result _ _ (λ k. proof_step portable (tables_of c.args.env.now) at code.Thm c.args.t st ≡ Err k) c.in_err-through.field-0.0 c.in_err-through.ensures c.unify_in.ensures.run
    (λ place k h. thm-refused portable (tables_of c.args.env.now) at c.args.t st _ (c.in_ok-target.ensures.taken st ctx is) place k (cited-run c.args.env.now c.args.nodes.now st ctx c.args.t c.stream_of_thm-stream.result.now c.stream_of_thm-stream.ensures.stream c.take_citation.new.spare.operands.items c.deref-operands.result.now c.deref-operands.ensures.value c.in_ok-target.target c.take_citation.new.stack.items ∙ h)))

pub returns-in_err-through-clause-saved : goal.returns-in_err-through-clause-saved
returns-in_err-through-clause-saved g c at st ctx is =
    let p = err_from_is_err_and c.from_residual-in_err-through.result c.from_residual-in_err-through.ensures.1 in
    rw (p.1, p.2) (stopped-through c.unify_in.result _ _ (λ k. proof_step portable (tables_of c.args.env.now) at code.ThmSave c.args.t st ≡ Err k) c.in_err-through.field-0.0 c.in_err-through.ensures c.unify_in.ensures.run
    (λ place k h. thm-save-refused portable (tables_of c.args.env.now) at c.args.t st _ (c.in_ok-target.ensures.taken st ctx is) place k (cited-run c.args.env.now c.args.nodes.now st ctx c.args.t c.stream_of_thm-stream.result.now c.stream_of_thm-stream.ensures.stream c.take_citation.new.spare.operands.items c.deref-operands.result.now c.deref-operands.ensures.value c.in_ok-target.target c.take_citation.new.stack.items ∙ h)))

pub returns-in_err-through-clause-steps : goal.returns-in_err-through-clause-steps
returns-in_err-through-clause-steps g c st ctx is =
    let p = err_from_is_err_and c.from_residual-in_err-through.result c.from_residual-in_err-through.ensures.1 in
    rw (p.1, p.2) (stopped-through c.unify_in.result _ _ (λ k. c.unify_in.new.steps ≡ c.args.steps.now + row_steps portable (tables_of c.args.env.now) code.Thm c.args.t st) c.in_err-through.field-0.0 c.in_err-through.ensures c.unify_in.ensures.steps
    (λ place k h. so-many _ _ _ _ h (thm-steps portable (tables_of c.args.env.now) c.args.t st _ (c.in_ok-target.ensures.taken st ctx is) ∙ cited-count c.args.env.now c.args.nodes.now st ctx c.args.t c.stream_of_thm-stream.result.now c.stream_of_thm-stream.ensures.stream c.take_citation.new.spare.operands.items c.deref-operands.result.now c.deref-operands.ensures.value c.in_ok-target.target c.take_citation.new.stack.items)))

pub returns-clause-ids : goal.returns-clause-ids
returns-clause-ids g c =
    let left = (went-through c.unify_in.result _ _ _ c.in_ok-through.ensures c.unify_in.ensures.ids).1 in (
      c.in_ok-target.ensures.ids.0,
      rw c.in_ok-push.ensures.ok (items-in-both c.args.nodes.now c.unify_in.new.hyps.items (Proof c.in_ok-target.target ∷ []) left.1 (c.in_ok-target.ensures.ids.0, tt)),
    )

pub returns-clause-plain : goal.returns-clause-plain
returns-clause-plain g c at st ctx is =
    let run = (went-through c.unify_in.result _ _ _ c.in_ok-through.ensures c.unify_in.ensures.run).1 in
    let row = thm-row portable (tables_of c.args.env.now) at c.args.t st _ (c.in_ok-target.ensures.taken st ctx is) run.0 (cited-run c.args.env.now c.args.nodes.now st ctx c.args.t c.stream_of_thm-stream.result.now c.stream_of_thm-stream.ensures.stream c.take_citation.new.spare.operands.items c.deref-operands.result.now c.deref-operands.ensures.value c.in_ok-target.target c.take_citation.new.stack.items ∙ run.1) in
    rw (c.in_ok-push.ensures.ok, items-push c.args.nodes.now c.unify_in.new.hyps.items (Proof c.in_ok-target.target))
    (row ∙ ap (λ xs. Ok (with_stack st (proof (expr_of c.args.nodes.now c.in_ok-target.target.0) ∷ xs))) run.3)

pub returns-clause-saved : goal.returns-clause-saved
returns-clause-saved g c at st ctx is =
    let run = (went-through c.unify_in.result _ _ _ c.in_ok-through.ensures c.unify_in.ensures.run).1 in
    let row = thm-save-row portable (tables_of c.args.env.now) at c.args.t st _ (c.in_ok-target.ensures.taken st ctx is) run.0 (cited-run c.args.env.now c.args.nodes.now st ctx c.args.t c.stream_of_thm-stream.result.now c.stream_of_thm-stream.ensures.stream c.take_citation.new.spare.operands.items c.deref-operands.result.now c.deref-operands.ensures.value c.in_ok-target.target c.take_citation.new.stack.items ∙ run.1) in
    rw (c.in_ok-push.ensures.ok, items-push c.args.nodes.now c.unify_in.new.hyps.items (Proof c.in_ok-target.target))
    (row
    ∙ ap (λ xs. Ok (record (with_stack st (proof (expr_of c.args.nodes.now c.in_ok-target.target.0) ∷ xs)) { heap = st.heap ++ proof (expr_of c.args.nodes.now c.in_ok-target.target.0) ∷ [] })) run.3)

pub returns-clause-steps : goal.returns-clause-steps
returns-clause-steps g c st ctx is = so-many _ _ _ _ (went-through c.unify_in.result _ _ _ c.in_ok-through.ensures c.unify_in.ensures.steps).1 (thm-steps portable (tables_of c.args.env.now) c.args.t st _ (c.in_ok-target.ensures.taken st ctx is) ∙ cited-count c.args.env.now c.args.nodes.now st ctx c.args.t c.stream_of_thm-stream.result.now c.stream_of_thm-stream.ensures.stream c.take_citation.new.spare.operands.items c.deref-operands.result.now c.deref-operands.ensures.value c.in_ok-target.target c.take_citation.new.stack.items)

-- ---- what stops it behind the stream

pub returns-in_err-push-clause-plain : goal.returns-in_err-push-clause-plain
returns-in_err-push-clause-plain g c at st ctx is =
    let p = err_from_is_err_and c.from_residual-in_err-push.result c.from_residual-in_err-push.ensures.1 in
    rw (p.1, p.2) (memory-stops _ _ c.in_err-push.ensures.err)

pub returns-in_err-push-clause-saved : goal.returns-in_err-push-clause-saved
returns-in_err-push-clause-saved g c at st ctx is =
    let p = err_from_is_err_and c.from_residual-in_err-push.result c.from_residual-in_err-push.ensures.1 in
    rw (p.1, p.2) (memory-stops _ _ c.in_err-push.ensures.err)

pub returns-in_err-push-clause-steps : goal.returns-in_err-push-clause-steps
returns-in_err-push-clause-steps g c st ctx is =
    let p = err_from_is_err_and c.from_residual-in_err-push.result c.from_residual-in_err-push.ensures.1 in
    rw (p.1, p.2) (memory-unless _ _ c.in_err-push.ensures.err)

pub returns-in_err-target-clause-ids : goal.returns-in_err-target-clause-ids
returns-in_err-target-clause-ids g c = rw (err_from_is_err_and c.from_residual.result c.from_residual.ensures.1).1 tt

pub returns-in_err-through-clause-ids : goal.returns-in_err-through-clause-ids
returns-in_err-through-clause-ids g c = rw (err_from_is_err_and c.from_residual-in_err-through.result c.from_residual-in_err-through.ensures.1).1 tt

pub returns-in_err-push-clause-ids : goal.returns-in_err-push-clause-ids
returns-in_err-push-clause-ids g c = rw (err_from_is_err_and c.from_residual-in_err-push.result c.from_residual-in_err-push.ensures.1).1 tt

pub returns-in_err-through-clause-most : goal.returns-in_err-through-clause-most
returns-in_err-through-clause-most g c = omega (arith, c.unify_in.ensures.most, c.stream_of_thm-stream.ensures.within)

pub returns-in_err-push-clause-most : goal.returns-in_err-push-clause-most
returns-in_err-push-clause-most g c = omega (arith, c.unify_in.ensures.most, c.stream_of_thm-stream.ensures.within)

pub returns-clause-most : goal.returns-clause-most
returns-clause-most g c = omega (arith, c.unify_in.ensures.most, c.stream_of_thm-stream.ensures.within)

-- ---- what the calls ask

pub take_citation-requires-clause-over : goal.take_citation-requires-clause-over
take_citation-requires-clause-over g c = c.requires.over

pub take_citation-requires-clause-stack : goal.take_citation-requires-clause-stack
take_citation-requires-clause-stack g c = c.requires.stack

pub kept_disjoint-requires : goal.kept_disjoint-requires
kept_disjoint-requires g c = record { ids = rw c.deref-operands.ensures.value c.in_ok-target.ensures.ids.1 }

pub unify_in-requires-clause-operands : goal.unify_in-requires-clause-operands
unify_in-requires-clause-operands g c = rw c.deref-operands.ensures.value c.in_ok-target.ensures.ids.1

pub unify_in-requires-clause-apart : goal.unify_in-requires-clause-apart
unify_in-requires-clause-apart g c = c.kept_disjoint.ensures _ c.requires.over

pub unify_in-requires-clause-target : goal.unify_in-requires-clause-target
unify_in-requires-clause-target g c = c.in_ok-target.ensures.ids.0

pub unify_in-requires-clause-hyps : goal.unify_in-requires-clause-hyps
unify_in-requires-clause-hyps g c = c.in_ok-target.ensures.ids.2

pub unify_in-requires-clause-stream : goal.unify_in-requires-clause-stream
unify_in-requires-clause-stream g c = c.stream_of_thm-stream.ensures.fits
