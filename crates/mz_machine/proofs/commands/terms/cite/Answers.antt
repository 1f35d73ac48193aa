use Rattle.std.proofs.Common.{◌≡◌, ◌+◌, ◌∙◌, Err, Ok, ap, arith, drop, subst, sym}
use Rattle.mz_layout_tables.specs.Tables.{thm_row}
use Rattle.mz_unify.specs.Stored.{matching_at}
use Rattle.mz_unify.specs.declared.unified.UnifyMode.TheVariants.{Use}
use Rattle.mz_cmd.specs.declared.code.ProofCode.TheVariants as code
use Rattle.mz_store.specs.Sharing.{IsOver, tree_of}
use Rattle.mz_machine_theory.specs.Profile.{strict}
use Rattle.mz_unify.proofs.Offered.{stopped-through, went-through}
use Rattle.mz_machine_theory.specs.ProofMachine.{cited}
use Rattle.mz_machine_theory.specs.Bodies.{row_steps}
use Rattle.mz_machine_env.specs.Before.{tables_of}
use Rattle.mz_machine_env.proofs.Offered.{signatures-before}
use Rattle.mz_machine.proofs.Stopping.{stops-as}
use Rattle.mz_machine.proofs.Unfoldings.{no-more, so-many}
use Rattle.mz_machine.proofs.CitationRows.{cited-stopped, cited-refused, cited-row, thm-stopped-steps, thm-steps}
use Rattle.mz_machine.proofs.Citing.{cited-run, cited-count}
use Rattle.mz_machine.proofs.commands.terms.cite.Goals as goal

pub returns-in-Err-clause-ids : goal.returns-in-Err-clause-ids
returns-in-Err-clause-ids g c = tt

pub returns-in-Err-clause-cited : goal.returns-in-Err-clause-cited
returns-in-Err-clause-cited g c st ctx is =
    stops-as c.in-Err.stop _ (λ k. cited strict (tables_of c.args.env.now) c.args.t st ≡ Err k) (λ k h. cited-stopped strict (tables_of c.args.env.now) c.args.t st k h) (c.in-Err.ensures.taken st ctx is)

pub returns-in-Err-clause-steps : goal.returns-in-Err-clause-steps
returns-in-Err-clause-steps g c st ctx is = (
  stops-as c.in-Err.stop _ (λ k. c.args.steps.now ≡ c.args.steps.now + row_steps strict (tables_of c.args.env.now) code.Thm c.args.t st)
      (λ k h. no-more _ _ (thm-stopped-steps strict (tables_of c.args.env.now) c.args.t st k h)) (c.in-Err.ensures.taken st ctx is),
  omega arith,
)

pub returns-in-Ok-through-clause-ids : goal.returns-in-Ok-through-clause-ids
returns-in-Ok-through-clause-ids g c = (c.in-Ok.ensures.ids.0, (went-through c.unify_in.result _ _ _ c.in-Ok-through.ensures c.unify_in.ensures.ids).1.1)

pub returns-in-Ok-through-clause-cited : goal.returns-in-Ok-through-clause-cited
returns-in-Ok-through-clause-cited g c st ctx is =
    let E = c.args.env.now in
    let s = c.args.store.now in
    let taken = c.in-Ok.ensures.taken st ctx is in
    let m = matching_at s Use (drop (thm_row E.file c.args.t).stream_at E.file) c.take_citation.new.spare.operands.items c.in-Ok.target c.take_citation.new.stack.items in
    let run = (went-through c.unify_in.result _ _ _ c.in-Ok-through.ensures c.unify_in.ensures.run).1 in
    cited-row strict (tables_of E) c.args.t st m taken run.0 (cited-run E s st ctx c.args.t c.stream_of_thm-stream.result.now c.stream_of_thm-stream.ensures.stream c.take_citation.new.spare.operands.items c.deref.result.now c.deref.ensures.value c.in-Ok.target c.take_citation.new.stack.items ∙ run.1) ∙ ap (λ xs. Ok (tree_of s c.in-Ok.target.0, xs)) run.3

pub returns-in-Ok-through-clause-steps : goal.returns-in-Ok-through-clause-steps
returns-in-Ok-through-clause-steps g c st ctx is =
    let E = c.args.env.now in
    let s = c.args.store.now in
    let taken = c.in-Ok.ensures.taken st ctx is in
    let m = matching_at s Use (drop (thm_row E.file c.args.t).stream_at E.file) c.take_citation.new.spare.operands.items c.in-Ok.target c.take_citation.new.stack.items in (
      so-many _ _ _ _ (went-through c.unify_in.result _ _ _ c.in-Ok-through.ensures c.unify_in.ensures.steps).1 (thm-steps strict (tables_of E) c.args.t st m taken ∙ cited-count E s st ctx c.args.t c.stream_of_thm-stream.result.now c.stream_of_thm-stream.ensures.stream c.take_citation.new.spare.operands.items c.deref.result.now c.deref.ensures.value c.in-Ok.target c.take_citation.new.stack.items),
      omega (arith, c.unify_in.ensures.most, c.stream_of_thm-stream.ensures.within),
    )

pub returns-in-Err-through-clause-ids : goal.returns-in-Err-through-clause-ids
returns-in-Err-through-clause-ids g c = tt

pub returns-in-Err-through-clause-cited : goal.returns-in-Err-through-clause-cited
returns-in-Err-through-clause-cited g c st ctx is =
    let E = c.args.env.now in
    let s = c.args.store.now in
    let taken = c.in-Ok.ensures.taken st ctx is in
    let m = matching_at s Use (drop (thm_row E.file c.args.t).stream_at E.file) c.take_citation.new.spare.operands.items c.in-Ok.target c.take_citation.new.stack.items in
    stopped-through c.unify_in.result _ _ (λ k. cited strict (tables_of E) c.args.t st ≡ Err k) c.in-Err-through.stop c.in-Err-through.ensures c.unify_in.ensures.run
    (λ place k h. cited-refused strict (tables_of E) c.args.t st m taken place k (cited-run E s st ctx c.args.t c.stream_of_thm-stream.result.now c.stream_of_thm-stream.ensures.stream c.take_citation.new.spare.operands.items c.deref.result.now c.deref.ensures.value c.in-Ok.target c.take_citation.new.stack.items ∙ h))

pub returns-in-Err-through-clause-steps : goal.returns-in-Err-through-clause-steps
returns-in-Err-through-clause-steps g c st ctx is =
    let E = c.args.env.now in
    let s = c.args.store.now in
    let taken = c.in-Ok.ensures.taken st ctx is in
    let m = matching_at s Use (drop (thm_row E.file c.args.t).stream_at E.file) c.take_citation.new.spare.operands.items c.in-Ok.target c.take_citation.new.stack.items in (
      stopped-through c.unify_in.result _ _ (λ k. c.unify_in.new.steps ≡ c.args.steps.now + row_steps strict (tables_of E) code.Thm c.args.t st) c.in-Err-through.stop c.in-Err-through.ensures c.unify_in.ensures.steps
          (λ place k h. so-many _ _ _ _ h (thm-steps strict (tables_of E) c.args.t st m taken ∙ cited-count E s st ctx c.args.t c.stream_of_thm-stream.result.now c.stream_of_thm-stream.ensures.stream c.take_citation.new.spare.operands.items c.deref.result.now c.deref.ensures.value c.in-Ok.target c.take_citation.new.stack.items)),
      omega (arith, c.unify_in.ensures.most, c.stream_of_thm-stream.ensures.within),
    )

-- ---- what the calls ask

pub take_citation-requires-clause-over : goal.take_citation-requires-clause-over
take_citation-requires-clause-over g c = c.requires.over

pub take_citation-requires-clause-mode : goal.take_citation-requires-clause-mode
take_citation-requires-clause-mode g c = c.requires.mode

pub take_citation-requires-clause-stack : goal.take_citation-requires-clause-stack
take_citation-requires-clause-stack g c = c.requires.stack

pub unify_in-requires-clause-over : goal.unify_in-requires-clause-over
unify_in-requires-clause-over g c = subst (λ sigs. IsOver sigs c.args.store.now) (sym (signatures-before c.args.env.now)) c.requires.over

pub unify_in-requires-clause-operands : goal.unify_in-requires-clause-operands
unify_in-requires-clause-operands g c = rw c.deref.ensures.value c.in-Ok.ensures.ids.1

pub unify_in-requires-clause-apart : goal.unify_in-requires-clause-apart
unify_in-requires-clause-apart g c is = absurd cc

pub unify_in-requires-clause-target : goal.unify_in-requires-clause-target
unify_in-requires-clause-target g c = c.in-Ok.ensures.ids.0

pub unify_in-requires-clause-hyps : goal.unify_in-requires-clause-hyps
unify_in-requires-clause-hyps g c = c.in-Ok.ensures.ids.2

pub unify_in-requires-clause-stream : goal.unify_in-requires-clause-stream
unify_in-requires-clause-stream g c = c.stream_of_thm-stream.ensures.fits

pub stream_of_thm-stream-requires : goal.stream_of_thm-stream-requires
stream_of_thm-stream-requires g c = c.in-Ok.ensures.ids.3
