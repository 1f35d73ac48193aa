use Rattle.std.proofs.Common.{◌≡◌, ◌∙◌, ◌+◌, Err, ap, sym, subst, arith}
use Rattle.std.proofs.lemmas.Result.{err_from_is_err_and}
use Rattle.mz_cmd.specs.declared.code.ProofCode.TheVariants as code
use Rattle.mz_machine_theory.specs.ProofMachine.{proof_step}
use Rattle.mz_machine_theory.specs.Bodies.{row_steps}
use Rattle.mz_machine_env.specs.Before.{tables_of}
use Rattle.mz_pmachine_unify.specs.Numbering.{IsOver, expr_of}
use Rattle.mz_pmachine.specs.OverNodes.{pop_unfolding}
use Rattle.mz_machine_env.proofs.Offered.{signatures-before}
use Rattle.mz_pmachine_theory.specs.NodeIdentity.{portable}
use Rattle.mz_unify.proofs.Offered.{stopped-through, went-through}
use Rattle.mz_pmachine_unify.proofs.Offered.{of-numbered, tells-operands}
use Rattle.mz_machine.proofs.Offered.{not-taken, of-variable, not-defined, is-unfolding, unfold-stopped, stopped-steps, unfold-refused, unfold-row, unfold-steps, gives-stack, no-more, no-stream, row-there, so-many, stream-there, unless-mem}
use Rattle.mz_pmachine.proofs.Converting.{operand-exprs}
use Rattle.mz_pmachine.proofs.Unfoldings.{term-there, same-run, same-count, ids-pushed, items-pushed}
use Rattle.mz_pmachine.proofs.commands.conversions.unfold.Goals as goal

pub returns-in-Err-clause-row : goal.returns-in-Err-clause-row
returns-in-Err-clause-row g c at n st ctx is = unfold-stopped portable _ st at n _ (not-taken portable _ st _ (ap pop_unfolding is ∙ c.in-Err.ensures.taken))

pub returns-in-Err-clause-steps : goal.returns-in-Err-clause-steps
returns-in-Err-clause-steps g c n st ctx is = no-more _ _ (stopped-steps portable _ st n _ (not-taken portable _ st _ (ap pop_unfolding is ∙ c.in-Err.ensures.taken)))

pub returns-in_default-clause-row : goal.returns-in_default-clause-row
returns-in_default-clause-row g c at n st ctx is =
    unfold-stopped portable _ st at n _ (of-variable portable _ st of-numbered _ _ _ _ (ap pop_unfolding is ∙ c.in-Ok.ensures.taken) (sym c.head.ensures ∙ c.in_default.is))

pub returns-in_default-clause-steps : goal.returns-in_default-clause-steps
returns-in_default-clause-steps g c n st ctx is =
    no-more _ _ (stopped-steps portable _ st n _ (of-variable portable _ st of-numbered _ _ _ _ (ap pop_unfolding is ∙ c.in-Ok.ensures.taken) (sym c.head.ensures ∙ c.in_default.is)))

pub has_body-requires : goal.has_body-requires
has_body-requires g c = term-there c.args.env.now c.args.nodes.now c.requires.over c.in-Ok.items.1.0 c.in-Some.term c.in-Ok.ensures.ids.1 (sym c.head.ensures ∙ c.in-Some.is)

pub returns-then-not-has_body-clause-row : goal.returns-then-not-has_body-clause-row
returns-then-not-has_body-clause-row g c at n st ctx is =
    let h = sym c.head.ensures ∙ c.in-Some.is in
    let there = row-there c.args.env.now c.in-Some.term (term-there c.args.env.now c.args.nodes.now c.requires.over c.in-Ok.items.1.0 c.in-Some.term c.in-Ok.ensures.ids.1 h) in
    unfold-stopped portable _ st at n _ (not-defined portable _ st of-numbered _ _ _ _ (ap pop_unfolding is ∙ c.in-Ok.ensures.taken) c.in-Some.term h
    (no-stream c.args.env.now c.in-Some.term there (sym c.has_body.ensures.row ∙ c.if-not-has_body.true)))

pub returns-then-not-has_body-clause-steps : goal.returns-then-not-has_body-clause-steps
returns-then-not-has_body-clause-steps g c n st ctx is =
    let h = sym c.head.ensures ∙ c.in-Some.is in
    let there = row-there c.args.env.now c.in-Some.term (term-there c.args.env.now c.args.nodes.now c.requires.over c.in-Ok.items.1.0 c.in-Some.term c.in-Ok.ensures.ids.1 h) in
    no-more _ _ (stopped-steps portable _ st n _ (not-defined portable _ st of-numbered _ _ _ _ (ap pop_unfolding is ∙ c.in-Ok.ensures.taken) c.in-Some.term h
    (no-stream c.args.env.now c.in-Some.term there (sym c.has_body.ensures.row ∙ c.if-not-has_body.true))))

pub stream_of_term-stream-requires : goal.stream_of_term-stream-requires
stream_of_term-stream-requires g c = row-there c.args.env.now c.in-Some.term (term-there c.args.env.now c.args.nodes.now c.requires.over c.in-Ok.items.1.0 c.in-Some.term c.in-Ok.ensures.ids.1 (sym c.head.ensures ∙ c.in-Some.is))

pub unify_in-requires-clause-over : goal.unify_in-requires-clause-over
unify_in-requires-clause-over g c = subst (λ sigs. IsOver sigs c.args.nodes.now) (sym (signatures-before c.args.env.now)) c.requires.over

pub returns-clause-ids : goal.returns-clause-ids
returns-clause-ids g c = ids-pushed c.args.nodes.now _ _ _ c.push.result c.push.ensures.ok (c.in-Ok.ensures.ids.0, c.in-Ok.ensures.ids.2) c.in-Ok.ensures.ids.3

pub returns-clause-row : goal.returns-clause-row
returns-clause-row g c at n st ctx is =
    let E = c.args.env.now in
    let s = c.args.nodes.now in
    let t = c.in-Some.term in
    let l = expr_of s c.in-Ok.items.1.0 in
    let h = sym c.head.ensures ∙ c.in-Some.is in
    let there = row-there E t (term-there E s c.requires.over c.in-Ok.items.1.0 t c.in-Ok.ensures.ids.1 h) in
    let m = is-unfolding portable _ st of-numbered _ _ _ _ (ap pop_unfolding is ∙ c.in-Ok.ensures.taken) t _ h (stream-there E t there (sym c.has_body.ensures.row ∙ c.if-not-has_body.false)) in
    let are = operand-exprs s c.args-2.result.now l c.args-2.ensures.exprs in
    let run = (went-through c.unify_in.result _ _ _ c.in_ok-through.ensures c.unify_in.ensures.run).1 in
    gives-stack st _ _ _ c.push.result
    (unfold-row portable _ st _ _ _ m at n _ (same-run E s st.ctx ctx t l c.in-Ok.items.0 _ _ _ c.stream_of_term-stream.ensures.stream are c.clear.ensures.items ∙ run.1))
    (items-pushed s _ _ _ c.push.result c.push.ensures.ok) c.push.ensures.err

pub returns-clause-steps : goal.returns-clause-steps
returns-clause-steps g c n st ctx is =
    let E = c.args.env.now in
    let s = c.args.nodes.now in
    let t = c.in-Some.term in
    let l = expr_of s c.in-Ok.items.1.0 in
    let h = sym c.head.ensures ∙ c.in-Some.is in
    let there = row-there E t (term-there E s c.requires.over c.in-Ok.items.1.0 t c.in-Ok.ensures.ids.1 h) in
    let m = is-unfolding portable _ st of-numbered _ _ _ _ (ap pop_unfolding is ∙ c.in-Ok.ensures.taken) t _ h (stream-there E t there (sym c.has_body.ensures.row ∙ c.if-not-has_body.false)) in
    let are = operand-exprs s c.args-2.result.now l c.args-2.ensures.exprs in
    unless-mem c.push.result (so-many _ _ _ _ (went-through c.unify_in.result _ _ _ c.in_ok-through.ensures c.unify_in.ensures.steps).1 (unfold-steps portable _ st _ _ _ m n ∙ sym (same-count E s st.ctx ctx t l c.in-Ok.items.0 _ _ _ c.stream_of_term-stream.ensures.stream are c.clear.ensures.items)))

pub returns-in_err-through-clause-row : goal.returns-in_err-through-clause-row
returns-in_err-through-clause-row g c at n st ctx is =
    let E = c.args.env.now in
    let s = c.args.nodes.now in
    let t = c.in-Some.term in
    let l = expr_of s c.in-Ok.items.1.0 in
    let h = sym c.head.ensures ∙ c.in-Some.is in
    let there = row-there E t (term-there E s c.requires.over c.in-Ok.items.1.0 t c.in-Ok.ensures.ids.1 h) in
    let m = is-unfolding portable _ st of-numbered _ _ _ _ (ap pop_unfolding is ∙ c.in-Ok.ensures.taken) t _ h (stream-there E t there (sym c.has_body.ensures.row ∙ c.if-not-has_body.false)) in
    let are = operand-exprs s c.args-2.result.now l c.args-2.ensures.exprs in
    let p = err_from_is_err_and c.from_residual.result c.from_residual.ensures.1 in
    rw (p.1, p.2) (stopped-through c.unify_in.result _ _ (λ d. proof_step portable (tables_of E) at code.Unfold n st ≡ Err d) c.in_err-through.field-0.0 c.in_err-through.ensures c.unify_in.ensures.run
    (λ place d stopped. unfold-refused portable _ st _ _ _ m at n place d (same-run E s st.ctx ctx t l c.in-Ok.items.0 _ _ _ c.stream_of_term-stream.ensures.stream are c.clear.ensures.items ∙ stopped)))

pub returns-in_err-through-clause-steps : goal.returns-in_err-through-clause-steps
returns-in_err-through-clause-steps g c n st ctx is =
    let E = c.args.env.now in
    let s = c.args.nodes.now in
    let t = c.in-Some.term in
    let l = expr_of s c.in-Ok.items.1.0 in
    let h = sym c.head.ensures ∙ c.in-Some.is in
    let there = row-there E t (term-there E s c.requires.over c.in-Ok.items.1.0 t c.in-Ok.ensures.ids.1 h) in
    let m = is-unfolding portable _ st of-numbered _ _ _ _ (ap pop_unfolding is ∙ c.in-Ok.ensures.taken) t _ h (stream-there E t there (sym c.has_body.ensures.row ∙ c.if-not-has_body.false)) in
    let are = operand-exprs s c.args-2.result.now l c.args-2.ensures.exprs in
    let p = err_from_is_err_and c.from_residual.result c.from_residual.ensures.1 in
    rw (p.1, p.2) (stopped-through c.unify_in.result _ _ (λ d. c.unify_in.new.steps ≡ c.args.steps.now + row_steps portable (tables_of E) code.Unfold n st) c.in_err-through.field-0.0 c.in_err-through.ensures c.unify_in.ensures.steps
    (λ place d many. so-many _ _ _ _ many (unfold-steps portable _ st _ _ _ m n ∙ sym (same-count E s st.ctx ctx t l c.in-Ok.items.0 _ _ _ c.stream_of_term-stream.ensures.stream are c.clear.ensures.items))))

pub returns-in_err-through-clause-ids : goal.returns-in_err-through-clause-ids
returns-in_err-through-clause-ids g c = rw (err_from_is_err_and c.from_residual.result c.from_residual.ensures.1).1 tt

pub returns-in_err-through-clause-most : goal.returns-in_err-through-clause-most
returns-in_err-through-clause-most g c = omega (arith, c.unify_in.ensures.most, c.stream_of_term-stream.ensures.within)

pub returns-clause-most : goal.returns-clause-most
returns-clause-most g c = omega (arith, c.unify_in.ensures.most, c.stream_of_term-stream.ensures.within)

-- ---- what the calls ask

pub pop_unfolding-requires : goal.pop_unfolding-requires
pop_unfolding-requires g c = c.requires.stack

pub head-requires : goal.head-requires
head-requires g c = c.in-Ok.ensures.ids.1

pub args-requires : goal.args-requires
args-requires g c = c.in-Ok.ensures.ids.1

pub vars-requires : goal.vars-requires
vars-requires g c = c.in-Ok.ensures.ids.1

pub unify_in-requires-clause-operands : goal.unify_in-requires-clause-operands
unify_in-requires-clause-operands g c = c.args-2.ensures.ids

pub unify_in-requires-clause-apart : goal.unify_in-requires-clause-apart
unify_in-requires-clause-apart g c =
    tells-operands c.args.nodes.now c.in-Ok.items.1 c.args-2.result.now c.vars.result c.in-Some.term (sym c.head.ensures ∙ c.in-Some.is) c.args-2.ensures.exprs (c.vars.ensures.variables _ c.requires.over)

pub unify_in-requires-clause-target : goal.unify_in-requires-clause-target
unify_in-requires-clause-target g c = c.in-Ok.ensures.ids.0

pub unify_in-requires-clause-stream : goal.unify_in-requires-clause-stream
unify_in-requires-clause-stream g c = c.stream_of_term-stream.ensures.fits

pub returns-in-Err-clause-ids : goal.returns-in-Err-clause-ids
returns-in-Err-clause-ids g c = tt

pub returns-in_default-clause-ids : goal.returns-in_default-clause-ids
returns-in_default-clause-ids g c = tt

pub returns-then-not-has_body-clause-ids : goal.returns-then-not-has_body-clause-ids
returns-then-not-has_body-clause-ids g c = tt
