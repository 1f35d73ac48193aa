use Rattle.std.proofs.Common.{◌≡◌, ◌∙◌, ◌+◌, Err, sym, subst, arith}
use Rattle.mz_machine_theory.specs.ProofMachine.{proof_step}
use Rattle.mz_cmd.specs.declared.code.ProofCode.TheVariants as code
use Rattle.mz_machine_theory.specs.Bodies.{row_steps}
use Rattle.mz_machine_env.specs.Before.{tables_of}
use Rattle.mz_logic_theory.specs.Tree.{listed}
use Rattle.mz_store.specs.Sharing.{IsOver, operands_of, tree_of}
use Rattle.mz_unify.specs.Stored.{items_at}
use Rattle.mz_machine_env.proofs.Offered.{signatures-before}
use Rattle.mz_machine_theory.specs.Profile.{strict}
use Rattle.mz_unify.proofs.Offered.{stopped-through, tells-operands, went-through}
use Rattle.mz_machine.proofs.ConversionRows.{unfold-stopped, stopped-steps, unfold-refused, unfold-row, unfold-steps, gives-stack}
use Rattle.mz_machine.proofs.Converting.{operand-trees}
use Rattle.mz_machine.proofs.Unfoldings.{unfolded, same-run, same-count, no-more, so-many, ids-pushed, items-pushed, unless-mem}
use Rattle.mz_machine.proofs.commands.conversions.unfold.Goals as goal

pub returns-in-Err-clause-ids : goal.returns-in-Err-clause-ids
returns-in-Err-clause-ids g c = tt

pub returns-in-Err-clause-row : goal.returns-in-Err-clause-row
returns-in-Err-clause-row g c at n st ctx is =
    let tables = tables_of c.args.env.now in
    unfold-stopped strict tables st at n c.in-Err.rule (c.in-Err.ensures.taken st is)

pub returns-in-Err-clause-steps : goal.returns-in-Err-clause-steps
returns-in-Err-clause-steps g c n st ctx is =
    let tables = tables_of c.args.env.now in
    (no-more _ _ (stopped-steps strict tables st n c.in-Err.rule (c.in-Err.ensures.taken st is)), omega arith)

pub returns-in-Ok-through-clause-ids : goal.returns-in-Ok-through-clause-ids
returns-in-Ok-through-clause-ids g c =
    let ids = c.in-Ok.ensures.ids in
    ids-pushed c.args.store.now _ _ _ c.push.result c.push.ensures.ok (ids.0, ids.2) ids.4

pub returns-in-Ok-through-clause-row : goal.returns-in-Ok-through-clause-row
returns-in-Ok-through-clause-row g c at n st ctx is =
    let E = c.args.env.now in
    let s = c.args.store.now in
    let ids = c.in-Ok.ensures.ids in
    let taken = c.in-Ok.ensures.taken st is in
    let es = listed (operands_of (tree_of s c.in-Ok.taken.1.0)) in
    let m = unfolded E s st.ctx ctx c.in-Ok.taken.3 c.in-Ok.taken.0 es in
    let right = tree_of s c.in-Ok.taken.2.0 in
    let below = items_at s c.take_unfolding.new.stack.items in
    let stream = c.stream_of_term-stream.result.now in
    let run = (went-through c.unify_in.result _ _ _ c.in-Ok-through.ensures c.unify_in.ensures.run).1 in
    gives-stack st _ _ _ c.push.result (unfold-row strict (tables_of E) st m right below taken at n _ (same-run E s st.ctx ctx c.in-Ok.taken.3 c.in-Ok.taken.0 es stream c.args-2.result.now c.clear.new.self.items c.stream_of_term-stream.ensures.stream (operand-trees s c.args-2.result.now (tree_of s c.in-Ok.taken.1.0) c.args-2.ensures.trees) c.clear.ensures.items ∙ run.1))
    (items-pushed s _ _ _ c.push.result c.push.ensures.ok) c.push.ensures.err

pub returns-in-Err-through-clause-row : goal.returns-in-Err-through-clause-row
returns-in-Err-through-clause-row g c at n st ctx is =
    let E = c.args.env.now in
    let s = c.args.store.now in
    let ids = c.in-Ok.ensures.ids in
    let taken = c.in-Ok.ensures.taken st is in
    let es = listed (operands_of (tree_of s c.in-Ok.taken.1.0)) in
    let m = unfolded E s st.ctx ctx c.in-Ok.taken.3 c.in-Ok.taken.0 es in
    let right = tree_of s c.in-Ok.taken.2.0 in
    let below = items_at s c.take_unfolding.new.stack.items in
    let stream = c.stream_of_term-stream.result.now in
    stopped-through c.unify_in.result _ _ (λ d. proof_step strict (tables_of E) at code.Unfold n st ≡ Err d) c.in-Err-through.stop c.in-Err-through.ensures c.unify_in.ensures.run
    (λ place d stopped. unfold-refused strict (tables_of E) st m right below taken at n place d (same-run E s st.ctx ctx c.in-Ok.taken.3 c.in-Ok.taken.0 es stream c.args-2.result.now c.clear.new.self.items c.stream_of_term-stream.ensures.stream (operand-trees s c.args-2.result.now (tree_of s c.in-Ok.taken.1.0) c.args-2.ensures.trees) c.clear.ensures.items ∙ stopped))

pub returns-in-Ok-through-clause-steps : goal.returns-in-Ok-through-clause-steps
returns-in-Ok-through-clause-steps g c n st ctx is =
    let E = c.args.env.now in
    let s = c.args.store.now in
    let ids = c.in-Ok.ensures.ids in
    let taken = c.in-Ok.ensures.taken st is in
    let es = listed (operands_of (tree_of s c.in-Ok.taken.1.0)) in
    let m = unfolded E s st.ctx ctx c.in-Ok.taken.3 c.in-Ok.taken.0 es in
    let right = tree_of s c.in-Ok.taken.2.0 in
    let below = items_at s c.take_unfolding.new.stack.items in
    let stream = c.stream_of_term-stream.result.now in
    let count = unfold-steps strict (tables_of E) st m right below taken n ∙ sym (same-count E s st.ctx ctx c.in-Ok.taken.3 c.in-Ok.taken.0 es stream c.args-2.result.now c.clear.new.self.items c.stream_of_term-stream.ensures.stream (operand-trees s c.args-2.result.now (tree_of s c.in-Ok.taken.1.0) c.args-2.ensures.trees) c.clear.ensures.items) in (
      unless-mem c.push.result (so-many _ _ _ _ (went-through c.unify_in.result _ _ _ c.in-Ok-through.ensures c.unify_in.ensures.steps).1 count),
      omega (arith, c.unify_in.ensures.most, c.stream_of_term-stream.ensures.within),
    )

pub returns-in-Err-through-clause-steps : goal.returns-in-Err-through-clause-steps
returns-in-Err-through-clause-steps g c n st ctx is =
    let E = c.args.env.now in
    let s = c.args.store.now in
    let ids = c.in-Ok.ensures.ids in
    let taken = c.in-Ok.ensures.taken st is in
    let es = listed (operands_of (tree_of s c.in-Ok.taken.1.0)) in
    let m = unfolded E s st.ctx ctx c.in-Ok.taken.3 c.in-Ok.taken.0 es in
    let right = tree_of s c.in-Ok.taken.2.0 in
    let below = items_at s c.take_unfolding.new.stack.items in
    let stream = c.stream_of_term-stream.result.now in
    let count = unfold-steps strict (tables_of E) st m right below taken n ∙ sym (same-count E s st.ctx ctx c.in-Ok.taken.3 c.in-Ok.taken.0 es stream c.args-2.result.now c.clear.new.self.items c.stream_of_term-stream.ensures.stream (operand-trees s c.args-2.result.now (tree_of s c.in-Ok.taken.1.0) c.args-2.ensures.trees) c.clear.ensures.items) in (
      stopped-through c.unify_in.result _ _ (λ d. c.unify_in.new.steps ≡ c.args.steps.now + row_steps strict (tables_of E) code.Unfold n st) c.in-Err-through.stop c.in-Err-through.ensures c.unify_in.ensures.steps
          (λ place d many. so-many _ _ _ _ many count),
      omega (arith, c.unify_in.ensures.most, c.stream_of_term-stream.ensures.within),
    )

-- ---- what the calls ask

pub take_unfolding-requires-clause-over : goal.take_unfolding-requires-clause-over
take_unfolding-requires-clause-over g c = c.requires.over

pub take_unfolding-requires-clause-stack : goal.take_unfolding-requires-clause-stack
take_unfolding-requires-clause-stack g c = c.requires.stack

pub stream_of_term-stream-requires : goal.stream_of_term-stream-requires
stream_of_term-stream-requires g c = c.in-Ok.ensures.ids.3

pub unify_in-requires-clause-over : goal.unify_in-requires-clause-over
unify_in-requires-clause-over g c = subst (λ sigs. IsOver sigs c.args.store.now) (sym (signatures-before c.args.env.now)) c.requires.over

pub unify_in-requires-clause-operands : goal.unify_in-requires-clause-operands
unify_in-requires-clause-operands g c = c.args-2.ensures.ids

pub unify_in-requires-clause-apart : goal.unify_in-requires-clause-apart
unify_in-requires-clause-apart g c _ =
    tells-operands c.args.store.now _ c.in-Ok.taken.1 c.args-2.result.now c.deps.result c.in-Ok.taken.3 c.requires.mode c.in-Ok.ensures.head c.args-2.ensures.trees (c.deps.ensures.variables _ c.requires.over)

pub args-requires : goal.args-requires
args-requires g c = c.in-Ok.ensures.ids.1

pub deps-requires : goal.deps-requires
deps-requires g c = c.in-Ok.ensures.ids.1

pub unify_in-requires-clause-target : goal.unify_in-requires-clause-target
unify_in-requires-clause-target g c = c.in-Ok.ensures.ids.0

pub unify_in-requires-clause-stream : goal.unify_in-requires-clause-stream
unify_in-requires-clause-stream g c = c.stream_of_term-stream.ensures.fits
