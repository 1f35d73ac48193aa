use Rattle.std.proofs.Common.{◌∙◌, [], ◌∷◌, Ok, refl, sym, ap, arith}
use Rattle.std.proofs.lemmas.Result.{err_from_is_err_and, on_ok_weaker}
use Rattle.mz_store.specs.declared.item.Item.TheVariants.{Expr, Proof}
use Rattle.mz_pmachine_unify.proofs.Offered.{items-in-both}
use Rattle.mz_machine.proofs.Offered.{no-more, on-ok, pushed-gives, unless-mem}
use Rattle.mz_pmachine.specs.OverNodes.{state_at}
use Rattle.mz_pmachine.proofs.Popping.{heap-pushed}
use Rattle.mz_pmachine.proofs.TermResults.{grows-not, items-still, heap-kept, hyps-kept, saved-state}
use Rattle.mz_pmachine.proofs.commands.make.Goals as goal

pub returns-in_ok-term-in-Term-clause-ids : goal.returns-in_ok-term-in-Term-clause-ids
returns-in_ok-term-in-Term-clause-ids g c =
    (items-still c.args.nodes.now c.term.new.nodes c.in_ok-term-in-Term.ensures.grows.keeps c.args.heap.now.items c.requires.heap, c.in_ok-term-in-Term.ensures.ids.1)

pub returns-in_ok-term-in-Term-clause-row : goal.returns-in_ok-term-in-Term-clause-row
returns-in_ok-term-in-Term-clause-row g c hyps inside =
    let keeps = c.in_ok-term-in-Term.ensures.grows.keeps in
    rw (c.in-Term.is, c.term.ensures.context, heap-kept c.args.nodes.now c.term.new.nodes keeps c.args.heap.now.items c.requires.heap, hyps-kept c.args.nodes.now c.term.new.nodes keeps hyps inside)
    (c.in_ok-term-in-Term.ensures.plain (state_at c.args.nodes.now c.args.heap.now.items c.args.stack.now.items hyps) refl refl)

pub returns-in_ok-made-in-TermSave-clause-grows : goal.returns-in_ok-made-in-TermSave-clause-grows
returns-in_ok-made-in-TermSave-clause-grows g c = on-ok c.push.result c.in_ok-made-in-TermSave.ensures.grows

pub returns-in_ok-made-in-TermSave-clause-ids : goal.returns-in_ok-made-in-TermSave-clause-ids
returns-in_ok-made-in-TermSave-clause-ids g c =
    let s' = c.term-in-TermSave.new.nodes in
    let heap = items-still c.args.nodes.now s' c.in_ok-made-in-TermSave.ensures.grows.keeps c.args.heap.now.items c.requires.heap in
    let made = c.in_ok-made-in-TermSave.ensures.ids in
    on_ok_weaker c.push.result (λ is. (rw is (items-in-both s' c.args.heap.now.items (Expr c.in_ok-made-in-TermSave.made ∷ []) heap (made.0, tt)), made.1)) c.push.ensures.ok

pub returns-in_ok-made-in-TermSave-clause-row : goal.returns-in_ok-made-in-TermSave-clause-row
returns-in_ok-made-in-TermSave-clause-row g c hyps inside =
    let s = c.args.nodes.now in
    let s' = c.term-in-TermSave.new.nodes in
    let keeps = c.in_ok-made-in-TermSave.ensures.grows.keeps in
    let row = c.in_ok-made-in-TermSave.ensures.saved (state_at s c.args.heap.now.items c.args.stack.now.items hyps) refl refl in
    rw c.in-TermSave.is (pushed-gives c.push.result _ _
    (on_ok_weaker c.push.result (λ is. row ∙ ap (λ st. Ok st) (saved-state s s' keeps c.args.heap.now.items c.push.new.items.items c.term-in-TermSave.new.stack.items hyps
    (Expr c.in_ok-made-in-TermSave.made) c.term-in-TermSave.ensures.context is c.requires.heap inside)) c.push.ensures.ok) c.push.ensures.err)

pub returns-in_ok-made-in-TermSave-clause-steps : goal.returns-in_ok-made-in-TermSave-clause-steps
returns-in_ok-made-in-TermSave-clause-steps g c hyps = rw c.in-TermSave.is (unless-mem c.push.result (no-more _ _ refl))

pub returns-in_ok-proved-in-ThmSave-clause-grows : goal.returns-in_ok-proved-in-ThmSave-clause-grows
returns-in_ok-proved-in-ThmSave-clause-grows g c = on-ok c.push-in-ThmSave.result (grows-not _ c.args.nodes.now c.requires.over)

pub returns-in_ok-proved-in-ThmSave-clause-ids : goal.returns-in_ok-proved-in-ThmSave-clause-ids
returns-in_ok-proved-in-ThmSave-clause-ids g c =
    let made = c.in_ok-proved-in-ThmSave.ensures.ids in
    on_ok_weaker c.push-in-ThmSave.result (λ is. (
      rw is (items-in-both c.args.nodes.now c.args.heap.now.items (Proof c.in_ok-proved-in-ThmSave.proved ∷ []) c.requires.heap
          (made.0, tt)),
      made.1,
    )) c.push-in-ThmSave.ensures.ok

pub returns-in_ok-proved-in-ThmSave-clause-row : goal.returns-in_ok-proved-in-ThmSave-clause-row
returns-in_ok-proved-in-ThmSave-clause-row g c hyps inside =
    let s = c.args.nodes.now in
    let after = state_at s [] c.thm-in-ThmSave.new.stack.items hyps in
    let row = c.in_ok-proved-in-ThmSave.ensures.saved c.args.at (state_at s c.args.heap.now.items c.args.stack.now.items hyps) refl refl in
    rw c.in-ThmSave.is (pushed-gives c.push-in-ThmSave.result _ _
    (on_ok_weaker c.push-in-ThmSave.result (λ is. row ∙ ap (λ heap. Ok (record after { heap = heap }))
    (sym (heap-pushed s c.args.heap.now.items c.push-in-ThmSave.new.items.items (Proof c.in_ok-proved-in-ThmSave.proved) is))) c.push-in-ThmSave.ensures.ok)
    c.push-in-ThmSave.ensures.err)

pub returns-in_ok-proved-in-ThmSave-clause-steps : goal.returns-in_ok-proved-in-ThmSave-clause-steps
returns-in_ok-proved-in-ThmSave-clause-steps g c hyps =
    rw c.in-ThmSave.is (unless-mem c.push-in-ThmSave.result (c.in_ok-proved-in-ThmSave.ensures.steps (state_at c.args.nodes.now c.args.heap.now.items c.args.stack.now.items hyps) refl refl))

pub returns-in_ok-proved-in-ThmSave-clause-most : goal.returns-in_ok-proved-in-ThmSave-clause-most
returns-in_ok-proved-in-ThmSave-clause-most g c = c.thm-in-ThmSave.ensures.most

-- ---- the number of the next node

pub returns-in_ok-made-in-TermSave-clause-next : goal.returns-in_ok-made-in-TermSave-clause-next
returns-in_ok-made-in-TermSave-clause-next g c = on-ok c.push.result c.in_ok-made-in-TermSave.ensures.next

pub returns-in_ok-proved-in-ThmSave-clause-next : goal.returns-in_ok-proved-in-ThmSave-clause-next
returns-in_ok-proved-in-ThmSave-clause-next g c = on-ok c.push-in-ThmSave.result (omega (arith, c.requires.number))

-- ---- what stops it

pub returns-in_err-term-in-Term-clause-grows : goal.returns-in_err-term-in-Term-clause-grows
returns-in_err-term-in-Term-clause-grows g c = rw (err_from_is_err_and c.from_residual.result c.from_residual.ensures.1).1 tt

pub returns-in_err-term-in-Term-clause-ids : goal.returns-in_err-term-in-Term-clause-ids
returns-in_err-term-in-Term-clause-ids g c = rw (err_from_is_err_and c.from_residual.result c.from_residual.ensures.1).1 tt

pub returns-in_err-term-in-Term-clause-next : goal.returns-in_err-term-in-Term-clause-next
returns-in_err-term-in-Term-clause-next g c = rw (err_from_is_err_and c.from_residual.result c.from_residual.ensures.1).1 tt

pub returns-in_err-term-in-Term-clause-row : goal.returns-in_err-term-in-Term-clause-row
returns-in_err-term-in-Term-clause-row g c hyps inside =
    let p = err_from_is_err_and c.from_residual.result c.from_residual.ensures.1 in
    rw (p.1, p.2, c.in-Term.is) (c.in_err-term-in-Term.ensures.plain (state_at c.args.nodes.now c.args.heap.now.items c.args.stack.now.items hyps) refl refl)

pub returns-in_err-term-in-Term-clause-steps : goal.returns-in_err-term-in-Term-clause-steps
returns-in_err-term-in-Term-clause-steps g c hyps = rw c.in-Term.is (unless-mem c.from_residual.result (no-more _ _ refl))

pub returns-in_err-made-in-TermSave-clause-grows : goal.returns-in_err-made-in-TermSave-clause-grows
returns-in_err-made-in-TermSave-clause-grows g c =
    rw (err_from_is_err_and c.from_residual-in_err-made-in-TermSave.result c.from_residual-in_err-made-in-TermSave.ensures.1).1 tt

pub returns-in_err-made-in-TermSave-clause-ids : goal.returns-in_err-made-in-TermSave-clause-ids
returns-in_err-made-in-TermSave-clause-ids g c = rw (err_from_is_err_and c.from_residual-in_err-made-in-TermSave.result c.from_residual-in_err-made-in-TermSave.ensures.1).1 tt

pub returns-in_err-made-in-TermSave-clause-next : goal.returns-in_err-made-in-TermSave-clause-next
returns-in_err-made-in-TermSave-clause-next g c = rw (err_from_is_err_and c.from_residual-in_err-made-in-TermSave.result c.from_residual-in_err-made-in-TermSave.ensures.1).1 tt

pub returns-in_err-made-in-TermSave-clause-row : goal.returns-in_err-made-in-TermSave-clause-row
returns-in_err-made-in-TermSave-clause-row g c hyps inside =
    let p = err_from_is_err_and c.from_residual-in_err-made-in-TermSave.result c.from_residual-in_err-made-in-TermSave.ensures.1 in
    rw (p.1, p.2, c.in-TermSave.is) (c.in_err-made-in-TermSave.ensures.saved (state_at c.args.nodes.now c.args.heap.now.items c.args.stack.now.items hyps) refl refl)

pub returns-in_err-made-in-TermSave-clause-steps : goal.returns-in_err-made-in-TermSave-clause-steps
returns-in_err-made-in-TermSave-clause-steps g c hyps = rw c.in-TermSave.is (unless-mem c.from_residual-in_err-made-in-TermSave.result (no-more _ _ refl))

pub returns-in_err-thm-in-Thm-clause-grows : goal.returns-in_err-thm-in-Thm-clause-grows
returns-in_err-thm-in-Thm-clause-grows g c = rw (err_from_is_err_and c.from_residual-in_err-thm-in-Thm.result c.from_residual-in_err-thm-in-Thm.ensures.1).1 tt

pub returns-in_err-thm-in-Thm-clause-ids : goal.returns-in_err-thm-in-Thm-clause-ids
returns-in_err-thm-in-Thm-clause-ids g c = rw (err_from_is_err_and c.from_residual-in_err-thm-in-Thm.result c.from_residual-in_err-thm-in-Thm.ensures.1).1 tt

pub returns-in_err-thm-in-Thm-clause-next : goal.returns-in_err-thm-in-Thm-clause-next
returns-in_err-thm-in-Thm-clause-next g c = rw (err_from_is_err_and c.from_residual-in_err-thm-in-Thm.result c.from_residual-in_err-thm-in-Thm.ensures.1).1 tt

pub returns-in_err-thm-in-Thm-clause-row : goal.returns-in_err-thm-in-Thm-clause-row
returns-in_err-thm-in-Thm-clause-row g c hyps inside =
    let p = err_from_is_err_and c.from_residual-in_err-thm-in-Thm.result c.from_residual-in_err-thm-in-Thm.ensures.1 in
    rw (p.1, p.2, c.in-Thm.is) (c.in_err-thm-in-Thm.ensures.plain c.args.at (state_at c.args.nodes.now c.args.heap.now.items c.args.stack.now.items hyps) refl refl)

pub returns-in_err-thm-in-Thm-clause-steps : goal.returns-in_err-thm-in-Thm-clause-steps
returns-in_err-thm-in-Thm-clause-steps g c hyps =
    let p = err_from_is_err_and c.from_residual-in_err-thm-in-Thm.result c.from_residual-in_err-thm-in-Thm.ensures.1 in
    rw (p.1, p.2, c.in-Thm.is) (c.in_err-thm-in-Thm.ensures.steps (state_at c.args.nodes.now c.args.heap.now.items c.args.stack.now.items hyps) refl refl)

pub returns-in_err-thm-in-Thm-clause-most : goal.returns-in_err-thm-in-Thm-clause-most
returns-in_err-thm-in-Thm-clause-most g c = c.thm.ensures.most

pub returns-in_err-proved-in-ThmSave-clause-grows : goal.returns-in_err-proved-in-ThmSave-clause-grows
returns-in_err-proved-in-ThmSave-clause-grows g c =
    rw (err_from_is_err_and c.from_residual-in_err-proved-in-ThmSave.result c.from_residual-in_err-proved-in-ThmSave.ensures.1).1 tt

pub returns-in_err-proved-in-ThmSave-clause-ids : goal.returns-in_err-proved-in-ThmSave-clause-ids
returns-in_err-proved-in-ThmSave-clause-ids g c =
    rw (err_from_is_err_and c.from_residual-in_err-proved-in-ThmSave.result c.from_residual-in_err-proved-in-ThmSave.ensures.1).1 tt

pub returns-in_err-proved-in-ThmSave-clause-next : goal.returns-in_err-proved-in-ThmSave-clause-next
returns-in_err-proved-in-ThmSave-clause-next g c =
    rw (err_from_is_err_and c.from_residual-in_err-proved-in-ThmSave.result c.from_residual-in_err-proved-in-ThmSave.ensures.1).1 tt

pub returns-in_err-proved-in-ThmSave-clause-row : goal.returns-in_err-proved-in-ThmSave-clause-row
returns-in_err-proved-in-ThmSave-clause-row g c hyps inside =
    let p = err_from_is_err_and c.from_residual-in_err-proved-in-ThmSave.result c.from_residual-in_err-proved-in-ThmSave.ensures.1 in
    rw (p.1, p.2, c.in-ThmSave.is) (c.in_err-proved-in-ThmSave.ensures.saved c.args.at (state_at c.args.nodes.now c.args.heap.now.items c.args.stack.now.items hyps) refl refl)

pub returns-in_err-proved-in-ThmSave-clause-steps : goal.returns-in_err-proved-in-ThmSave-clause-steps
returns-in_err-proved-in-ThmSave-clause-steps g c hyps =
    let p = err_from_is_err_and c.from_residual-in_err-proved-in-ThmSave.result c.from_residual-in_err-proved-in-ThmSave.ensures.1 in
    rw (p.1, p.2, c.in-ThmSave.is) (c.in_err-proved-in-ThmSave.ensures.steps (state_at c.args.nodes.now c.args.heap.now.items c.args.stack.now.items hyps) refl refl)

pub returns-in_err-proved-in-ThmSave-clause-most : goal.returns-in_err-proved-in-ThmSave-clause-most
returns-in_err-proved-in-ThmSave-clause-most g c = c.thm-in-ThmSave.ensures.most

-- ---- what the calls ask

pub term-requires-clause-number : goal.term-requires-clause-number
term-requires-clause-number g c = c.requires.number

pub term-requires-clause-over : goal.term-requires-clause-over
term-requires-clause-over g c = c.requires.over

pub term-requires-clause-stack : goal.term-requires-clause-stack
term-requires-clause-stack g c = c.requires.stack

pub term-requires-in-TermSave-clause-number : goal.term-requires-in-TermSave-clause-number
term-requires-in-TermSave-clause-number g c = c.requires.number

pub term-requires-in-TermSave-clause-over : goal.term-requires-in-TermSave-clause-over
term-requires-in-TermSave-clause-over g c = c.requires.over

pub term-requires-in-TermSave-clause-stack : goal.term-requires-in-TermSave-clause-stack
term-requires-in-TermSave-clause-stack g c = c.requires.stack

pub thm-requires-clause-over : goal.thm-requires-clause-over
thm-requires-clause-over g c = c.requires.over

pub thm-requires-clause-stack : goal.thm-requires-clause-stack
thm-requires-clause-stack g c = c.requires.stack

pub thm-requires-in-ThmSave-clause-over : goal.thm-requires-in-ThmSave-clause-over
thm-requires-in-ThmSave-clause-over g c = c.requires.over

pub thm-requires-in-ThmSave-clause-stack : goal.thm-requires-in-ThmSave-clause-stack
thm-requires-in-ThmSave-clause-stack g c = c.requires.stack
