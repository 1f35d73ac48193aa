use Rattle.std.proofs.Common.{◌∙◌, [], ◌∷◌, Ok, refl, sym, ap}
use Rattle.std.proofs.lemmas.Result.{err_from_is_err_and, on_ok_weaker}
use Rattle.mz_store.specs.declared.item.Item.TheVariants.{Expr, Proof}
use Rattle.mz_machine_env.specs.Before.{tables_of}
use Rattle.mz_pmachine_unify.specs.Stored.{items_at}
use Rattle.mz_pmachine_unify.proofs.Offered.{items-in-both, are-in-both, items-push, are-still-in}
use Rattle.mz_machine.proofs.Offered.{memory-stops, on-both, on-ok, pushed-gives}
use Rattle.mz_pmachine.specs.OverNodes.{heap_at, state_at}
use Rattle.mz_pmachine.proofs.Popping.{assumed-state, heap-push, heap-pushed}
use Rattle.mz_pmachine.proofs.TermResults.{grows-not, items-still, items-kept, heap-kept, hyps-kept}
use Rattle.mz_pmachine.proofs.commands.keep.Goals as goal

pub returns-in-Ref-clause-grows : goal.returns-in-Ref-clause-grows
returns-in-Ref-clause-grows c = on-ok c.refer.result (grows-not _ c.args.nodes.now c.requires.over)

pub returns-in-Ref-clause-ids : goal.returns-in-Ref-clause-ids
returns-in-Ref-clause-ids c = on_ok_weaker c.refer.result (λ stack. (c.requires.heap, stack, c.requires.hyps)) c.refer.ensures.ids

pub returns-in-Ref-clause-few : goal.returns-in-Ref-clause-few
returns-in-Ref-clause-few c = on-ok c.refer.result c.requires.few

pub returns-in-Ref-clause-row : goal.returns-in-Ref-clause-row
returns-in-Ref-clause-row c at =
    rw c.in-Ref.is (c.refer.ensures.row (tables_of c.args.env.now) at (state_at c.args.nodes.now c.args.heap.now.items c.args.stack.now.items c.args.hyps.now.items)
    (ap (heap_at c.args.nodes.now) (sym c.deref.ensures.value)) refl)

pub returns-in_ok-push-in-Dummy-2-clause-ids : goal.returns-in_ok-push-in-Dummy-2-clause-ids
returns-in_ok-push-in-Dummy-2-clause-ids c =
    let keeps = c.in_ok-made-in-Dummy.ensures.grows.keeps in
    let heap = items-still c.args.nodes.now c.dummy.new.nodes keeps c.args.heap.now.items c.requires.heap in
    let stack = items-still c.args.nodes.now c.dummy.new.nodes keeps c.args.stack.now.items c.requires.stack in (
      rw c.in_ok-push-in-Dummy.ensures.ok (items-in-both c.dummy.new.nodes c.args.heap.now.items (Expr c.in_ok-made-in-Dummy.made ∷ []) heap (c.in_ok-made-in-Dummy.ensures.ids, tt)),
      rw c.in_ok-push-in-Dummy-2.ensures.ok (items-in-both c.dummy.new.nodes c.args.stack.now.items (Expr c.in_ok-made-in-Dummy.made ∷ []) stack (c.in_ok-made-in-Dummy.ensures.ids, tt)),
      are-still-in c.args.nodes.now c.dummy.new.nodes keeps c.args.hyps.now.items c.requires.hyps,
    )

pub returns-in_ok-push-in-Dummy-2-clause-row : goal.returns-in_ok-push-in-Dummy-2-clause-row
returns-in_ok-push-in-Dummy-2-clause-row c at =
    let keeps = c.in_ok-made-in-Dummy.ensures.grows.keeps in
    rw (
      c.in-Dummy.is,
      c.in_ok-push-in-Dummy.ensures.ok,
      c.in_ok-push-in-Dummy-2.ensures.ok,
      heap-push c.dummy.new.nodes c.args.heap.now.items (Expr c.in_ok-made-in-Dummy.made),
      items-push c.dummy.new.nodes c.args.stack.now.items (Expr c.in_ok-made-in-Dummy.made),
      heap-kept c.args.nodes.now c.dummy.new.nodes keeps c.args.heap.now.items c.requires.heap,
      items-kept c.args.nodes.now c.dummy.new.nodes keeps c.args.stack.now.items c.requires.stack,
      hyps-kept c.args.nodes.now c.dummy.new.nodes keeps c.args.hyps.now.items c.requires.hyps,
    )
    (c.in_ok-made-in-Dummy.ensures.row at (state_at c.args.nodes.now c.args.heap.now.items c.args.stack.now.items c.args.hyps.now.items) refl)

pub returns-in-Ok-clause-grows : goal.returns-in-Ok-clause-grows
returns-in-Ok-clause-grows c = on-ok c.assume.result (grows-not _ c.args.nodes.now c.requires.over)

pub returns-in-Ok-clause-ids : goal.returns-in-Ok-clause-ids
returns-in-Ok-clause-ids c =
    on-both c.assume.result
    (λ heap hyps. (
      rw heap (items-in-both c.args.nodes.now c.args.heap.now.items (Proof c.in-Ok.claim ∷ []) c.requires.heap (c.in-Ok.ensures.ids.0, tt)),
      c.in-Ok.ensures.ids.1,
      rw hyps (are-in-both c.args.nodes.now c.args.hyps.now.items (c.in-Ok.claim ∷ []) c.requires.hyps (c.in-Ok.ensures.ids.0, tt)),
    ))
    c.assume.ensures.heap c.assume.ensures.hyps

pub returns-in-Ok-clause-few : goal.returns-in-Ok-clause-few
returns-in-Ok-clause-few c = c.assume.ensures.few

pub returns-in-Ok-clause-row : goal.returns-in-Ok-clause-row
returns-in-Ok-clause-row c at =
    let s = c.args.nodes.now in
    let row = c.in-Ok.ensures.row at c.args.value (state_at c.args.nodes.now c.args.heap.now.items c.args.stack.now.items c.args.hyps.now.items) refl refl in
    rw c.in-Hyp.is (pushed-gives c.assume.result _ _
    (on-both c.assume.result (λ heap hyps. row ∙ ap (λ st. Ok st)
    (assumed-state s c.args.heap.now.items c.assume.new.heap.items c.hyp.new.stack.items c.args.hyps.now.items c.assume.new.hyps.items c.in-Ok.claim heap hyps))
    c.assume.ensures.heap c.assume.ensures.hyps) c.assume.ensures.err)

pub returns-in-Err-clause-row : goal.returns-in-Err-clause-row
returns-in-Err-clause-row c at =
    rw c.in-Hyp.is (c.in-Err.ensures.row at c.args.value (state_at c.args.nodes.now c.args.heap.now.items c.args.stack.now.items c.args.hyps.now.items) refl refl)

pub returns-in-Ok-save-clause-grows : goal.returns-in-Ok-save-clause-grows
returns-in-Ok-save-clause-grows c = on-ok c.push-in-Ok-save.result (grows-not _ c.args.nodes.now c.requires.over)

pub returns-in-Ok-save-clause-ids : goal.returns-in-Ok-save-clause-ids
returns-in-Ok-save-clause-ids c =
    on_ok_weaker c.push-in-Ok-save.result
    (λ is. (
      rw is (items-in-both c.args.nodes.now c.args.heap.now.items (c.in-Ok-save.item ∷ []) c.requires.heap
          (c.in-Ok-save.ensures.ids, tt)),
      c.requires.stack,
      c.requires.hyps,
    )) c.push-in-Ok-save.ensures.ok

pub returns-in-Ok-save-clause-few : goal.returns-in-Ok-save-clause-few
returns-in-Ok-save-clause-few c = on-ok c.push-in-Ok-save.result c.requires.few

pub returns-in-Ok-save-clause-row : goal.returns-in-Ok-save-clause-row
returns-in-Ok-save-clause-row c at =
    let s = c.args.nodes.now in
    let st = (state_at c.args.nodes.now c.args.heap.now.items c.args.stack.now.items c.args.hyps.now.items) in
    let row = c.in-Ok-save.ensures.row (tables_of c.args.env.now) at c.args.value st (ap (items_at s) (sym c.deref-in-Save.ensures.value)) in
    rw c.in-Save.is (pushed-gives c.push-in-Ok-save.result _ _
    (on_ok_weaker c.push-in-Ok-save.result (λ is. row ∙ ap (λ heap. Ok (record st { heap = heap }))
    (sym (heap-pushed s c.args.heap.now.items c.push-in-Ok-save.new.items.items c.in-Ok-save.item is))) c.push-in-Ok-save.ensures.ok) c.push-in-Ok-save.ensures.err)

pub returns-in-Err-save-clause-row : goal.returns-in-Err-save-clause-row
returns-in-Err-save-clause-row c at =
    rw c.in-Save.is (c.in-Err-save.ensures.row (tables_of c.args.env.now) at c.args.value (state_at c.args.nodes.now c.args.heap.now.items c.args.stack.now.items c.args.hyps.now.items)
    (ap (items_at c.args.nodes.now) (sym c.deref-in-Save.ensures.value)))

-- ---- the number of the next node

pub returns-in-Ref-clause-next : goal.returns-in-Ref-clause-next
returns-in-Ref-clause-next c = on-ok c.refer.result refl

pub returns-in-Ok-clause-next : goal.returns-in-Ok-clause-next
returns-in-Ok-clause-next c = on-ok c.assume.result refl

pub returns-in-Ok-save-clause-next : goal.returns-in-Ok-save-clause-next
returns-in-Ok-save-clause-next c = on-ok c.push-in-Ok-save.result refl

-- ---- what stops a Dummy

pub returns-in_err-made-in-Dummy-clause-grows : goal.returns-in_err-made-in-Dummy-clause-grows
returns-in_err-made-in-Dummy-clause-grows c = rw (err_from_is_err_and c.from_residual.result c.from_residual.ensures.1).1 tt

pub returns-in_err-made-in-Dummy-clause-ids : goal.returns-in_err-made-in-Dummy-clause-ids
returns-in_err-made-in-Dummy-clause-ids c = rw (err_from_is_err_and c.from_residual.result c.from_residual.ensures.1).1 tt

pub returns-in_err-made-in-Dummy-clause-few : goal.returns-in_err-made-in-Dummy-clause-few
returns-in_err-made-in-Dummy-clause-few c = rw (err_from_is_err_and c.from_residual.result c.from_residual.ensures.1).1 tt

pub returns-in_err-made-in-Dummy-clause-next : goal.returns-in_err-made-in-Dummy-clause-next
returns-in_err-made-in-Dummy-clause-next c = rw (err_from_is_err_and c.from_residual.result c.from_residual.ensures.1).1 tt

pub returns-in_err-made-in-Dummy-clause-row : goal.returns-in_err-made-in-Dummy-clause-row
returns-in_err-made-in-Dummy-clause-row c at =
    let p = err_from_is_err_and c.from_residual.result c.from_residual.ensures.1 in
    rw (p.1, p.2, c.in-Dummy.is) (c.in_err-made-in-Dummy.ensures.row at (state_at c.args.nodes.now c.args.heap.now.items c.args.stack.now.items c.args.hyps.now.items) refl)

pub returns-in_err-push-in-Dummy-clause-grows : goal.returns-in_err-push-in-Dummy-clause-grows
returns-in_err-push-in-Dummy-clause-grows c = rw (err_from_is_err_and c.from_residual-in_err-push-in-Dummy.result c.from_residual-in_err-push-in-Dummy.ensures.1).1 tt

pub returns-in_err-push-in-Dummy-clause-ids : goal.returns-in_err-push-in-Dummy-clause-ids
returns-in_err-push-in-Dummy-clause-ids c = rw (err_from_is_err_and c.from_residual-in_err-push-in-Dummy.result c.from_residual-in_err-push-in-Dummy.ensures.1).1 tt

pub returns-in_err-push-in-Dummy-clause-few : goal.returns-in_err-push-in-Dummy-clause-few
returns-in_err-push-in-Dummy-clause-few c = rw (err_from_is_err_and c.from_residual-in_err-push-in-Dummy.result c.from_residual-in_err-push-in-Dummy.ensures.1).1 tt

pub returns-in_err-push-in-Dummy-clause-next : goal.returns-in_err-push-in-Dummy-clause-next
returns-in_err-push-in-Dummy-clause-next c = rw (err_from_is_err_and c.from_residual-in_err-push-in-Dummy.result c.from_residual-in_err-push-in-Dummy.ensures.1).1 tt

pub returns-in_err-push-in-Dummy-clause-row : goal.returns-in_err-push-in-Dummy-clause-row
returns-in_err-push-in-Dummy-clause-row c at =
    let p = err_from_is_err_and c.from_residual-in_err-push-in-Dummy.result c.from_residual-in_err-push-in-Dummy.ensures.1 in
    rw (p.1, p.2) (memory-stops _ _ c.in_err-push-in-Dummy.ensures.err)

pub returns-in_err-push-in-Dummy-2-clause-grows : goal.returns-in_err-push-in-Dummy-2-clause-grows
returns-in_err-push-in-Dummy-2-clause-grows c = rw (err_from_is_err_and c.from_residual-in_err-push-in-Dummy-2.result c.from_residual-in_err-push-in-Dummy-2.ensures.1).1 tt

pub returns-in_err-push-in-Dummy-2-clause-ids : goal.returns-in_err-push-in-Dummy-2-clause-ids
returns-in_err-push-in-Dummy-2-clause-ids c = rw (err_from_is_err_and c.from_residual-in_err-push-in-Dummy-2.result c.from_residual-in_err-push-in-Dummy-2.ensures.1).1 tt

pub returns-in_err-push-in-Dummy-2-clause-few : goal.returns-in_err-push-in-Dummy-2-clause-few
returns-in_err-push-in-Dummy-2-clause-few c = rw (err_from_is_err_and c.from_residual-in_err-push-in-Dummy-2.result c.from_residual-in_err-push-in-Dummy-2.ensures.1).1 tt

pub returns-in_err-push-in-Dummy-2-clause-next : goal.returns-in_err-push-in-Dummy-2-clause-next
returns-in_err-push-in-Dummy-2-clause-next c = rw (err_from_is_err_and c.from_residual-in_err-push-in-Dummy-2.result c.from_residual-in_err-push-in-Dummy-2.ensures.1).1 tt

pub returns-in_err-push-in-Dummy-2-clause-row : goal.returns-in_err-push-in-Dummy-2-clause-row
returns-in_err-push-in-Dummy-2-clause-row c at =
    let p = err_from_is_err_and c.from_residual-in_err-push-in-Dummy-2.result c.from_residual-in_err-push-in-Dummy-2.ensures.1 in
    rw (p.1, p.2) (memory-stops _ _ c.in_err-push-in-Dummy-2.ensures.err)

-- ---- what the calls ask

pub refer-requires-clause-stack : goal.refer-requires-clause-stack
refer-requires-clause-stack c = c.requires.stack

pub dummy-requires : goal.dummy-requires
dummy-requires c = record { over = c.requires.over }

pub hyp-requires-clause-over : goal.hyp-requires-clause-over
hyp-requires-clause-over c = c.requires.over

pub hyp-requires-clause-stack : goal.hyp-requires-clause-stack
hyp-requires-clause-stack c = c.requires.stack

pub assume-requires : goal.assume-requires
assume-requires c = record { few = c.requires.few }
