use Rattle.std.proofs.Common.{◌++◌, ◌∷◌, [], refl, sym, ap}
use Rattle.std.proofs.lemmas.Result.{err_from_is_err_and}
use Rattle.mz_store.specs.Sharing.{tree_of}
use Rattle.mz_unify.specs.Stored.{mode_of, trees_at, stack_at, items_at}
use Rattle.mz_unify.specs.Rows.{all_targets, state_at}
use Rattle.mz_unify.proofs.StoredIds.{are-in-added, trees-added}
use Rattle.mz_unify.proofs.rows.step.Goals as goal

pub returns-in_err-rest-in-Term-clause-row : goal.returns-in_err-rest-in-Term-clause-row
returns-in_err-rest-in-Term-clause-row c sigs es over told =
    let p = err_from_is_err_and c.from_residual.result c.from_residual.ensures.1 in
    rw (p.1, p.2, c.in-Term.is) (c.in_err-rest-in-Term.ensures.plain sigs (mode_of c.args.mode) (state_at c.args.store.now (c.args.operands.now ++ c.args.saved.now.items) es (all_targets c.args.front.now c.args.targets.now.items) c.args.hyps.now.items) refl)

pub returns-in_err-whole-in-TermSave-clause-row : goal.returns-in_err-whole-in-TermSave-clause-row
returns-in_err-whole-in-TermSave-clause-row c sigs es over told =
    let p = err_from_is_err_and c.from_residual-in_err-whole-in-TermSave.result c.from_residual-in_err-whole-in-TermSave.ensures.1 in
    rw (p.1, p.2, c.in-TermSave.is) (c.in_err-whole-in-TermSave.ensures.saved sigs (mode_of c.args.mode) (state_at c.args.store.now (c.args.operands.now ++ c.args.saved.now.items) es (all_targets c.args.front.now c.args.targets.now.items) c.args.hyps.now.items) refl)

pub returns-in_err-rest-in-Ref-clause-row : goal.returns-in_err-rest-in-Ref-clause-row
returns-in_err-rest-in-Ref-clause-row c sigs es over told =
    let p = err_from_is_err_and c.from_residual-in_err-rest-in-Ref.result c.from_residual-in_err-rest-in-Ref.ensures.1 in
    rw (p.1, p.2, c.in-Ref.is) (c.in_err-rest-in-Ref.ensures.row sigs (mode_of c.args.mode) (state_at c.args.store.now (c.args.operands.now ++ c.args.saved.now.items) es (all_targets c.args.front.now c.args.targets.now.items) c.args.hyps.now.items) (ap (λ is. trees_at c.args.store.now (c.args.operands.now ++ is)) (sym c.deref.ensures.value)) refl)

pub returns-in_err-met-in-Dummy-clause-row : goal.returns-in_err-met-in-Dummy-clause-row
returns-in_err-met-in-Dummy-clause-row c sigs es over told =
    let p = err_from_is_err_and c.from_residual-in_err-met-in-Dummy.result c.from_residual-in_err-met-in-Dummy.ensures.1 in
    rw (p.1, p.2, c.in-Dummy.is) (c.in_err-met-in-Dummy.ensures.row sigs (mode_of c.args.mode) (state_at c.args.store.now (c.args.operands.now ++ c.args.saved.now.items) es (all_targets c.args.front.now c.args.targets.now.items) c.args.hyps.now.items) over (told (c.requires.stands _ c.in-Dummy.is)) refl)

pub returns-in_err-hypothesis-in-Hyp-clause-row : goal.returns-in_err-hypothesis-in-Hyp-clause-row
returns-in_err-hypothesis-in-Hyp-clause-row c sigs es over told =
    let p = err_from_is_err_and c.from_residual-in_err-hypothesis-in-Hyp.result c.from_residual-in_err-hypothesis-in-Hyp.ensures.1 in
    rw (p.1, p.2, c.in-Hyp.is) (c.in_err-hypothesis-in-Hyp.ensures.row sigs (state_at c.args.store.now (c.args.operands.now ++ c.args.saved.now.items) es (all_targets c.args.front.now c.args.targets.now.items) c.args.hyps.now.items) refl refl)

pub returns-in_err-end-in-End-clause-row : goal.returns-in_err-end-in-End-clause-row
returns-in_err-end-in-End-clause-row c sigs es over told =
    let p = err_from_is_err_and c.from_residual-in_err-end-in-End.result c.from_residual-in_err-end-in-End.ensures.1 in
    rw (p.1, p.2, c.in-End.is) (c.in_err-end-in-End.ensures sigs (state_at c.args.store.now (c.args.operands.now ++ c.args.saved.now.items) es (all_targets c.args.front.now c.args.targets.now.items) c.args.hyps.now.items) (ap (λ is. stack_at c.args.store.now (all_targets c.args.front.now is)) (sym c.deref-in-End.ensures.value)) (ap (items_at c.args.store.now) (sym c.deref-in-End-2.ensures.value)))

pub returns-in_ok-rest-in-Term-clause-row : goal.returns-in_ok-rest-in-Term-clause-row
returns-in_ok-rest-in-Term-clause-row c sigs es over told = (es, told, rw (c.in-Term.is) (c.in_ok-rest-in-Term.ensures.plain sigs (mode_of c.args.mode) (state_at c.args.store.now (c.args.operands.now ++ c.args.saved.now.items) es (all_targets c.args.front.now c.args.targets.now.items) c.args.hyps.now.items) refl))

pub returns-in_ok-push-in-TermSave-clause-ids : goal.returns-in_ok-push-in-TermSave-clause-ids
returns-in_ok-push-in-TermSave-clause-ids c =
    (rw c.in_ok-push-in-TermSave.ensures.ok (are-in-added c.args.store.now c.args.operands.now c.args.saved.now.items c.in_ok-whole-in-TermSave.whole c.requires.heap c.in_ok-whole-in-TermSave.ensures.ids.0), c.in_ok-whole-in-TermSave.ensures.ids.1, c.requires.hyps)

pub returns-in_ok-push-in-TermSave-clause-row : goal.returns-in_ok-push-in-TermSave-clause-row
returns-in_ok-push-in-TermSave-clause-row c sigs es over told = (es, told, rw (c.in-TermSave.is, c.in_ok-push-in-TermSave.ensures.ok, trees-added c.args.store.now c.args.operands.now c.args.saved.now.items c.in_ok-whole-in-TermSave.whole) (c.in_ok-whole-in-TermSave.ensures.saved sigs (mode_of c.args.mode) (state_at c.args.store.now (c.args.operands.now ++ c.args.saved.now.items) es (all_targets c.args.front.now c.args.targets.now.items) c.args.hyps.now.items) refl))

pub returns-in_ok-rest-in-Ref-clause-row : goal.returns-in_ok-rest-in-Ref-clause-row
returns-in_ok-rest-in-Ref-clause-row c sigs es over told = (es, told, rw (c.in-Ref.is) (c.in_ok-rest-in-Ref.ensures.row sigs (mode_of c.args.mode) (state_at c.args.store.now (c.args.operands.now ++ c.args.saved.now.items) es (all_targets c.args.front.now c.args.targets.now.items) c.args.hyps.now.items) (ap (λ is. trees_at c.args.store.now (c.args.operands.now ++ is)) (sym c.deref.ensures.value)) refl))

pub returns-in_ok-push-in-Dummy-clause-ids : goal.returns-in_ok-push-in-Dummy-clause-ids
returns-in_ok-push-in-Dummy-clause-ids c =
    (rw c.in_ok-push-in-Dummy.ensures.ok (are-in-added c.args.store.now c.args.operands.now c.args.saved.now.items c.in_ok-met-in-Dummy.met c.requires.heap c.in_ok-met-in-Dummy.ensures.ids.0), c.in_ok-met-in-Dummy.ensures.ids.1, c.requires.hyps)

pub returns-in_ok-push-in-Dummy-clause-row : goal.returns-in_ok-push-in-Dummy-clause-row
returns-in_ok-push-in-Dummy-clause-row c sigs es over told = (es ++ tree_of c.args.store.now c.in_ok-met-in-Dummy.met.0 ∷ [], λ _. c.in_ok-met-in-Dummy.ensures.told sigs es over (told (c.requires.stands _ c.in-Dummy.is)), rw (c.in-Dummy.is, c.in_ok-push-in-Dummy.ensures.ok, trees-added c.args.store.now c.args.operands.now c.args.saved.now.items c.in_ok-met-in-Dummy.met) (c.in_ok-met-in-Dummy.ensures.row sigs (mode_of c.args.mode) (state_at c.args.store.now (c.args.operands.now ++ c.args.saved.now.items) es (all_targets c.args.front.now c.args.targets.now.items) c.args.hyps.now.items) over (told (c.requires.stands _ c.in-Dummy.is)) refl))

pub returns-in_ok-hypothesis-in-Hyp-clause-row : goal.returns-in_ok-hypothesis-in-Hyp-clause-row
returns-in_ok-hypothesis-in-Hyp-clause-row c sigs es over told = (es, told, rw (c.in-Hyp.is) (c.in_ok-hypothesis-in-Hyp.ensures.row sigs (state_at c.args.store.now (c.args.operands.now ++ c.args.saved.now.items) es (all_targets c.args.front.now c.args.targets.now.items) c.args.hyps.now.items) refl refl))

pub returns-in_ok-end-in-End-clause-row : goal.returns-in_ok-end-in-End-clause-row
returns-in_ok-end-in-End-clause-row c sigs es over told = (es, told, rw (c.in-End.is) (c.in_ok-end-in-End.ensures sigs (state_at c.args.store.now (c.args.operands.now ++ c.args.saved.now.items) es (all_targets c.args.front.now c.args.targets.now.items) c.args.hyps.now.items) (ap (λ is. stack_at c.args.store.now (all_targets c.args.front.now is)) (sym c.deref-in-End.ensures.value)) (ap (items_at c.args.store.now) (sym c.deref-in-End-2.ensures.value))))
