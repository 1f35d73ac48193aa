use Rattle.std.proofs.Common.{◌∙◌, ◌≡◌, true, sym, ap}
use Rattle.mz_store.specs.Sharing.{AreIn, tree_of}
use Rattle.mz_unify.proofs.StoredIds.{alone}
use Rattle.mz_machine_theory.specs.UnifyMachine.{is_empty, next_hypothesis}
use Rattle.mz_unify.specs.Rows.{all_targets}
use Rattle.mz_unify.specs.Stored.{mode_of, stack_at, items_at}
use Rattle.mz_unify.proofs.RowValues.{hyp-target, hyp-stop, hyp-row}
use Rattle.mz_machine_theory.specs.Profile.{strict}
use Rattle.mz_unify.proofs.rows.hypothesis.Goals as goal

pub returns-then-not-are_none-clause-row : goal.returns-then-not-are_none-clause-row
returns-then-not-are_none-clause-row c sigs st is items =
    hyp-target strict sigs c.args.store.now.context (mode_of c.args.mode) st
    (ap is_empty is ∙ ap (λ xs. is_empty (stack_at c.args.store.now (all_targets c.args.front.now xs))) (sym c.deref.ensures.value) ∙ sym c.are_none.ensures ∙ c.if-not-are_none.true)

pub returns-in_ok-push-in-Ok-clause-ids : goal.returns-in_ok-push-in-Ok-clause-ids
returns-in_ok-push-in-Ok-clause-ids c =
    let none : is_empty (stack_at c.args.store.now (all_targets c.args.front.now c.args.targets.now.items)) ≡ true = ap (λ xs. is_empty (stack_at c.args.store.now (all_targets c.args.front.now xs))) (sym c.deref.ensures.value) ∙ sym c.are_none.ensures ∙ c.if-not-are_none.false in
    (rw (c.in_ok-push-in-Ok.ensures.ok, alone c.args.store.now c.args.front.now c.args.targets.now.items c.in-Ok.proved none) (c.in-Ok.ensures.ids.0, tt), c.in-Ok.ensures.ids.1)

pub returns-in_ok-push-in-Ok-clause-row : goal.returns-in_ok-push-in-Ok-clause-row
returns-in_ok-push-in-Ok-clause-row c sigs st is items =
    let none : is_empty (stack_at c.args.store.now (all_targets c.args.front.now c.args.targets.now.items)) ≡ true = ap (λ xs. is_empty (stack_at c.args.store.now (all_targets c.args.front.now xs))) (sym c.deref.ensures.value) ∙ sym c.are_none.ensures ∙ c.if-not-are_none.false in
    rw (c.in_ok-push-in-Ok.ensures.ok, alone c.args.store.now c.args.front.now c.args.targets.now.items c.in-Ok.proved none)
    (hyp-row strict sigs c.args.store.now.context (mode_of c.args.mode) st (tree_of c.args.store.now c.in-Ok.proved.0) (items_at c.args.store.now c.take_hypothesis.new.hyps.items) (ap is_empty is ∙ none)
    (ap (next_hypothesis (mode_of c.args.mode)) items ∙ c.in-Ok.ensures.next))

pub returns-in-Err-clause-row : goal.returns-in-Err-clause-row
returns-in-Err-clause-row c sigs st is items =
    hyp-stop strict sigs c.args.store.now.context (mode_of c.args.mode) st c.in-Err.rule
    (ap is_empty is ∙ ap (λ xs. is_empty (stack_at c.args.store.now (all_targets c.args.front.now xs))) (sym c.deref.ensures.value) ∙ sym c.are_none.ensures ∙ c.if-not-are_none.false)
    (ap (next_hypothesis (mode_of c.args.mode)) items ∙ c.in-Err.ensures.next)
