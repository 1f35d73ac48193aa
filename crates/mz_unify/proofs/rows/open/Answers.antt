use Rattle.std.proofs.Common.{◌≡◌, ◌++◌, Some, ◌∙◌, sym}
use Rattle.std.specs.Prelude.{reverse}
use Rattle.mz_store.specs.Sharing.{tree_of, head_of}
use Rattle.mz_unify.specs.Rows.{all_targets}
use Rattle.mz_unify.specs.Stored.{stack_at}
use Rattle.mz_unify.proofs.StoredIds.{are-in-both, are-in-reverse, put-there}
use Rattle.mz_unify.proofs.RowValues.{term-none, save-none, term-other, save-other, term-row, save-row, heads-differ, heads-same}
use Rattle.mz_machine_theory.specs.Profile.{strict}
use Rattle.mz_unify.proofs.Parts.{of-trees}
use Rattle.mz_unify.proofs.rows.open.Goals as goal

pub returns-in_default-clause-plain : goal.returns-in_default-clause-plain
returns-in_default-clause-plain c sigs mode st is = term-none strict sigs c.args.store.now.context mode st c.args.term (is ∙ c.in_default.ensures.none)

pub returns-in_default-clause-saved : goal.returns-in_default-clause-saved
returns-in_default-clause-saved c sigs mode st is = save-none strict sigs c.args.store.now.context mode st c.args.term (is ∙ c.in_default.ensures.none)

pub returns-then-ne-clause-plain : goal.returns-then-ne-clause-plain
returns-then-ne-clause-plain c sigs mode st is =
    term-other strict sigs c.args.store.now.context mode st of-trees c.args.term _ _ (is ∙ c.in-Some.ensures.some) (λ h. heads-differ c.head.result c.args.term (sym c.ne.ensures ∙ c.if-ne.true) (c.head.ensures ∙ h))

pub returns-then-ne-clause-saved : goal.returns-then-ne-clause-saved
returns-then-ne-clause-saved c sigs mode st is =
    save-other strict sigs c.args.store.now.context mode st of-trees c.args.term _ _ (is ∙ c.in-Some.ensures.some) (λ h. heads-differ c.head.result c.args.term (sym c.ne.ensures ∙ c.if-ne.true) (c.head.ensures ∙ h))

pub returns-clause-ids : goal.returns-clause-ids
returns-clause-ids c = (c.in-Some.ensures.ids.0, rw c.in_ok-push_operands.ensures.ok (are-in-both c.args.store.now _ _ c.in-Some.ensures.ids.1 (are-in-reverse c.args.store.now c.args-2.result.now c.args-2.ensures.ids)))

pub returns-clause-plain : goal.returns-clause-plain
returns-clause-plain c sigs mode st is =
    let s = c.args.store.now in
    let e = tree_of s c.in-Some.top.0 in
    let left = all_targets c.in-Some.rest.now c.take_top.new.targets.items in
    let h : head_of e ≡ Some c.args.term = sym c.head.ensures ∙ heads-same c.head.result c.args.term (sym c.ne.ensures ∙ c.if-ne.false) in
    rw c.in_ok-push_operands.ensures.ok (term-row strict sigs s.context mode st of-trees c.args.term e (stack_at s left) (stack_at s (left ++ reverse c.args-2.result.now)) (is ∙ c.in-Some.ensures.some) h (put-there s e left c.args-2.result.now c.args-2.ensures.trees))

pub returns-clause-saved : goal.returns-clause-saved
returns-clause-saved c sigs mode st is =
    let s = c.args.store.now in
    let e = tree_of s c.in-Some.top.0 in
    let left = all_targets c.in-Some.rest.now c.take_top.new.targets.items in
    let h : head_of e ≡ Some c.args.term = sym c.head.ensures ∙ heads-same c.head.result c.args.term (sym c.ne.ensures ∙ c.if-ne.false) in
    rw c.in_ok-push_operands.ensures.ok (save-row strict sigs s.context mode st of-trees c.args.term e (stack_at s left) (stack_at s (left ++ reverse c.args-2.result.now)) (is ∙ c.in-Some.ensures.some) h (put-there s e left c.args-2.result.now c.args-2.ensures.trees))
