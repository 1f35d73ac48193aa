use Rattle.std.proofs.Common.{true, false, ◌∙◌, ◌≡◌, ◌++◌, refl, sym, ap}
use Rattle.std.specs.Prelude.{slice_get}
use Rattle.mz_unify.proofs.StoredIds.{tree-at, tree-past, is-in-at}
use Rattle.mz_unify.proofs.RowValues.{ref-no-target, ref-no-place, ref-other, ref-row}
use Rattle.mz_machine_theory.specs.Profile.{strict}
use Rattle.mz_unify.proofs.Parts.{of-trees}
use Rattle.mz_unify.proofs.rows.refer.Goals as goal

true-false : true ≡ false → ⊥
true-false e = cc

pub returns-in_default-clause-row : goal.returns-in_default-clause-row
returns-in_default-clause-row c sigs mode st heap is = ref-no-target strict sigs c.args.store.now.context mode st c.args.place (is ∙ c.in_default.ensures.none)

pub returns-in_default-heap_at-clause-row : goal.returns-in_default-heap_at-clause-row
returns-in_default-heap_at-clause-row c sigs mode st heap is =
    ref-no-place strict sigs c.args.store.now.context mode st c.args.place _ _ (is ∙ c.in-Some.ensures.some)
    (ap (λ es. slice_get es c.args.place) heap ∙ tree-past c.args.store.now (c.args.operands.now ++ c.args.saved.now) c.args.place (sym c.heap_at.ensures ∙ c.in_default-heap_at.is))

pub same-requires-clause-left : goal.same-requires-clause-left
same-requires-clause-left c = is-in-at c.args.store.now (c.args.operands.now ++ c.args.saved.now) c.args.place c.in-Some-heap_at.met c.requires.heap (sym c.heap_at.ensures ∙ c.in-Some-heap_at.is)

pub returns-then-not-same-clause-row : goal.returns-then-not-same-clause-row
returns-then-not-same-clause-row c sigs mode st heap is =
    ref-other strict sigs c.args.store.now.context mode st of-trees c.args.place _ _ _ (is ∙ c.in-Some.ensures.some)
    (ap (λ es. slice_get es c.args.place) heap ∙ tree-at c.args.store.now (c.args.operands.now ++ c.args.saved.now) c.args.place c.in-Some-heap_at.met (sym c.heap_at.ensures ∙ c.in-Some-heap_at.is))
    (λ same. true-false (sym (c.if-not-same.ensures.trees.1 same)))

pub returns-clause-row : goal.returns-clause-row
returns-clause-row c sigs mode st heap is =
    ref-row strict sigs c.args.store.now.context mode st of-trees c.args.place _ _ _ (is ∙ c.in-Some.ensures.some)
    (ap (λ es. slice_get es c.args.place) heap ∙ tree-at c.args.store.now (c.args.operands.now ++ c.args.saved.now) c.args.place c.in-Some-heap_at.met (sym c.heap_at.ensures ∙ c.in-Some-heap_at.is))
    (c.if-not-same.ensures.trees.0 refl)
