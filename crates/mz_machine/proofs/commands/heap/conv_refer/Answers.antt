use Rattle.std.proofs.Common.{◌∙◌, Some, refl, sym, ap, subst}
use Rattle.std.specs.Prelude.{slice_get}
use Rattle.mz_store.specs.Sharing.{tree_of}
use Rattle.mz_machine_theory.specs.Profile.{conversion, strict}
use Rattle.mz_unify.specs.Stored.{item_at, IsItemIn}
use Rattle.mz_machine.proofs.Popping.{item-in-at, item-at-heap, no-item-at-heap}
use Rattle.mz_machine.proofs.RowResults.{conv-ref-none, conv-ref-other, conv-ref-row}
use Rattle.mz_machine.proofs.commands.heap.conv_refer.Goals as goal

pub returns-in_default-clause-row : goal.returns-in_default-clause-row
returns-in_default-clause-row c tables at st heap is =
    conv-ref-none strict tables at c.args.place st (ap (λ xs. slice_get xs c.args.place) heap ∙ no-item-at-heap c.args.store.now c.args.heap.now c.args.place (sym c.kept_at.ensures ∙ c.in_default.is))

pub returns-in_default-conversion_of-clause-row : goal.returns-in_default-conversion_of-clause-row
returns-in_default-conversion_of-clause-row c tables at st heap is =
    conv-ref-other strict tables at c.args.place st (item_at c.args.store.now c.in-Some.item)
    (ap (λ xs. slice_get xs c.args.place) heap ∙ item-at-heap c.args.store.now c.args.heap.now c.args.place c.in-Some.item (sym c.kept_at.ensures ∙ c.in-Some.is))
    (c.in_default-conversion_of.ensures.none c.args.store.now)

pub pay-requires-clause-left : goal.pay-requires-clause-left
pay-requires-clause-left c =
    (subst (IsItemIn c.args.store.now) c.in-Some-conversion_of.ensures.some
    (item-in-at c.args.store.now c.args.heap.now c.args.place c.in-Some.item c.requires.heap (sym c.kept_at.ensures ∙ c.in-Some.is))).0

pub pay-requires-clause-right : goal.pay-requires-clause-right
pay-requires-clause-right c =
    (subst (IsItemIn c.args.store.now) c.in-Some-conversion_of.ensures.some
    (item-in-at c.args.store.now c.args.heap.now c.args.place c.in-Some.item c.requires.heap (sym c.kept_at.ensures ∙ c.in-Some.is))).1

pub returns-clause-ids : goal.returns-clause-ids
returns-clause-ids c = c.pay.ensures.ids

pub returns-clause-row : goal.returns-clause-row
returns-clause-row c tables at st heap is =
    rw (conv-ref-row strict tables at c.args.place st (conversion (tree_of c.args.store.now c.in-Some-conversion_of.left.0) (tree_of c.args.store.now c.in-Some-conversion_of.right.0))
    (ap (λ xs. slice_get xs c.args.place) heap ∙ item-at-heap c.args.store.now c.args.heap.now c.args.place c.in-Some.item (sym c.kept_at.ensures ∙ c.in-Some.is)
    ∙ ap (λ x. Some (item_at c.args.store.now x)) c.in-Some-conversion_of.ensures.some) refl)
    (c.pay.ensures.row st is)
