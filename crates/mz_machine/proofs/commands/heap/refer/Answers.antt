use Rattle.std.proofs.Common.{◌∙◌, sym, ap}
use Rattle.std.specs.Prelude.{slice_get}
use Rattle.mz_unify.specs.Stored.{item_at}
use Rattle.mz_machine.proofs.Popping.{item-in-at, item-at-heap, no-item-at-heap}
use Rattle.mz_machine.proofs.RowResults.{ref-none, ref-row}
use Rattle.mz_machine_theory.specs.Profile.{strict}
use Rattle.mz_machine.proofs.commands.heap.refer.Goals as goal

pub returns-in_default-clause-row : goal.returns-in_default-clause-row
returns-in_default-clause-row c tables at st heap is =
    ref-none strict tables at c.args.place st (ap (λ xs. slice_get xs c.args.place) heap ∙ no-item-at-heap c.args.store.now c.args.heap.now c.args.place (sym c.kept_at.ensures ∙ c.in_default.is))

pub refer_to-requires-clause-item : goal.refer_to-requires-clause-item
refer_to-requires-clause-item c = item-in-at c.args.store.now c.args.heap.now c.args.place c.in-Some.item c.requires.heap (sym c.kept_at.ensures ∙ c.in-Some.is)

pub returns-clause-ids : goal.returns-clause-ids
returns-clause-ids c = c.refer_to.ensures.ids

pub returns-clause-row : goal.returns-clause-row
returns-clause-row c tables at st heap is =
    rw (ref-row strict tables at c.args.place st (item_at c.args.store.now c.in-Some.item)
    (ap (λ xs. slice_get xs c.args.place) heap ∙ item-at-heap c.args.store.now c.args.heap.now c.args.place c.in-Some.item (sym c.kept_at.ensures ∙ c.in-Some.is)))
    (c.refer_to.ensures.row st is)
