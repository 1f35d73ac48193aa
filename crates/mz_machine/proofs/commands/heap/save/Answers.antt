use Rattle.std.proofs.Common.{◌∙◌, ◌-◌, length, sym}
use Rattle.mz_unify.specs.Stored.{item_at}
use Rattle.mz_machine.proofs.Popping.{owed, top-is, no-top, item-in-at}
use Rattle.mz_machine.proofs.RowResults.{save-none, save-other, save-row}
use Rattle.mz_machine_theory.specs.Profile.{strict}
use Rattle.mz_machine.proofs.commands.heap.save.Goals as goal

pub returns-in_default-clause-row : goal.returns-in_default-clause-row
returns-in_default-clause-row c tables at n st is = save-none strict tables at n st (is ∙ no-top c.args.store.now c.args.stack.now (sym c.top.ensures ∙ c.in_default.is))

pub returns-then-is_obligation-clause-row : goal.returns-then-is_obligation-clause-row
returns-then-is_obligation-clause-row c tables at n st is =
    let (rest, top) = top-is c.args.store.now c.args.stack.now c.in-Some.item (sym c.top.ensures ∙ c.in-Some.is) in
    save-other strict tables at n st (item_at c.args.store.now c.in-Some.item) rest (is ∙ top) (owed c.args.store.now c.in-Some.item ∙ sym c.is_obligation.ensures ∙ c.if-is_obligation.true)

pub returns-clause-ids : goal.returns-clause-ids
returns-clause-ids c = item-in-at c.args.store.now c.args.stack.now (length c.args.stack.now - 1) c.in-Some.item c.requires (sym c.top.ensures ∙ c.in-Some.is)

pub returns-clause-row : goal.returns-clause-row
returns-clause-row c tables at n st is =
    let (rest, top) = top-is c.args.store.now c.args.stack.now c.in-Some.item (sym c.top.ensures ∙ c.in-Some.is) in
    save-row strict tables at n st (item_at c.args.store.now c.in-Some.item) rest (is ∙ top) (owed c.args.store.now c.in-Some.item ∙ sym c.is_obligation.ensures ∙ c.if-is_obligation.false)
