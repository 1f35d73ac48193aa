use Rattle.std.proofs.Common.{◌∙◌, ◌∷◌, Ok, sym, ap}
use Rattle.mz_machine_theory.specs.Profile.{strict}
use Rattle.mz_unify.specs.Stored.{item_at}
use Rattle.mz_machine_theory.specs.Premises.{is_conversion}
use Rattle.mz_machine.proofs.ConversionRows.{gives-stack}
use Rattle.mz_machine.proofs.Converting.{true-false}
use Rattle.mz_machine.proofs.HandedOn.{ruled-gives, ruled-never, ruled-ok}
use Rattle.mz_machine.proofs.RowResults.{push-row}
use Rattle.mz_machine.proofs.Unfoldings.{ids-pushed, items-pushed}
use Rattle.mz_machine.proofs.commands.heap.refer_to.Goals as goal

pub returns-in_default-clause-ids : goal.returns-in_default-clause-ids
returns-in_default-clause-ids c = ids-pushed c.args.store.now _ _ c.args.item c.push.result c.push.ensures.ok c.requires.item c.requires.stack

pub returns-in_default-clause-row : goal.returns-in_default-clause-row
returns-in_default-clause-row c st is =
    let x = item_at c.args.store.now c.args.item in
    gives-stack st _ _ _ c.push.result (push-row strict st x (c.in_default.ensures.none c.args.store.now) ∙ ap (λ xs. Ok (record st { stack = x ∷ xs })) is)
    (items-pushed c.args.store.now _ _ c.args.item c.push.result c.push.ensures.ok) c.push.ensures.err

pub returns-in_default-clause-never : goal.returns-in_default-clause-never
returns-in_default-clause-never c l r is =
    absurd (true-false (ap (λ x. is_conversion (item_at c.args.store.now x)) (sym is) ∙ c.in_default.ensures.none c.args.store.now))

pub returns-clause-ids : goal.returns-clause-ids
returns-clause-ids c = ruled-ok c.pay.result c.by_rule.result _ c.by_rule.ensures c.pay.ensures.ids

pub returns-clause-row : goal.returns-clause-row
returns-clause-row c st is = rw c.in-Some.ensures.some (ruled-gives c.pay.result c.by_rule.result _ _ c.by_rule.ensures (c.pay.ensures.row st is))

pub returns-clause-never : goal.returns-clause-never
returns-clause-never c l r is = ruled-never c.pay.result c.by_rule.result c.by_rule.ensures

pub returns-in_default-clause-capacity : goal.returns-in_default-clause-capacity
returns-in_default-clause-capacity c l r is =
    absurd (true-false (ap (λ x. is_conversion (item_at c.args.store.now x)) (sym is) ∙ c.in_default.ensures.none c.args.store.now))
