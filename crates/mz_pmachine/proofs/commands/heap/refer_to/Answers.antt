use Rattle.std.proofs.Common.{◌∙◌, ◌∷◌, Ok, ap}
use Rattle.mz_pmachine_theory.specs.NodeIdentity.{portable}
use Rattle.mz_pmachine_unify.specs.Stored.{item_at}
use Rattle.mz_machine.proofs.Offered.{gives-stack, push-row, ruled-gives, ruled-ok}
use Rattle.mz_pmachine.proofs.Unfoldings.{ids-pushed, items-pushed}
use Rattle.mz_pmachine.proofs.commands.heap.refer_to.Goals as goal

pub returns-in_default-clause-ids : goal.returns-in_default-clause-ids
returns-in_default-clause-ids c = ids-pushed c.args.nodes.now _ _ c.args.item c.push.result c.push.ensures.ok c.requires.item c.requires.stack

pub returns-in_default-clause-row : goal.returns-in_default-clause-row
returns-in_default-clause-row c st is =
    let x = item_at c.args.nodes.now c.args.item in
    gives-stack st _ _ _ c.push.result (push-row portable st x (c.in_default.ensures.none c.args.nodes.now) ∙ ap (λ xs. Ok (record st { stack = x ∷ xs })) is)
    (items-pushed c.args.nodes.now _ _ c.args.item c.push.result c.push.ensures.ok) c.push.ensures.err

pub returns-clause-ids : goal.returns-clause-ids
returns-clause-ids c = ruled-ok c.pay.result c.by_rule.result _ c.by_rule.ensures c.pay.ensures.ids

pub returns-clause-row : goal.returns-clause-row
returns-clause-row c st is = rw c.in-Some.ensures.some (ruled-gives c.pay.result c.by_rule.result _ _ c.by_rule.ensures (c.pay.ensures.row st is))
