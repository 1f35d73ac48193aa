use Rattle.std.proofs.Common.{◌∙◌, ap, Some}
use Rattle.mz_pmachine_unify.proofs.StoredIds.{popped-item}
use Rattle.mz_pmachine_unify.proofs.rows.take_hypothesis.Goals as goal

pub returns-clause-ids : goal.returns-clause-ids
returns-clause-ids c =
    popped-item c.args.nodes.now c.args.hyps.now.items c.pop.new.self.items c.pop.result c.in-Proof.proved c.pop.ensures.items (c.in-Some.is ∙ ap (λ x. Some x) c.in-Proof.is) c.requires
