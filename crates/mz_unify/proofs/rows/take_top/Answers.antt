use Rattle.std.proofs.Common.{◌++◌, ◌∙◌, ap}
use Rattle.std.specs.Prelude.{option_to_list}
use Rattle.mz_unify.specs.Rows.{all_targets}
use Rattle.mz_unify.proofs.StoredIds.{taken-first, taken-last, taken-ids}
use Rattle.mz_unify.proofs.rows.take_top.Goals as goal

pub returns-in-Some-clause-ids : goal.returns-in-Some-clause-ids
returns-in-Some-clause-ids c =
    taken-ids c.args.store.now (all_targets c.args.front.now c.args.targets.now.items) (all_targets c.in-Some.rest.now c.args.targets.now.items) c.in-Some.top.now
    (taken-first c.args.store.now c.args.front.now c.in-Some.rest.now c.args.targets.now.items c.in-Some.top.now c.in-Some.ensures.cases.0) c.requires

pub returns-in-Some-pop-clause-ids : goal.returns-in-Some-pop-clause-ids
returns-in-Some-pop-clause-ids c =
    taken-ids c.args.store.now (all_targets c.args.front.now c.args.targets.now.items) (all_targets c.args.front.now c.pop.new.self.items) c.in-Some-pop.top
    (taken-last c.args.store.now c.args.front.now c.args.targets.now.items c.pop.new.self.items c.in-Some-pop.top c.in_default.ensures.cases (c.pop.ensures.items ∙ ap (λ o. c.pop.new.self.items ++ option_to_list o) c.in-Some-pop.is)) c.requires
