use Rattle.std.proofs.Common.{◌∙◌, sym}
use Rattle.std.proofs.lemmas.Bool.{true≢false}
use Rattle.mz_math.proofs.Claiming.{goal-reached}
use Rattle.mz_math.proofs.formula.goal_of.Goals as goal

pub returns : goal.returns
returns c = goal-reached c.args.env.now c.args.coercions.now c.args.sort (λ own. true≢false (sym (c.is_provable.ensures.1 own) ∙ c.if-is_provable.false))
    c.in_ok-reached.reached c.in_ok-reached.ensures c.requires c.only_provable.result c.only_provable.ensures
