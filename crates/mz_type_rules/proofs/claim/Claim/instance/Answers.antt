use Rattle.std.proofs.Common.{ap, ◌∙◌}
use Rattle.mz_logic_theory.specs.Tree.{instance}
use Rattle.mz_logic_theory.specs.View.{tree}
use Rattle.mz_logic_theory.proofs.Offered.{followed_by_none}
use Rattle.mz_type_rules.proofs.claim.Claim.instance.Goals as goal

pub returns : goal.returns
returns c = c.unfolded.ensures ∙ ap (λ fs. instance fs (tree c.args.expr.now)) (followed_by_none c.args.es.now)
