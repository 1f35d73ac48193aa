use Rattle.std.proofs.Common.{◌∙◌, ap}
use Rattle.mz_logic_theory.specs.Tree.{operand}
use Rattle.mz_type_rules.specs.Claims.{claim_trees}
use Rattle.mz_type_rules.specs.Scopes.{with_let}
use Rattle.mz_type_rules.proofs.proofs.name_claim.Goals as goal

pub open-requires : goal.open-requires
open-requires c = c.claim_at.ensures ∙ ap (λ cs. operand (claim_trees cs) c.args.from) c.deref.ensures.value ∙ c.requires.stated

pub returns-clause-lets : goal.returns-clause-lets
returns-clause-lets c =
    c.in_ok-open.ensures ∙ ap (with_let c.args.lets.now) c.claim_at.ensures ∙ ap (λ cs. with_let c.args.lets.now (operand (claim_trees cs) c.args.from)) c.deref.ensures.value
