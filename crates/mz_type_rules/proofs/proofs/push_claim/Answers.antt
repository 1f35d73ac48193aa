use Rattle.std.proofs.Common.{◌∙◌, ap}
use Rattle.mz_type_rules.specs.Claims.{claim_trees}
use Rattle.mz_type_rules.proofs.Claims.{claims_append}
use Rattle.mz_type_rules.proofs.proofs.push_claim.Goals as goal

pub returns-clause-claims : goal.returns-clause-claims
returns-clause-claims c = ap claim_trees c.in_ok-push.ensures.items ∙ claims_append c.args.claims.now.items c.args.claim
