use Rattle.std.proofs.Common.{◌∙◌, ap}
use Rattle.std.proofs.lemmas.Result.{on_ok_weaker}
use Rattle.mz_type_rules.specs.Claims.{claim_trees}
use Rattle.mz_mmu_theory.specs.Sides.{with_fact}
use Rattle.mz_type_rules.proofs.proofs.claim_let.Goals as goal

pub returns-clause-claims : goal.returns-clause-claims
returns-clause-claims c =
    on_ok_weaker c.push_claim.result (λ is. is ∙ ap (with_fact (claim_trees c.args.claims.now.items)) c.at.ensures) c.push_claim.ensures.claims
