use Rattle.std.proofs.Common.{◌∙◌, ap, take}
use Rattle.std.proofs.lemmas.Result.{on_ok_weaker}
use Rattle.mz_type_rules.specs.Claims.{claim_tree, claim_trees}
use Rattle.mz_mmu_theory.specs.Sides.{with_fact}
use Rattle.mz_type_rules.proofs.proofs.claim_instead.Goals as goal

pub returns-clause-claims : goal.returns-clause-claims
returns-clause-claims c =
    on_ok_weaker c.push_claim.result
    (λ is. is ∙ ap (λ xs. with_fact (claim_trees xs) (claim_tree c.of.result)) c.truncate.ensures.items
    ∙ ap (with_fact (claim_trees (take c.args.from c.args.claims.now.items))) c.of.ensures) c.push_claim.ensures.claims
