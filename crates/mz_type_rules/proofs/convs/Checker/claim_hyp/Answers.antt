use Rattle.std.proofs.Common.{◌∙◌, ap, sym}
use Rattle.std.proofs.lemmas.Result.{on_ok_weaker}
use Rattle.mz_logic_theory.specs.Tree.{listed}
use Rattle.mz_type_rules.specs.Claims.{claim_trees}
use Rattle.mz_mmu_theory.specs.Sides.{with_fact}
use Rattle.mz_type_rules.proofs.ProofSteps as step
use Rattle.mz_type_rules.proofs.convs.Checker.claim_hyp.Goals as goal

pub unreachable-requires : goal.unreachable-requires
unreachable-requires c = step.is_there (listed c.args.self.now.hyps.now) c.args.place c.requires c.in-None.ensures.at

pub returns-clause-claims : goal.returns-clause-claims
returns-clause-claims c =
    on_ok_weaker c.push_claim.result
    (λ is. is ∙ ap (with_fact (claim_trees c.args.claims.now.items)) (c.of.ensures ∙ sym c.in-Some.ensures.operand)) c.push_claim.ensures.claims
