use Rattle.std.proofs.Common.{◌∙◌, ap, subst}
use Rattle.std.proofs.lemmas.Result.{on_ok_weaker}
use Rattle.mz_base.specs.Checks.{Judges}
use Rattle.mz_sexpr.specs.Number.{first}
use Rattle.mz_sexpr.specs.Node.{parts}
use Rattle.mz_logic_theory.specs.View.{tree}
use Rattle.mz_type_rules.specs.Claims.{claim_trees}
use Rattle.mz_mmu_theory.specs.Parts.{part}
use Rattle.mz_mmu_theory.specs.Rules.{claim_rules}
use Rattle.mz_mmu_theory.specs.Sides.{with_fact}
use Rattle.mz_type_rules.proofs.Judging.{stop_handed_on, told_stop, told_holds}
use Rattle.mz_type_rules.proofs.Stacked.{judged_still}
use Rattle.mz_type_rules.proofs.convs.Checker.check_gap.Goals as goal

pub returns-in_err-refuse-clause-judged : goal.returns-in_err-refuse-clause-judged
returns-in_err-refuse-clause-judged c =
    let env = c.args.self.now.env.now in
    let ctx = c.args.self.now.ctx.now in
    let A = claim_rules env ctx (tree c.args.e.now) (part (parts (first c.args.nodes.now)) 1) in
    let s = c.in_err-refuse.field-0.0 in
    stop_handed_on A c.from_residual.result s c.from_residual.ensures.1
    (told_stop A c.check_claim.result c.refuse.result s c.refuse.ensures c.in_err-refuse.was
    (subst (λ m. Judges c.check_claim.result (claim_rules env ctx (tree c.args.e.now) m)) c.part.ensures c.check_claim.ensures))

pub returns-clause-judged : goal.returns-clause-judged
returns-clause-judged c =
    let env = c.args.self.now.env.now in
    let ctx = c.args.self.now.ctx.now in
    let A = claim_rules env ctx (tree c.args.e.now) (part (parts (first c.args.nodes.now)) 1) in
    judged_still A c.push_claim.result
    (told_holds A c.check_claim.result c.refuse.result c.in_ok-refuse.field-0 c.refuse.ensures c.in_ok-refuse.was
    (subst (λ m. Judges c.check_claim.result (claim_rules env ctx (tree c.args.e.now) m)) c.part.ensures c.check_claim.ensures))
    c.push_claim.ensures.stops

pub returns-clause-claims : goal.returns-clause-claims
returns-clause-claims c =
    on_ok_weaker c.push_claim.result (λ is. is ∙ ap (with_fact (claim_trees c.args.claims.now.items)) c.of.ensures) c.push_claim.ensures.claims
