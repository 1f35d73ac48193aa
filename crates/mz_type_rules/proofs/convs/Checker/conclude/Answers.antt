use Rattle.std.proofs.Common.{◌∙◌, ap, subst, drop, take}
use Rattle.std.proofs.lemmas.Result.{on_ok_weaker}
use Rattle.mz_sexpr.specs.Number.{first}
use Rattle.mz_logic_theory.specs.Declaration.{signatures}
use Rattle.mz_logic_theory.specs.DeclView.{assertion_view}
use Rattle.mz_mmu_theory.specs.Stops.{Stops}
use Rattle.mz_base.specs.Checks.{AllHold}
use Rattle.mz_type_rules.specs.Claims.{claim_tree, claim_trees}
use Rattle.mz_mmu_theory.specs.Rules.{citation_rules}
use Rattle.mz_mmu_theory.specs.Sides.{with_fact}
use Rattle.mz_type_rules.proofs.Judging.{stop_handed_on}
use Rattle.mz_type_rules.proofs.Stacked.{judged_still}
use Rattle.mz_type_rules.proofs.convs.Checker.conclude.Goals as goal

pub returns-in_err-claim-clause-judged : goal.returns-in_err-claim-clause-judged
returns-in_err-claim-clause-judged c =
    let sigs = signatures c.args.self.now.env.now in
    let ctx = c.args.self.now.ctx.now in
    let a = assertion_view c.args.thm.now in
    let es = c.args.es.now in
    let n = first c.args.nodes.now in
    let s = c.in_err-claim.field-0.0 in
    let there = c.claims_from-own.ensures ∙ ap (drop c.args.from) c.deref.ensures.value in
    stop_handed_on (citation_rules sigs ctx a es (claim_trees (drop c.args.from c.args.claims.now.items)) n) c.from_residual.result s c.from_residual.ensures.1
    (subst (λ cs. Stops s (citation_rules sigs ctx a es (claim_trees cs) n)) there c.in_err-claim.ensures.proved)

pub returns-clause-judged : goal.returns-clause-judged
returns-clause-judged c =
    let sigs = signatures c.args.self.now.env.now in
    let ctx = c.args.self.now.ctx.now in
    let a = assertion_view c.args.thm.now in
    let es = c.args.es.now in
    let n = first c.args.nodes.now in
    let there = c.claims_from-own.ensures ∙ ap (drop c.args.from) c.deref.ensures.value in
    judged_still (citation_rules sigs ctx a es (claim_trees (drop c.args.from c.args.claims.now.items)) n) c.push_claim.result
    (subst (λ cs. AllHold (citation_rules sigs ctx a es (claim_trees cs) n)) there c.in_ok-claim.ensures.proved.0) c.push_claim.ensures.stops

pub returns-clause-claims : goal.returns-clause-claims
returns-clause-claims c =
    on_ok_weaker c.push_claim.result
    (λ is. is ∙ ap (λ xs. with_fact (claim_trees xs) (claim_tree c.in_ok-claim.claim)) c.truncate.ensures.items
    ∙ ap (with_fact (claim_trees (take c.args.from c.args.claims.now.items))) c.in_ok-claim.ensures.proved.1) c.push_claim.ensures.claims

pub check_assertion-requires-clause-proved : goal.check_assertion-requires-clause-proved
check_assertion-requires-clause-proved c = ap claim_trees (c.claims_from-own.ensures ∙ ap (drop c.args.from) c.deref.ensures.value) ∙ c.requires.proved
