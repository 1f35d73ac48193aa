use Rattle.std.proofs.Common.{◌≡◌, true≢false, sym, ap, ◌∙◌, subst, [], inl, arith}
use Rattle.mz_base.specs.Checks.{AllHold}
use Rattle.mz_base.proofs.Offered.{fails-after, all_hold-both}
use Rattle.mz_sexpr.specs.Node.{place}
use Rattle.mz_sexpr.specs.Number.{first}
use Rattle.mz_sexpr.specs.declared.rule.U.{U}
use Rattle.mz_logic_theory.specs.Tree.{none, more, operand}
use Rattle.mz_logic_theory.specs.View.{tree}
use Rattle.mz_mmu_theory.specs.FormOrder.{fault}
use Rattle.mz_mmu_theory.specs.Parts.{part}
use Rattle.mz_mmu_theory.specs.ProofView.{proof_view}
use Rattle.mz_mmu_theory.specs.Rules.{proof_rules}
use Rattle.mz_mmu_theory.specs.Sides.{proved, with_fact}
use Rattle.mz_mmu_theory.specs.Stops.{Stops}
use Rattle.mz_mmu_theory.specs.declared.fault.Stop.TheVariants.{Mem}
use Rattle.mz_type_rules.specs.Answers.{proves_rules}
use Rattle.mz_type_rules.specs.Claims.{claim_trees}
use Rattle.mz_type_rules.proofs.Stacked.{many_behind}
use Rattle.mz_type_rules.proofs.Judging.{stop_handed_on, stopped_before}
use Rattle.mz_type_rules.proofs.statements.check_proves.Goals as goal

pub returns-in_err-check_proof : goal.returns-in_err-check_proof
returns-in_err-check_proof c =
    let env = c.args.checker.now.env.now in
    let ctx = c.args.checker.now.ctx.now in
    let hyps = c.args.checker.now.hyps.now in
    let p = proof_view c.args.proof.now in
    let ps = c.args.parts.now in
    let s = c.in_err-check_proof.field-0.0 in
    let rules = ap (λ ls. proof_rules env ctx hyps ls p (first c.after.result)) c.requires.lets ∙ ap (λ m. proof_rules env ctx hyps none p (first m)) c.after.ensures in
    stop_handed_on (proves_rules env ctx hyps p (tree c.args.thm.now.conclusion) ps) c.from_residual.result s c.from_residual.ensures.1
    (stopped_before (proof_rules env ctx hyps none p (part ps 6)) _ s (subst (λ cs. Stops s cs) rules c.in_err-check_proof.ensures.judged))

pub claim_at-requires : goal.claim_at-requires
claim_at-requires c =
    let env = c.args.checker.now.env.now in
    let hyps = c.args.checker.now.hyps.now in
    let p = proof_view c.args.proof.now in
    let are : claim_trees c.check_proof.new.claims.items ≡ more (proved env hyps none p) none =
    c.in_ok-check_proof.ensures.claims ∙ ap (λ ls. with_fact (claim_trees c.args.claims.now.items) (proved env hyps ls p)) c.requires.lets
    ∙ ap (λ xs. with_fact (claim_trees xs) (proved env hyps none p)) c.requires.claims in
    let many = many_behind [] c.check_proof.new.claims.items (more (proved env hyps none p) none) are in
    omega (arith, many)

pub returns-in_err-same : goal.returns-in_err-same
returns-in_err-same c =
    stop_handed_on (proves_rules c.args.checker.now.env.now c.args.checker.now.ctx.now c.args.checker.now.hyps.now (proof_view c.args.proof.now) (tree c.args.thm.now.conclusion) c.args.parts.now)
    c.from_residual-in_err-same.result Mem c.from_residual-in_err-same.ensures.1 tt

pub returns-then-same : goal.returns-then-same
returns-then-same c =
    let env = c.args.checker.now.env.now in
    let ctx = c.args.checker.now.ctx.now in
    let hyps = c.args.checker.now.hyps.now in
    let p = proof_view c.args.proof.now in
    let rules = ap (λ ls. proof_rules env ctx hyps ls p (first c.after.result)) c.requires.lets ∙ ap (λ m. proof_rules env ctx hyps none p (first m)) c.after.ensures in
    let are : claim_trees c.check_proof.new.claims.items ≡ more (proved env hyps none p) none =
    c.in_ok-check_proof.ensures.claims ∙ ap (λ ls. with_fact (claim_trees c.args.claims.now.items) (proved env hyps ls p)) c.requires.lets
    ∙ ap (λ xs. with_fact (claim_trees xs) (proved env hyps none p)) c.requires.claims in
    all_hold-both (proof_rules env ctx hyps none p (part c.args.parts.now 6)) _ (subst (λ cs. AllHold cs) rules c.in_ok-check_proof.ensures.judged)
    (sym (ap (λ ts. operand ts 0) are) ∙ sym (c.claim_at.ensures ∙ ap (λ cs. operand (claim_trees cs) 0) c.deref.ensures.value) ∙ c.in_ok-same.ensures.0 c.if-same.true ∙ c.of.ensures, tt)

pub returns-else-same : goal.returns-else-same
returns-else-same c =
    let env = c.args.checker.now.env.now in
    let ctx = c.args.checker.now.ctx.now in
    let hyps = c.args.checker.now.hyps.now in
    let p = proof_view c.args.proof.now in
    let rules = ap (λ ls. proof_rules env ctx hyps ls p (first c.after.result)) c.requires.lets ∙ ap (λ m. proof_rules env ctx hyps none p (first m)) c.after.ensures in
    let are : claim_trees c.check_proof.new.claims.items ≡ more (proved env hyps none p) none =
    c.in_ok-check_proof.ensures.claims ∙ ap (λ ls. with_fact (claim_trees c.args.claims.now.items) (proved env hyps ls p)) c.requires.lets
    ∙ ap (λ xs. with_fact (claim_trees xs) (proved env hyps none p)) c.requires.claims in
    fails-after (proof_rules env ctx hyps none p (part c.args.parts.now 6)) _ c.fault.result (subst (λ cs. AllHold cs) rules c.in_ok-check_proof.ensures.judged)
    (inl (
      λ is. true≢false (sym (c.in_ok-same.ensures.1 (c.claim_at.ensures ∙ ap (λ cs. operand (claim_trees cs) 0) c.deref.ensures.value ∙ ap (λ ts. operand ts 0) are ∙ is ∙ sym c.of.ensures)) ∙ c.if-same.false),
      c.fault.ensures ∙ ap (λ m. fault (place (first m)) U.Conclusion) c.after-else-same.ensures,
    ))
