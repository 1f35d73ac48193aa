use Rattle.std.proofs.Common.{◌+◌, drop, sym, subst, arith}
use Rattle.std.proofs.lemmas.List.{drop_all}
use Rattle.mz_base.specs.Checks.{AllHold, FailsFirst}
use Rattle.mz_base.proofs.Offered.{Decides, decides-whole}
use Rattle.mz_sexpr.specs.Number.{first, rest}
use Rattle.mz_logic_theory.specs.View.{tree, trees}
use Rattle.mz_logic_theory.proofs.Offered.{expr-read, exprs-within, exprs_of, length-exprs, trees-exprs}
use Rattle.mz_mmu_theory.specs.Rules.{claim_rules, claims_rules, hyp_node}
use Rattle.mz_type_rules.proofs.Judging.{handed_on, left_fails, left_step}
use Rattle.mz_type_rules.proofs.StatementSteps.{claims_cut}
use Rattle.mz_type_rules.proofs.statements.check_hyps.Goals as goal

pub loop-i-init : goal.loop-i-init
loop-i-init c =
    let env = c.args.env.now in
    let ctx = c.args.ctx.now in
    let ax = c.args.is_axiom in
    let whole = claims_rules env ctx ax c.args.hyps.now c.args.nodes.now in
    subst (λ hs. Decides (claims_rules env ctx ax hs c.after-left.result) whole) (sym (trees-exprs c.args.hyps.now))
    (subst (λ ns. Decides (claims_rules env ctx ax c.args.hyps.now ns) whole) (sym c.after-left.ensures) (decides-whole whole))

pub returns-in_err-check_claim : goal.returns-in_err-check_claim
returns-in_err-check_claim c =
    let env = c.args.env.now in
    let ctx = c.args.ctx.now in
    let ax = c.args.is_axiom in
    let items = exprs_of c.args.hyps.now in
    let i = c.loop-i.i in
    let left = c.loop-i.left in
    let e = tree c.at.result.now in
    let f = c.in_err-check_claim.field-0.0 in
    let whole = claims_rules env ctx ax c.args.hyps.now c.args.nodes.now in
    handed_on whole c.from_residual.result f c.from_residual.ensures.1
    (left_fails (claims_rules env ctx ax (trees (drop i items)) left) (claim_rules env ctx e (hyp_node ax (first left))) (claims_rules env ctx ax (trees (drop (i + 1) items)) (rest left)) whole f
    (claims_cut env ctx ax items i c.at.result.now (exprs-within c.args.hyps.now i c.len-i-end.result c.len-i-end.ensures c.loop-i-test.true) (expr-read c.args.hyps.now i c.at.result.now c.at.ensures) left) c.loop-i.invariant
    (subst (λ m. FailsFirst (claim_rules env ctx e m) f) c.hyp_node.ensures c.in_err-check_claim.ensures))

pub loop-i-preserved : goal.loop-i-preserved
loop-i-preserved c =
    let env = c.args.env.now in
    let ctx = c.args.ctx.now in
    let ax = c.args.is_axiom in
    let items = exprs_of c.args.hyps.now in
    let i = c.loop-i.i in
    let left = c.loop-i.left in
    let e = tree c.at.result.now in
    let whole = claims_rules env ctx ax c.args.hyps.now c.args.nodes.now in
    subst (λ ns. Decides (claims_rules env ctx ax (trees (drop (i + 1) items)) ns) whole) (sym c.rest-left.ensures)
    (left_step (claims_rules env ctx ax (trees (drop i items)) left) (claim_rules env ctx e (hyp_node ax (first left))) (claims_rules env ctx ax (trees (drop (i + 1) items)) (rest left)) whole
    (claims_cut env ctx ax items i c.at.result.now (exprs-within c.args.hyps.now i c.len-i-end.result c.len-i-end.ensures c.loop-i-test.true) (expr-read c.args.hyps.now i c.at.result.now c.at.ensures) left) c.loop-i.invariant
    (subst (λ m. AllHold (claim_rules env ctx e m)) c.hyp_node.ensures c.in_ok-check_claim.ensures))

pub returns : goal.returns
returns c =
    let items = exprs_of c.args.hyps.now in
    let many = length-exprs c.args.hyps.now in
    c.loop-i.invariant.holds
    (subst (λ es. AllHold (claims_rules c.args.env.now c.args.ctx.now c.args.is_axiom (trees es) c.loop-i.left))
    (sym (drop_all c.loop-i.i items (omega (arith, many, c.len-i-end.ensures, c.loop-i-test.false)))) tt)
