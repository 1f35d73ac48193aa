use Rattle.std.proofs.Common.{◌≡◌, ◌<◌, ◌+◌, true≢false, drop, length, refl, sym, ap, ◌∙◌, subst, inl, arith}
use Rattle.std.proofs.lemmas.List.{drop_all}
use Rattle.mz_base.specs.Checks.{demand, AllHold}
use Rattle.mz_base.proofs.Offered.{Decides, decides-whole}
use Rattle.mz_sexpr.specs.Node.{place}
use Rattle.mz_sexpr.specs.Number.{first, rest}
use Rattle.mz_sexpr.specs.declared.rule.U.{U}
use Rattle.mz_logic_theory.specs.Tree.{listed, operand, instance, instances}
use Rattle.mz_logic_theory.specs.View.{tree, trees}
use Rattle.mz_logic_theory.proofs.Offered.{expr-read, exprs_of, length-exprs, operand_in, trees-exprs}
use Rattle.mz_mmu_theory.specs.FormOrder.{fault}
use Rattle.mz_mmu_theory.specs.declared.fault.Stop.TheVariants.{Mem}
use Rattle.mz_type_rules.specs.Claims.{claim_tree, claim_trees}
use Rattle.mz_mmu_theory.specs.ProofView.{proof_view}
use Rattle.mz_mmu_theory.specs.Rules.{subproof_rules}
use Rattle.mz_mmu_theory.specs.Sides.{assertion_at, proved}
use Rattle.mz_type_rules.proofs.Claims.{claim_read, length-claims}
use Rattle.mz_type_rules.proofs.Judging.{left_fails, left_step, stop_handed_on}
use Rattle.mz_type_rules.proofs.ProofSteps.{subproofs_cut, proved_many, proved_read}
use Rattle.mz_type_rules.proofs.convs.Checker.check_claims.Goals as goal

pub loop-i-init : goal.loop-i-init
loop-i-init c =
    let whole = subproof_rules (claim_trees c.args.claims.now) c.args.nodes.now (instances c.args.es.now c.args.hyps.now) in record {
      decides = subst (λ hs. Decides (subproof_rules (claim_trees c.args.claims.now) c.after-left.result (instances c.args.es.now hs)) whole) (sym (trees-exprs c.args.hyps.now))
          (subst (λ ns. Decides (subproof_rules (claim_trees c.args.claims.now) ns (instances c.args.es.now c.args.hyps.now)) whole) (sym c.after-left.ensures) (decides-whole whole));
      same = refl;
    }

pub at-hyp-requires : goal.at-hyp-requires
at-hyp-requires c = let below : c.loop-i.i < length (listed c.args.hyps.now) = omega (arith, c.loop-i-test.true, c.requires.many) in below

pub returns-in_err-same-clause-judged : goal.returns-in_err-same-clause-judged
returns-in_err-same-clause-judged c =
    stop_handed_on (subproof_rules (claim_trees c.args.claims.now) c.args.nodes.now (instances c.args.es.now c.args.hyps.now)) c.from_residual.result Mem c.from_residual.ensures.1 tt

pub returns-then-not-same-clause-judged : goal.returns-then-not-same-clause-judged
returns-then-not-same-clause-judged c =
    let es = c.args.es.now in
    let items = c.args.claims.now in
    let wanted = exprs_of c.args.hyps.now in
    let i = c.loop-i.i in
    let whole = subproof_rules (claim_trees c.args.claims.now) c.args.nodes.now (instances es c.args.hyps.now) in
    let many = length-exprs c.args.hyps.now in
    left_fails (subproof_rules (claim_trees (drop i items)) c.loop-i.left (instances es (trees (drop i wanted))))
    (demand (fault (place (first c.loop-i.left)) U.Hypothesis) (claim_tree c.index-claims-i.result ≡ instance es (tree c.at-hyp.result.now)))
    (subproof_rules (claim_trees (drop (i + 1) items)) (rest c.loop-i.left) (instances es (trees (drop (i + 1) wanted)))) whole c.fault.result
    (subproofs_cut es items wanted i c.index-claims-i.result c.at-hyp.result.now c.loop-i-test.true c.index-claims-i.is
    (let within : i < length wanted = omega (arith, c.loop-i-test.true, c.requires.many, many) in within) (expr-read c.args.hyps.now i c.at-hyp.result.now c.at-hyp.ensures) c.loop-i.left)
    c.loop-i.invariant.decides (inl (λ is. true≢false (sym (c.in_ok-same.ensures.is.1 is) ∙ c.if-not-same.true), c.fault.ensures))

pub loop-i-preserved : goal.loop-i-preserved
loop-i-preserved c =
    let es = c.args.es.now in
    let items = c.args.claims.now in
    let wanted = exprs_of c.args.hyps.now in
    let i = c.loop-i.i in
    let whole = subproof_rules (claim_trees c.args.claims.now) c.args.nodes.now (instances es c.args.hyps.now) in
    let many = length-exprs c.args.hyps.now in record {
      decides = subst (λ ns. Decides (subproof_rules (claim_trees (drop (i + 1) items)) ns (instances es (trees (drop (i + 1) wanted)))) whole) (sym c.rest-left.ensures)
          (left_step (subproof_rules (claim_trees (drop i items)) c.loop-i.left (instances es (trees (drop i wanted))))
          (demand (fault (place (first c.loop-i.left)) U.Hypothesis) (claim_tree c.index-claims-i.result ≡ instance es (tree c.at-hyp.result.now)))
          (subproof_rules (claim_trees (drop (i + 1) items)) (rest c.loop-i.left) (instances es (trees (drop (i + 1) wanted)))) whole
          (subproofs_cut es items wanted i c.index-claims-i.result c.at-hyp.result.now c.loop-i-test.true c.index-claims-i.is
          (let within : i < length wanted = omega (arith, c.loop-i-test.true, c.requires.many, many) in within) (expr-read c.args.hyps.now i c.at-hyp.result.now c.at-hyp.ensures) c.loop-i.left)
          c.loop-i.invariant.decides (c.in_ok-same.ensures.is.0 c.if-not-same.false, tt));
      same = c.in_ok-same.ensures.same ∙ c.loop-i.invariant.same;
    }

pub returns-clause-judged : goal.returns-clause-judged
returns-clause-judged c =
    c.loop-i.invariant.decides.holds
    (subst (λ xs. AllHold (subproof_rules (claim_trees xs) c.loop-i.left (instances c.args.es.now (trees (drop c.loop-i.i (exprs_of c.args.hyps.now)))))) (sym (drop_all c.loop-i.i c.args.claims.now c.loop-i-test.false)) tt)

pub bounds-proofs-i : goal.bounds-proofs-i
bounds-proofs-i c =
    let z = c.args.lets.now in
    let many = sym (length-claims c.args.claims.now) ∙ ap (λ ts. length (listed ts)) c.requires.proved ∙ proved_many z.env z.hyps z.lets c.args.proofs.now in
    subst (λ n. c.loop-i.i < n) many c.loop-i-test.true

pub is_hyp-requires-clause-claim : goal.is_hyp-requires-clause-claim
is_hyp-requires-clause-claim c =
    let i = c.loop-i.i in
    let z = c.args.lets.now in
    let x = c.index-claims-i.result in
    let p = c.index-proofs-i.result in
    let many = sym (length-claims c.args.claims.now) ∙ ap (λ ts. length (listed ts)) c.requires.proved ∙ proved_many z.env z.hyps z.lets c.args.proofs.now in
    ap claim_tree c.index-claims-i.is ∙ sym (claim_read c.args.claims.now i x c.loop-i-test.true) ∙ ap (λ ts. operand ts i) c.requires.proved
    ∙ proved_read z.env z.hyps z.lets c.args.proofs.now i p (subst (λ n. i < n) many c.loop-i-test.true) c.index-proofs-i.is
    ∙ ap (λ y. proved y.env y.hyps y.lets (proof_view p)) (sym c.loop-i.invariant.same)

pub is_hyp-requires-clause-hyp : goal.is_hyp-requires-clause-hyp
is_hyp-requires-clause-hyp c =
    let i = c.loop-i.i in
    let hs = c.args.hyps.now in
    let hyp = c.at-hyp.result.now in
    let many = length-exprs hs in
    let within : i < length (exprs_of hs) = omega (arith, c.loop-i-test.true, c.requires.many, many) in
    ap tree (expr-read hs i hyp c.at-hyp.ensures) ∙ sym (operand_in (exprs_of hs) i hyp within) ∙ ap (λ ts. operand ts i) (trees-exprs hs) ∙ ap (λ ts. operand ts i) c.requires.hyps
    ∙ ap (λ z. operand (assertion_at z.env c.args.number).hyps i) (sym c.loop-i.invariant.same)
