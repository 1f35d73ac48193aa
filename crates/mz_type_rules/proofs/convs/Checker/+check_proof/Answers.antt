use Rattle.std.proofs.Common.{◌≡◌, ◌+◌, suc, true≢false, drop, take, sym, ap, ◌∙◌, subst, refl, length, arith}
use Rattle.std.proofs.lemmas.List.{drop_all}
use Rattle.std.proofs.lemmas.Result.{on_ok_weaker}
use Rattle.mz_base.specs.Checks.{AllHold, ◌>>◌}
use Rattle.mz_base.proofs.Offered.{all_hold-both, all_hold-first, all_hold-rest, Decides}
use Rattle.mz_sexpr.specs.Number.{first, rest}
use Rattle.mz_sexpr.specs.Node.{parts}
use Rattle.mz_logic_theory.specs.Tree.{none, more, listed, operand, followed_by}
use Rattle.mz_logic_theory.specs.Declaration.{signatures, assertions}
use Rattle.mz_logic_theory.specs.View.{tree}
use Rattle.mz_mmu_theory.specs.ConvView.{conversion}
use Rattle.mz_mmu_theory.specs.Proof.{by_citation, by_conv, by_let}
use Rattle.mz_mmu_theory.specs.ProofCode.{proof_steps}
use Rattle.mz_mmu_theory.specs.ProofView.{proof_view, proofs_view}
use Rattle.mz_mmu_theory.specs.Stops.{Stops}
use Rattle.mz_mmu_theory.specs.declared.fault.Stop.TheVariants.{Mem}
use Rattle.mz_type_rules.specs.Claims.{claim_trees}
use Rattle.mz_mmu_theory.specs.Names.{ProofThere, ProofsThere}
use Rattle.mz_mmu_theory.specs.Parts.{part, after}
use Rattle.mz_mmu_theory.specs.Rules.{expr_rules, conv_rules, proof_rules, proofs_rules}
use Rattle.mz_mmu_theory.specs.Sides.{proved, all_proved, with_fact}
use Rattle.mz_type_rules.proofs.Building.{builds_more}
use Rattle.mz_type_rules.proofs.Judging.{stop_handed_on, stopped_before, stopped_after, stopped_within, left_step}
use Rattle.mz_type_rules.specs.Scopes.{with_let}
use Rattle.mz_type_rules.proofs.Keeping.{fact_many}
use Rattle.mz_type_rules.proofs.ProofSteps as step
use Rattle.mz_type_rules.proofs.Stacked.{front_same, many_behind, last_same, others_within, others_before, own_behind, let_named, stopped_still, judged_still, on_ok, citation_judged, converted_stop}
use Rattle.mz_type_rules.proofs.convs.Checker.+check_proof.Goals as goal

pub check_citation-returns-in_err-check_part_exprs-clause-judged : goal.check_citation-returns-in_err-check_part_exprs-clause-judged
check_citation-returns-in_err-check_part_exprs-clause-judged t c =
    let env = c.args.self.now.env.now in
    let ctx = c.args.self.now.ctx.now in
    let hyps = c.args.self.now.hyps.now in
    let lets = c.args.lets.now.lets in
    let n = first c.args.nodes.now in
    let s = c.in_err-check_part_exprs.field-0.0 in
    stop_handed_on (proof_rules env ctx hyps lets (by_citation c.args.number c.args.es.now c.args.proofs.now) n) c.from_residual.result s c.from_residual.ensures.1
    (step.citation_operands_stop env ctx hyps lets c.args.number c.args.es.now c.args.proofs.now n s c.in_err-check_part_exprs.ensures)

pub check_citation-returns-in_err-check_proof-clause-judged : goal.check_citation-returns-in_err-check_proof-clause-judged
check_citation-returns-in_err-check_proof-clause-judged t c =
    let env = c.args.self.now.env.now in
    let ctx = c.args.self.now.ctx.now in
    let hyps = c.args.self.now.hyps.now in
    let lets = c.args.lets.now.lets in
    let n = first c.args.nodes.now in
    let T = c.args.number in
    let es = c.args.es.now in
    let ps = c.args.proofs.now in
    let items = c.as_slice-proof-items.result.now in
    let i = c.loop-proof.proof-index in
    let whole = proofs_rules env ctx hyps lets ps (after 2 (parts n)) in
    let p = c.proof-item.result in
    let below = c.loop-proof-test.true in
    let is = c.proof-item.is in
    let own = proof_rules env ctx hyps lets (proof_view p) (first c.loop-proof.left) in
    let behind = proofs_rules env ctx hyps lets (proofs_view (drop (i + 1) items)) (rest c.loop-proof.left) in
    let same = c.loop-proof.invariant.same in
    let s = c.in_err-check_proof.field-0.0 in
    stop_handed_on (proof_rules env ctx hyps lets (by_citation T es ps) n) c.from_residual-in_err-check_proof.result s c.from_residual-in_err-check_proof.ensures.1
    (step.citation_subproofs_stop env ctx hyps lets T es ps n s c.in_ok-check_part_exprs.ensures
    (stopped_within (proofs_rules env ctx hyps lets (proofs_view (drop i items)) c.loop-proof.left) own behind whole s
    (step.proofs_rules_cut env ctx hyps lets items i p below is c.loop-proof.left) c.loop-proof.invariant.decides
    (subst (λ ls. Stops s (proof_rules env ctx hyps ls.lets (proof_view p) (first c.loop-proof.left))) same c.in_err-check_proof.ensures.judged)))

pub check_citation-loop-proof-preserved : goal.check_citation-loop-proof-preserved
check_citation-loop-proof-preserved t c =
    let env = c.args.self.now.env.now in
    let ctx = c.args.self.now.ctx.now in
    let hyps = c.args.self.now.hyps.now in
    let lets = c.args.lets.now.lets in
    let n = first c.args.nodes.now in
    let ps = c.args.proofs.now in
    let items = c.as_slice-proof-items.result.now in
    let i = c.loop-proof.proof-index in
    let whole = proofs_rules env ctx hyps lets ps (after 2 (parts n)) in
    let p = c.proof-item.result in
    let below = c.loop-proof-test.true in
    let is = c.proof-item.is in
    let own = proof_rules env ctx hyps lets (proof_view p) (first c.loop-proof.left) in
    let behind = proofs_rules env ctx hyps lets (proofs_view (drop (i + 1) items)) (rest c.loop-proof.left) in
    let same = c.loop-proof.invariant.same in
    record {
      decides = subst (λ ns. Decides (proofs_rules env ctx hyps lets (proofs_view (drop (i + 1) items)) ns) whole) (sym c.rest-left.ensures)
          (left_step (proofs_rules env ctx hyps lets (proofs_view (drop i items)) c.loop-proof.left) own behind whole
          (step.proofs_rules_cut env ctx hyps lets items i p below is c.loop-proof.left) c.loop-proof.invariant.decides
          (subst (λ ls. AllHold (proof_rules env ctx hyps ls.lets (proof_view p) (first c.loop-proof.left))) same c.in_ok-check_proof.ensures.judged));
      builds = builds_more (claim_trees c.loop-proof.claims.items) _ (all_proved env hyps lets (proofs_view (drop i items))) (all_proved env hyps lets (proofs_view (drop (i + 1) items)))
          (followed_by (claim_trees c.args.claims.now.items) (all_proved env hyps lets ps))
          (proved env hyps lets (proof_view p)) (step.all_proved_cut env ctx hyps lets items i p below is)
          (c.in_ok-check_proof.ensures.claims ∙ ap (λ ls. with_fact (claim_trees c.loop-proof.claims.items) (proved env hyps ls.lets (proof_view p))) same) c.loop-proof.invariant.builds;
      there = subst (λ ls. ProofsThere (length (signatures env)) (length ctx) (length (assertions env)) (length (listed hyps)) (length (listed ls.lets)) (proofs_view (drop (i + 1) items))) (sym c.in_ok-check_proof.ensures.same)
          (step.proofs_there_cut env ctx hyps lets items i p below is (length (signatures env)) (length ctx) (length (assertions env)) (length (listed hyps)) (length (listed c.loop-proof.lets.lets)) c.loop-proof.invariant.there);
      same = c.in_ok-check_proof.ensures.same ∙ same;
      over = (ap (λ z. z.env) c.in_ok-check_proof.ensures.same ∙ c.loop-proof.invariant.over.0, ap (λ z. z.hyps) c.in_ok-check_proof.ensures.same ∙ c.loop-proof.invariant.over.1);
      small = (step.proofs_size_step env ctx hyps lets items i p below is _ c.loop-proof.invariant.small).1;
    }

pub check_citation-check_cited-requires-clause-within : goal.check_citation-check_cited-requires-clause-within
check_citation-check_cited-requires-clause-within t c =
    let from : c.len-from.result ≡ length c.args.claims.now.items = omega (arith, c.len-from.ensures) in
    others_within c.args.self.now.env.now c.args.self.now.hyps.now c.args.lets.now.lets c.args.proofs.now c.as_slice-proof-items.result.now c.loop-proof.proof-index
    c.len-from.result c.args.claims.now.items c.loop-proof.claims.items c.loop-proof-test.false from c.loop-proof.invariant.builds

pub check_citation-check_cited-requires-clause-env : goal.check_citation-check_cited-requires-clause-env
check_citation-check_cited-requires-clause-env t c = c.loop-proof.invariant.over.0

pub check_citation-check_cited-requires-clause-proved : goal.check_citation-check_cited-requires-clause-proved
check_citation-check_cited-requires-clause-proved t c =
    let from : c.len-from.result ≡ length c.args.claims.now.items = omega (arith, c.len-from.ensures) in
    let env = c.args.self.now.env.now in
    let hyps = c.args.self.now.hyps.now in
    let lets = c.args.lets.now.lets in
    let ps = c.args.proofs.now in
    let z = c.loop-proof.lets in
    own_behind env hyps lets ps c.as_slice-proof-items.result.now c.loop-proof.proof-index c.len-from.result c.args.claims.now.items c.loop-proof.claims.items c.loop-proof-test.false
    from c.loop-proof.invariant.builds
    ∙ ap (λ e. all_proved e hyps lets ps) (sym c.loop-proof.invariant.over.0) ∙ ap (λ h. all_proved z.env h lets ps) (sym c.loop-proof.invariant.over.1)
    ∙ ap (λ y. all_proved z.env z.hyps y.lets ps) (sym c.loop-proof.invariant.same) ∙ ap (all_proved z.env z.hyps z.lets) (sym c.as_slice.ensures)

pub check_citation-returns-clause-judged : goal.check_citation-returns-clause-judged
check_citation-returns-clause-judged t c =
    let from : c.len-from.result ≡ length c.args.claims.now.items = omega (arith, c.len-from.ensures) in
    let env = c.args.self.now.env.now in
    let ctx = c.args.self.now.ctx.now in
    let hyps = c.args.self.now.hyps.now in
    let lets = c.args.lets.now.lets in
    let ps = c.args.proofs.now in
    let items = c.as_slice-proof-items.result.now in
    let i = c.loop-proof.proof-index in
    let new = c.loop-proof.claims.items in
    citation_judged env ctx hyps lets (first c.args.nodes.now) c.args.number c.args.es.now ps c.check_cited.result (claim_trees (drop c.len-from.result new)) c.in_ok-check_part_exprs.ensures
    (c.loop-proof.invariant.decides.holds
    (subst (λ qs. AllHold (proofs_rules env ctx hyps lets (proofs_view qs) c.loop-proof.left)) (sym (drop_all i items c.loop-proof-test.false)) tt))
    (own_behind env hyps lets ps items i c.len-from.result c.args.claims.now.items new c.loop-proof-test.false from c.loop-proof.invariant.builds) c.check_cited.ensures.judged

pub check_citation-returns-clause-claims : goal.check_citation-returns-clause-claims
check_citation-returns-clause-claims t c =
    let from : c.len-from.result ≡ length c.args.claims.now.items = omega (arith, c.len-from.ensures) in
    let env = c.args.self.now.env.now in
    let hyps = c.args.self.now.hyps.now in
    let lets = c.args.lets.now.lets in
    let ps = c.args.proofs.now in
    let x = proved env hyps lets (by_citation c.args.number c.args.es.now ps) in
    on_ok_weaker c.check_cited.result
    (λ same. same ∙ ap (λ ts. with_fact ts x) (others_before env hyps lets ps c.as_slice-proof-items.result.now c.loop-proof.proof-index c.len-from.result c.args.claims.now.items
    c.loop-proof.claims.items c.loop-proof-test.false from c.loop-proof.invariant.builds)) c.check_cited.ensures.claims

pub check_citation-returns-clause-same : goal.check_citation-returns-clause-same
check_citation-returns-clause-same t c =
    on_ok c.check_cited.result (c.check_cited.ensures.same ∙ c.loop-proof.invariant.same)

pub check_conversion-returns-in_err-check_converted-clause-judged : goal.check_conversion-returns-in_err-check_converted-clause-judged
check_conversion-returns-in_err-check_converted-clause-judged t c =
    let env = c.args.self.now.env.now in
    let ctx = c.args.self.now.ctx.now in
    let hyps = c.args.self.now.hyps.now in
    let lets = c.args.lets.now.lets in
    let n = first c.args.nodes.now in
    let s = c.in_err-check_converted.field-0.0 in
    stop_handed_on (proof_rules env ctx hyps lets (by_conv (tree c.args.e.now) (conversion c.args.conv.now) (proof_view c.args.proof.now)) n) c.from_residual.result s c.from_residual.ensures.1
    (converted_stop env ctx hyps lets n (tree c.args.e.now) (conversion c.args.conv.now) (proof_view c.args.proof.now) s c.in_err-check_converted.ensures)

pub check_conversion-returns-in_err-check_proof-clause-judged : goal.check_conversion-returns-in_err-check_proof-clause-judged
check_conversion-returns-in_err-check_proof-clause-judged t c =
    let env = c.args.self.now.env.now in
    let ctx = c.args.self.now.ctx.now in
    let hyps = c.args.self.now.hyps.now in
    let lets = c.args.lets.now.lets in
    let n = first c.args.nodes.now in
    let A = expr_rules (signatures env) ctx (tree c.args.e.now) (part (parts n) 1) in
    let B = conv_rules env ctx (conversion c.args.conv.now) (part (parts n) 2) in
    let s = c.in_err-check_proof.field-0.0 in
    stop_handed_on (proof_rules env ctx hyps lets (by_conv (tree c.args.e.now) (conversion c.args.conv.now) (proof_view c.args.proof.now)) n) c.from_residual-in_err-check_proof.result s c.from_residual-in_err-check_proof.ensures.1
    (step.conversion_proof_stop env ctx hyps lets (tree c.args.e.now) (conversion c.args.conv.now) (proof_view c.args.proof.now) n s
    (all_hold-first A B c.in_ok-check_converted.ensures) (all_hold-rest A B c.in_ok-check_converted.ensures)
    (subst (λ m. Stops s (proof_rules env ctx hyps lets (proof_view c.args.proof.now) m)) c.part.ensures c.in_err-check_proof.ensures.judged))

pub check_conversion-goes_between-requires : goal.check_conversion-goes_between-requires
check_conversion-goes_between-requires t c =
    let from : c.len-from.result ≡ length c.args.claims.now.items = omega (arith, c.len-from.ensures) in
    let env = c.args.self.now.env.now in
    let hyps = c.args.self.now.hyps.now in
    let lets = c.args.lets.now.lets in
    let old = c.args.claims.now.items in
    let new = c.check_proof.new.claims.items in
    let x = proved env hyps lets (proof_view c.args.proof.now) in
    let are = c.in_ok-check_proof.ensures.claims in
    let many = many_behind old new (more x none) are in
    omega (arith, many, from)

pub check_conversion-returns-in_err-goes-clause-judged : goal.check_conversion-returns-in_err-goes-clause-judged
check_conversion-returns-in_err-goes-clause-judged t c =
    let p = by_conv (tree c.args.e.now) (conversion c.args.conv.now) (proof_view c.args.proof.now) in
    stop_handed_on (proof_rules c.args.self.now.env.now c.args.self.now.ctx.now c.args.self.now.hyps.now c.args.lets.now.lets p (first c.args.nodes.now))
    c.from_residual-in_err-goes.result Mem c.from_residual-in_err-goes.ensures.1 tt

pub check_conversion-returns-then-not-goes-clause-judged : goal.check_conversion-returns-then-not-goes-clause-judged
check_conversion-returns-then-not-goes-clause-judged t c =
    let from : c.len-from.result ≡ length c.args.claims.now.items = omega (arith, c.len-from.ensures) in
    let env = c.args.self.now.env.now in
    let ctx = c.args.self.now.ctx.now in
    let hyps = c.args.self.now.hyps.now in
    let lets = c.args.lets.now.lets in
    let n = first c.args.nodes.now in
    let A = expr_rules (signatures env) ctx (tree c.args.e.now) (part (parts n) 1) in
    let B = conv_rules env ctx (conversion c.args.conv.now) (part (parts n) 2) in
    let old = c.args.claims.now.items in
    let new = c.check_proof.new.claims.items in
    let x = proved env hyps lets (proof_view c.args.proof.now) in
    let are = c.in_ok-check_proof.ensures.claims in
    let at = ap (λ cs. operand (claim_trees cs) c.len-from.result) c.deref.ensures.value ∙ ap (operand (claim_trees new)) from ∙ last_same old new x are in
    step.conversion_differs env ctx hyps lets (tree c.args.e.now) (conversion c.args.conv.now) (proof_view c.args.proof.now) n c.fault.result
    (all_hold-first A B c.in_ok-check_converted.ensures) (all_hold-rest A B c.in_ok-check_converted.ensures)
    (subst (λ m. AllHold (proof_rules env ctx hyps lets (proof_view c.args.proof.now) m)) c.part.ensures c.in_ok-check_proof.ensures.judged)
    c.fault.ensures (λ is. true≢false (sym (c.in_ok-goes.ensures.1 (is.0, is.1 ∙ sym at)) ∙ c.if-not-goes.true))

pub check_conversion-returns-clause-judged : goal.check_conversion-returns-clause-judged
check_conversion-returns-clause-judged t c =
    let from : c.len-from.result ≡ length c.args.claims.now.items = omega (arith, c.len-from.ensures) in
    let env = c.args.self.now.env.now in
    let ctx = c.args.self.now.ctx.now in
    let hyps = c.args.self.now.hyps.now in
    let lets = c.args.lets.now.lets in
    let n = first c.args.nodes.now in
    let A = expr_rules (signatures env) ctx (tree c.args.e.now) (part (parts n) 1) in
    let B = conv_rules env ctx (conversion c.args.conv.now) (part (parts n) 2) in
    let old = c.args.claims.now.items in
    let new = c.check_proof.new.claims.items in
    let x = proved env hyps lets (proof_view c.args.proof.now) in
    let are = c.in_ok-check_proof.ensures.claims in
    let at = ap (λ cs. operand (claim_trees cs) c.len-from.result) c.deref.ensures.value ∙ ap (operand (claim_trees new)) from ∙ last_same old new x are in
    let sides = c.in_ok-goes.ensures.0 c.if-not-goes.false in
    judged_still (proof_rules env ctx hyps lets (by_conv (tree c.args.e.now) (conversion c.args.conv.now) (proof_view c.args.proof.now)) n) c.claim_instead.result
    (step.conversion_holds env ctx hyps lets (tree c.args.e.now) (conversion c.args.conv.now) (proof_view c.args.proof.now) n
    (all_hold-first A B c.in_ok-check_converted.ensures) (all_hold-rest A B c.in_ok-check_converted.ensures)
    (subst (λ m. AllHold (proof_rules env ctx hyps lets (proof_view c.args.proof.now) m)) c.part.ensures c.in_ok-check_proof.ensures.judged)
    (sides.0, sides.1 ∙ at)) c.claim_instead.ensures.stops

pub check_conversion-returns-clause-claims : goal.check_conversion-returns-clause-claims
check_conversion-returns-clause-claims t c =
    let from : c.len-from.result ≡ length c.args.claims.now.items = omega (arith, c.len-from.ensures) in
    let env = c.args.self.now.env.now in
    let hyps = c.args.self.now.hyps.now in
    let lets = c.args.lets.now.lets in
    let old = c.args.claims.now.items in
    let new = c.check_proof.new.claims.items in
    let x = proved env hyps lets (proof_view c.args.proof.now) in
    let are = c.in_ok-check_proof.ensures.claims in
    let e = tree c.args.e.now in
    on_ok_weaker c.claim_instead.result
    (λ is. is ∙ ap (λ k. with_fact (claim_trees (take k new)) e) from ∙ ap (λ ts. with_fact ts e) (front_same old new (more x none) are)) c.claim_instead.ensures.claims

pub check_conversion-returns-clause-same : goal.check_conversion-returns-clause-same
check_conversion-returns-clause-same t c =
    on_ok c.claim_instead.result c.in_ok-check_proof.ensures.same

pub check_let-returns-in_err-check_proof-clause-judged : goal.check_let-returns-in_err-check_proof-clause-judged
check_let-returns-in_err-check_proof-clause-judged t c =
    let env = c.args.self.now.env.now in
    let ctx = c.args.self.now.ctx.now in
    let hyps = c.args.self.now.hyps.now in
    let lets = c.args.lets.now.lets in
    let n = first c.args.nodes.now in
    let p = proof_view c.args.stated.now in
    let q = proof_view c.args.proof.now in
    let s = c.in_err-check_proof.field-0.0 in
    stop_handed_on (proof_rules env ctx hyps lets (by_let p q) n) c.from_residual.result s c.from_residual.ensures.1
    (stopped_before (proof_rules env ctx hyps lets p (part (parts n) 2)) _ s
    (subst (λ m. Stops s (proof_rules env ctx hyps lets p m)) c.part.ensures c.in_err-check_proof.ensures.judged))

pub check_let-name_claim-requires-clause-stated : goal.check_let-name_claim-requires-clause-stated
check_let-name_claim-requires-clause-stated t c =
    let from : c.len-from.result ≡ length c.args.claims.now.items = omega (arith, c.len-from.ensures) in
    let hyps = c.args.self.now.hyps.now in
    let before = c.args.lets.now in
    let p = proof_view c.args.stated.now in
    let one = c.check_proof.new.claims.items in
    ap (operand (claim_trees one)) from ∙ last_same c.args.claims.now.items one _ c.in_ok-check_proof.ensures.claims
    ∙ ap (λ e. proved e hyps before.lets p) (sym c.requires.over.0) ∙ ap (λ h. proved before.env h before.lets p) (sym c.requires.over.1)
    ∙ ap (λ z. proved z.env z.hyps z.lets p) (sym c.in_ok-check_proof.ensures.same)

pub check_let-name_claim-requires-clause-within : goal.check_let-name_claim-requires-clause-within
check_let-name_claim-requires-clause-within t c =
    let from : c.len-from.result ≡ length c.args.claims.now.items = omega (arith, c.len-from.ensures) in
    let env = c.args.self.now.env.now in
    let hyps = c.args.self.now.hyps.now in
    let lets = c.args.lets.now.lets in
    let x = proved env hyps lets (proof_view c.args.stated.now) in
    let many = many_behind c.args.claims.now.items c.check_proof.new.claims.items (more x none) c.in_ok-check_proof.ensures.claims in
    omega (arith, many, from)

pub check_let-returns-in_err-name_claim-clause-judged : goal.check_let-returns-in_err-name_claim-clause-judged
check_let-returns-in_err-name_claim-clause-judged t c =
    let env = c.args.self.now.env.now in
    let ctx = c.args.self.now.ctx.now in
    let hyps = c.args.self.now.hyps.now in
    let lets = c.args.lets.now.lets in
    let n = first c.args.nodes.now in
    let s = c.in_err-name_claim.field-0.0 in
    let cs = proof_rules env ctx hyps lets (by_let (proof_view c.args.stated.now) (proof_view c.args.proof.now)) n in
    stop_handed_on cs c.from_residual-in_err-name_claim.result s c.from_residual-in_err-name_claim.ensures.1 (stopped_still cs s c.in_err-name_claim.ensures.stops)

pub check_let-check_proof-requires-2 : goal.check_let-check_proof-requires-2
check_let-check_proof-requires-2 t c =
    let from : c.len-from.result ≡ length c.args.claims.now.items = omega (arith, c.len-from.ensures) in
    let env = c.args.self.now.env.now in
    let ctx = c.args.self.now.ctx.now in
    let hyps = c.args.self.now.hyps.now in
    let lets = c.args.lets.now.lets in
    let p = proof_view c.args.stated.now in
    let q = proof_view c.args.proof.now in
    let x = proved env hyps lets p in
    let named = let_named c.args.lets.now c.check_proof.new.lets c.name_claim.new.lets c.args.claims.now.items c.check_proof.new.claims.items c.len-from.result x
    c.in_ok-name_claim.ensures.lets c.in_ok-check_proof.ensures.same from c.in_ok-check_proof.ensures.claims in
    let many = sym (ap (λ ts. length (listed ts)) named ∙ fact_many lets x) in
    let same = ap (λ z. z.env) c.in_ok-name_claim.ensures.lets ∙ ap (λ z. z.env) c.in_ok-check_proof.ensures.same ∙ c.requires.over.0 in
    let same-hyps = ap (λ z. z.hyps) c.in_ok-name_claim.ensures.lets ∙ ap (λ z. z.hyps) c.in_ok-check_proof.ensures.same ∙ c.requires.over.1 in
    (omega arith, ((same, same-hyps), subst (λ k. ProofThere (length (signatures env)) (length ctx) (length (assertions env)) (length (listed hyps)) k q) many c.requires.proof))

pub check_let-returns-in_err-check_proof-2-clause-judged : goal.check_let-returns-in_err-check_proof-2-clause-judged
check_let-returns-in_err-check_proof-2-clause-judged t c =
    let from : c.len-from.result ≡ length c.args.claims.now.items = omega (arith, c.len-from.ensures) in
    let env = c.args.self.now.env.now in
    let ctx = c.args.self.now.ctx.now in
    let hyps = c.args.self.now.hyps.now in
    let lets = c.args.lets.now.lets in
    let n = first c.args.nodes.now in
    let p = proof_view c.args.stated.now in
    let q = proof_view c.args.proof.now in
    let x = proved env hyps lets p in
    let named = let_named c.args.lets.now c.check_proof.new.lets c.name_claim.new.lets c.args.claims.now.items c.check_proof.new.claims.items c.len-from.result x
    c.in_ok-name_claim.ensures.lets c.in_ok-check_proof.ensures.same from c.in_ok-check_proof.ensures.claims in
    let A = proof_rules env ctx hyps lets p (part (parts n) 2) in
    let B = proof_rules env ctx hyps (with_fact lets x) q (part (parts n) 3) in
    let held = subst (λ m. AllHold (proof_rules env ctx hyps lets p m)) c.part.ensures c.in_ok-check_proof.ensures.judged in
    let s = c.in_err-check_proof-2.field-0.0 in
    stop_handed_on (A >> B) c.from_residual-in_err-check_proof-2.result s c.from_residual-in_err-check_proof-2.ensures.1
    (stopped_after A B s held (subst (λ ls. Stops s (proof_rules env ctx hyps ls q (part (parts n) 3))) named
    (subst (λ m. Stops s (proof_rules env ctx hyps c.name_claim.new.lets.lets q m)) c.part-2.ensures c.in_err-check_proof-2.ensures.judged)))

pub check_let-returns-clause-judged : goal.check_let-returns-clause-judged
check_let-returns-clause-judged t c =
    let from : c.len-from.result ≡ length c.args.claims.now.items = omega (arith, c.len-from.ensures) in
    let env = c.args.self.now.env.now in
    let ctx = c.args.self.now.ctx.now in
    let hyps = c.args.self.now.hyps.now in
    let lets = c.args.lets.now.lets in
    let n = first c.args.nodes.now in
    let p = proof_view c.args.stated.now in
    let q = proof_view c.args.proof.now in
    let x = proved env hyps lets p in
    let named = let_named c.args.lets.now c.check_proof.new.lets c.name_claim.new.lets c.args.claims.now.items c.check_proof.new.claims.items c.len-from.result x
    c.in_ok-name_claim.ensures.lets c.in_ok-check_proof.ensures.same from c.in_ok-check_proof.ensures.claims in
    let A = proof_rules env ctx hyps lets p (part (parts n) 2) in
    let B = proof_rules env ctx hyps (with_fact lets x) q (part (parts n) 3) in
    let held = subst (λ m. AllHold (proof_rules env ctx hyps lets p m)) c.part.ensures c.in_ok-check_proof.ensures.judged in
    all_hold-both A B held (subst (λ ls. AllHold (proof_rules env ctx hyps ls q (part (parts n) 3))) named
    (subst (λ m. AllHold (proof_rules env ctx hyps c.name_claim.new.lets.lets q m)) c.part-2.ensures c.in_ok-check_proof-2.ensures.judged))

pub check_let-returns-clause-claims : goal.check_let-returns-clause-claims
check_let-returns-clause-claims t c =
    let from : c.len-from.result ≡ length c.args.claims.now.items = omega (arith, c.len-from.ensures) in
    let env = c.args.self.now.env.now in
    let hyps = c.args.self.now.hyps.now in
    let lets = c.args.lets.now.lets in
    let p = proof_view c.args.stated.now in
    let q = proof_view c.args.proof.now in
    let x = proved env hyps lets p in
    let one = c.check_proof.new.claims.items in
    let named = let_named c.args.lets.now c.check_proof.new.lets c.name_claim.new.lets c.args.claims.now.items c.check_proof.new.claims.items c.len-from.result x
    c.in_ok-name_claim.ensures.lets c.in_ok-check_proof.ensures.same from c.in_ok-check_proof.ensures.claims in
    let y = proved env hyps c.name_claim.new.lets.lets q in
    c.in_ok-check_proof-2.ensures.claims ∙ ap (λ xs. with_fact (claim_trees xs) y) c.in_ok-name_claim.ensures.claims ∙ ap (λ k. with_fact (claim_trees (take k one)) y) from
    ∙ ap (λ ts. with_fact ts y) (front_same c.args.claims.now.items one (more x none) c.in_ok-check_proof.ensures.claims)
    ∙ ap (λ ls. with_fact (claim_trees c.args.claims.now.items) (proved env hyps ls q)) named

pub check_let-returns-clause-same : goal.check_let-returns-clause-same
check_let-returns-clause-same t c =
    let x = operand (claim_trees c.check_proof.new.claims.items) c.len-from.result in
    c.close.ensures c.args.lets.now x (c.in_ok-check_proof-2.ensures.same ∙ c.in_ok-name_claim.ensures.lets ∙ ap (λ z. with_let z x) c.in_ok-check_proof.ensures.same)

pub check_proof-returns-in-Cite-clause-judged : goal.check_proof-returns-in-Cite-clause-judged
check_proof-returns-in-Cite-clause-judged t c = step.judged_as (ap proof_view c.in-Cite.is) _ _ _ _ _ _ c.check_citation.ensures.judged

pub check_proof-returns-in-Conv-clause-judged : goal.check_proof-returns-in-Conv-clause-judged
check_proof-returns-in-Conv-clause-judged t c =
    step.judged_as (step.conv_is c.args.proof.now c.in-Conv.e c.in-Conv.conv c.in-Conv.proof _ _ c.in-Conv.is c.get.ensures c.get-in-Conv.ensures) _ _ _ _ _ _ c.check_conversion.ensures.judged

pub check_proof-returns-in-Hyp-clause-judged : goal.check_proof-returns-in-Hyp-clause-judged
check_proof-returns-in-Hyp-clause-judged t c = step.judged_as (ap proof_view c.in-Hyp.is) _ _ _ _ _ _ c.claim_hyp.ensures.stops

pub check_proof-returns-in-Hyp-clause-claims : goal.check_proof-returns-in-Hyp-clause-claims
check_proof-returns-in-Hyp-clause-claims t c = step.claims_as (ap proof_view c.in-Hyp.is) _
    c.args.self.now.env.now c.args.self.now.hyps.now c.args.lets.now.lets _ _ c.claim_hyp.ensures.claims

pub check_proof-returns-in-Hyp-clause-same : goal.check_proof-returns-in-Hyp-clause-same
check_proof-returns-in-Hyp-clause-same t c = on_ok_weaker c.claim_hyp.result (λ _. refl) c.claim_hyp.ensures.claims

pub check_proof-returns-in-Name-clause-judged : goal.check_proof-returns-in-Name-clause-judged
check_proof-returns-in-Name-clause-judged t c = step.judged_as (ap proof_view c.in-Name.is) _ _ _ _ _ _ c.claim_let.ensures.stops

pub check_proof-returns-in-Name-clause-claims : goal.check_proof-returns-in-Name-clause-claims
check_proof-returns-in-Name-clause-claims t c = step.claims_as (ap proof_view c.in-Name.is) _
    c.args.self.now.env.now c.args.self.now.hyps.now c.args.lets.now.lets _ _
    c.claim_let.ensures.claims

pub check_proof-returns-in-Name-clause-same : goal.check_proof-returns-in-Name-clause-same
check_proof-returns-in-Name-clause-same t c = on_ok_weaker c.claim_let.result (λ _. refl) c.claim_let.ensures.claims

pub check_proof-returns-in-Gap-clause-judged : goal.check_proof-returns-in-Gap-clause-judged
check_proof-returns-in-Gap-clause-judged t c = step.judged_as (ap proof_view c.in-Gap.is) _ _ _ _ _ _ c.check_gap.ensures.judged

pub check_proof-returns-in-Gap-clause-claims : goal.check_proof-returns-in-Gap-clause-claims
check_proof-returns-in-Gap-clause-claims t c = step.claims_as (ap proof_view c.in-Gap.is) _
    c.args.self.now.env.now c.args.self.now.hyps.now c.args.lets.now.lets _ _ c.check_gap.ensures.claims

pub check_proof-returns-in-Gap-clause-same : goal.check_proof-returns-in-Gap-clause-same
check_proof-returns-in-Gap-clause-same t c = on_ok_weaker c.check_gap.result (λ _. refl) c.check_gap.ensures.claims

pub check_proof-claim_hyp-requires : goal.check_proof-claim_hyp-requires
check_proof-claim_hyp-requires t c = step.there_as (ap proof_view c.in-Hyp.is) _ _ _ _ _ c.requires.there

pub check_proof-claim_let-requires : goal.check_proof-claim_let-requires
check_proof-claim_let-requires t c = step.there_as (ap proof_view c.in-Name.is) _ _ _ _ _ c.requires.there

pub check_proof-check_citation-requires : goal.check_proof-check_citation-requires
check_proof-check_citation-requires t c =
    let sizes = ap (λ x. proof_steps (proof_view x)) c.in-Cite.is in
    let there = step.there_as (ap proof_view c.in-Cite.is) _ _ _ _ _ c.requires.there in
    (omega (arith, sizes), (c.requires.over, (there.0, (there.1, there.2))))

pub check_proof-returns-in-Cite-clause-claims : goal.check_proof-returns-in-Cite-clause-claims
check_proof-returns-in-Cite-clause-claims t c = step.claims_as (ap proof_view c.in-Cite.is) _
    c.args.self.now.env.now c.args.self.now.hyps.now c.args.lets.now.lets _ _ c.check_citation.ensures.claims

pub check_proof-returns-in-Cite-clause-same : goal.check_proof-returns-in-Cite-clause-same
check_proof-returns-in-Cite-clause-same t c = c.check_citation.ensures.same

pub check_proof-check_conversion-requires : goal.check_proof-check_conversion-requires
check_proof-check_conversion-requires t c =
    let is = step.conv_is c.args.proof.now c.in-Conv.e c.in-Conv.conv c.in-Conv.proof _ _ c.in-Conv.is c.get.ensures c.get-in-Conv.ensures in
    let sizes = ap proof_steps is in
    let there = step.there_as is _ _ _ _ _ c.requires.there in
    (omega (arith, sizes), (c.requires.over, (there.1, there.2)))

pub check_proof-returns-in-Conv-clause-claims : goal.check_proof-returns-in-Conv-clause-claims
check_proof-returns-in-Conv-clause-claims t c = step.claims_as (ap proof_view c.in-Conv.is) _
    c.args.self.now.env.now c.args.self.now.hyps.now c.args.lets.now.lets _ _ c.check_conversion.ensures.claims

pub check_proof-returns-in-Conv-clause-same : goal.check_proof-returns-in-Conv-clause-same
check_proof-returns-in-Conv-clause-same t c = c.check_conversion.ensures.same

pub check_proof-check_let-requires : goal.check_proof-check_let-requires
check_proof-check_let-requires t c =
    let is = step.let_is c.args.proof.now c.in-Let.first c.in-Let.second _ _ c.in-Let.is c.get-in-Let.ensures c.get-in-Let-2.ensures in
    let sizes = ap proof_steps is in
    let there = step.there_as is _ _ _ _ _ c.requires.there in
    let more : suc (length (listed c.args.lets.now.lets)) ≡ length (listed c.args.lets.now.lets) + 1 = omega arith in
    let env = c.args.self.now.env.now in
    let hyps = c.args.self.now.hyps.now in
    let q = proof_view c.get-in-Let-2.result.now in
    let second = subst (λ k. ProofThere (length (signatures env)) (length c.args.self.now.ctx.now) (length (assertions env)) (length (listed hyps)) k q) more there.1 in
    (omega (arith, sizes), (c.requires.over, (there.0, second)))

pub check_proof-returns-in-Let-clause-judged : goal.check_proof-returns-in-Let-clause-judged
check_proof-returns-in-Let-clause-judged t c =
    step.judged_as (step.let_is c.args.proof.now c.in-Let.first c.in-Let.second _ _ c.in-Let.is c.get-in-Let.ensures c.get-in-Let-2.ensures) _ _ _ _ _ _ c.check_let.ensures.judged

pub check_proof-returns-in-Let-clause-claims : goal.check_proof-returns-in-Let-clause-claims
check_proof-returns-in-Let-clause-claims t c =
    step.claims_as (step.let_is c.args.proof.now c.in-Let.first c.in-Let.second _ _ c.in-Let.is c.get-in-Let.ensures c.get-in-Let-2.ensures) _
    c.args.self.now.env.now c.args.self.now.hyps.now c.args.lets.now.lets _ _ c.check_let.ensures.claims

pub check_proof-returns-in-Let-clause-same : goal.check_proof-returns-in-Let-clause-same
check_proof-returns-in-Let-clause-same t c = c.check_let.ensures.same
