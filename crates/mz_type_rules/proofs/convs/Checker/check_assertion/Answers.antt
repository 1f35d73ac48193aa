use Rattle.std.proofs.Common.{true≢false, sym, ap, ◌∙◌, subst, length, inl}
use Rattle.mz_base.specs.Checks.{Judges, AllHold}
use Rattle.mz_sexpr.specs.Number.{first}
use Rattle.mz_sexpr.specs.Node.{parts}
use Rattle.mz_logic_theory.specs.Tree.{instance, instances}
use Rattle.mz_logic_theory.specs.Declaration.{signatures}
use Rattle.mz_logic_theory.specs.DeclView.{assertion_view}
use Rattle.mz_logic_theory.specs.Sorts.{Fits}
use Rattle.mz_logic_theory.specs.Variables.{AreDisjoint}
use Rattle.mz_logic_theory.specs.View.{tree}
use Rattle.mz_mmu_theory.specs.Stops.{Stops}
use Rattle.mz_mmu_theory.specs.declared.fault.Stop.TheVariants.{Mem}
use Rattle.mz_type_rules.specs.Claims.{claim_trees}
use Rattle.mz_mmu_theory.specs.Parts.{part}
use Rattle.mz_mmu_theory.specs.Rules.{operand_rules, citation_rules, subproof_rules}
use Rattle.mz_type_rules.proofs.Claims.{length-claims}
use Rattle.mz_type_rules.proofs.Judging.{stop_proved, told_stop, told_holds}
use Rattle.mz_type_rules.proofs.ProofSteps as step
use Rattle.mz_type_rules.proofs.convs.Checker.check_assertion.Goals as goal
use Rattle.mz_type_rules.proofs.convs.Checker.check_assertion.Goals.{then-len-params-via-then-len-params, then-len-params-via-else-len-params+then-claims-len}

pub returns-then-len-params-clause-proved : goal.returns-then-len-params-clause-proved
returns-then-len-params-clause-proved c =
    inl (
      elim c.then-len-params.branch [
        | then-len-params-via-then-len-params w ↦ λ many. w.if-len-params.true (c.len.ensures ∙ many.0 ∙ sym (ap length c.as_slice-params.ensures))
        | then-len-params-via-else-len-params+then-claims-len w ↦ λ many. w.if-claims-len.true (sym (length-claims c.args.claims.now) ∙ many.1 ∙ sym w.len-else-len-params.ensures)
      ],
      c.fault.ensures,
    )

pub returns-in_err-refuse-clause-proved : goal.returns-in_err-refuse-clause-proved
returns-in_err-refuse-clause-proved c =
    let sigs = signatures c.args.self.now.env.now in
    let ctx = c.args.self.now.ctx.now in
    let a = assertion_view c.args.thm.now in
    let es = c.args.es.now in
    let n = first c.args.nodes.now in
    let s = c.in_err-refuse.field-0.0 in
    stop_proved (citation_rules sigs ctx a es (claim_trees c.args.claims.now) n) (instance es (tree c.args.thm.now.conclusion)) c.from_residual.result s c.from_residual.ensures.1
    (step.operands_stop sigs ctx a es (claim_trees c.args.claims.now) n
    (sym c.len.ensures ∙ c.if-len-params.false ∙ ap length c.as_slice-params.ensures, length-claims c.args.claims.now ∙ c.if-claims-len.false ∙ c.len-else-len-params.ensures) s
    (told_stop (operand_rules sigs ctx es (parts (part (parts n) 1)) a.params) c.check_operands.result c.refuse.result s c.refuse.ensures c.in_err-refuse.was
    (subst (λ ps. Judges c.check_operands.result (operand_rules sigs ctx es (parts (part (parts n) 1)) ps)) c.as_slice-params.ensures
    (subst (λ ns. Judges c.check_operands.result (operand_rules sigs ctx es ns c.as_slice-params.result.now)) c.parts_of.ensures c.check_operands.ensures))))

pub are_disjoint-requires : goal.are_disjoint-requires
are_disjoint-requires c =
    let sigs = signatures c.args.self.now.env.now in
    let ctx = c.args.self.now.ctx.now in
    let a = assertion_view c.args.thm.now in
    let es = c.args.es.now in
    let n = first c.args.nodes.now in
    subst (λ ps. Fits sigs ctx es ps) (sym c.as_slice-params.ensures)
    (step.operands_fit sigs ctx a es (claim_trees c.args.claims.now) n
    (sym c.len.ensures ∙ c.if-len-params.false ∙ ap length c.as_slice-params.ensures, length-claims c.args.claims.now ∙ c.if-claims-len.false ∙ c.len-else-len-params.ensures)
    c.requires.there c.requires.sorted
    (told_holds (operand_rules sigs ctx es (parts (part (parts n) 1)) a.params) c.check_operands.result c.refuse.result c.in_ok-refuse.field-0 c.refuse.ensures c.in_ok-refuse.was
    (subst (λ ps. Judges c.check_operands.result (operand_rules sigs ctx es (parts (part (parts n) 1)) ps)) c.as_slice-params.ensures
    (subst (λ ns. Judges c.check_operands.result (operand_rules sigs ctx es ns c.as_slice-params.result.now)) c.parts_of.ensures c.check_operands.ensures))))

pub returns-in_err-apart-clause-proved : goal.returns-in_err-apart-clause-proved
returns-in_err-apart-clause-proved c =
    stop_proved (citation_rules (signatures c.args.self.now.env.now) c.args.self.now.ctx.now (assertion_view c.args.thm.now) c.args.es.now (claim_trees c.args.claims.now) (first c.args.nodes.now)) (instance c.args.es.now (tree c.args.thm.now.conclusion))
    c.from_residual-in_err-apart.result Mem c.from_residual-in_err-apart.ensures.1 tt

pub returns-then-not-apart-clause-proved : goal.returns-then-not-apart-clause-proved
returns-then-not-apart-clause-proved c =
    let sigs = signatures c.args.self.now.env.now in
    let ctx = c.args.self.now.ctx.now in
    let a = assertion_view c.args.thm.now in
    let es = c.args.es.now in
    let n = first c.args.nodes.now in
    step.disjoint_rule_fails sigs ctx a es (claim_trees c.args.claims.now) n
    (sym c.len.ensures ∙ c.if-len-params.false ∙ ap length c.as_slice-params.ensures, length-claims c.args.claims.now ∙ c.if-claims-len.false ∙ c.len-else-len-params.ensures) c.fault-then-not-apart.result
    (told_holds (operand_rules sigs ctx es (parts (part (parts n) 1)) a.params) c.check_operands.result c.refuse.result c.in_ok-refuse.field-0 c.refuse.ensures c.in_ok-refuse.was
    (subst (λ ps. Judges c.check_operands.result (operand_rules sigs ctx es (parts (part (parts n) 1)) ps)) c.as_slice-params.ensures
    (subst (λ ns. Judges c.check_operands.result (operand_rules sigs ctx es ns c.as_slice-params.result.now)) c.parts_of.ensures c.check_operands.ensures)))
    c.fault-then-not-apart.ensures (λ apart. true≢false (sym (c.in_ok-apart.ensures.1 (subst (λ ps. AreDisjoint ctx es ps) (sym c.as_slice-params.ensures) apart)) ∙ c.if-not-apart.true))

pub returns-in_err-check_claims-clause-proved : goal.returns-in_err-check_claims-clause-proved
returns-in_err-check_claims-clause-proved c =
    let sigs = signatures c.args.self.now.env.now in
    let ctx = c.args.self.now.ctx.now in
    let a = assertion_view c.args.thm.now in
    let es = c.args.es.now in
    let n = first c.args.nodes.now in
    let s = c.in_err-check_claims.field-0.0 in
    stop_proved (citation_rules sigs ctx a es (claim_trees c.args.claims.now) n) (instance es (tree c.args.thm.now.conclusion)) c.from_residual-in_err-check_claims.result s c.from_residual-in_err-check_claims.ensures.1
    (step.subs_stop sigs ctx a es (claim_trees c.args.claims.now) n
    (sym c.len.ensures ∙ c.if-len-params.false ∙ ap length c.as_slice-params.ensures, length-claims c.args.claims.now ∙ c.if-claims-len.false ∙ c.len-else-len-params.ensures) s
    (told_holds (operand_rules sigs ctx es (parts (part (parts n) 1)) a.params) c.check_operands.result c.refuse.result c.in_ok-refuse.field-0 c.refuse.ensures c.in_ok-refuse.was
    (subst (λ ps. Judges c.check_operands.result (operand_rules sigs ctx es (parts (part (parts n) 1)) ps)) c.as_slice-params.ensures
    (subst (λ ns. Judges c.check_operands.result (operand_rules sigs ctx es ns c.as_slice-params.result.now)) c.parts_of.ensures c.check_operands.ensures)))
    (subst (λ ps. AreDisjoint ctx es ps) c.as_slice-params.ensures (c.in_ok-apart.ensures.0 c.if-not-apart.false))
    (subst (λ ns. Stops s (subproof_rules (claim_trees c.args.claims.now) ns (instances es a.hyps))) c.parts_after.ensures c.in_err-check_claims.ensures.judged))

pub returns-clause-proved : goal.returns-clause-proved
returns-clause-proved c =
    let sigs = signatures c.args.self.now.env.now in
    let ctx = c.args.self.now.ctx.now in
    let a = assertion_view c.args.thm.now in
    let es = c.args.es.now in
    let n = first c.args.nodes.now in (
      step.citation_holds sigs ctx a es (claim_trees c.args.claims.now) n
          (sym c.len.ensures ∙ c.if-len-params.false ∙ ap length c.as_slice-params.ensures, length-claims c.args.claims.now ∙ c.if-claims-len.false ∙ c.len-else-len-params.ensures)
          (told_holds (operand_rules sigs ctx es (parts (part (parts n) 1)) a.params) c.check_operands.result c.refuse.result c.in_ok-refuse.field-0 c.refuse.ensures c.in_ok-refuse.was
          (subst (λ ps. Judges c.check_operands.result (operand_rules sigs ctx es (parts (part (parts n) 1)) ps)) c.as_slice-params.ensures
          (subst (λ ns. Judges c.check_operands.result (operand_rules sigs ctx es ns c.as_slice-params.result.now)) c.parts_of.ensures c.check_operands.ensures)))
          (subst (λ ps. AreDisjoint ctx es ps) c.as_slice-params.ensures (c.in_ok-apart.ensures.0 c.if-not-apart.false))
          (subst (λ ns. AllHold (subproof_rules (claim_trees c.args.claims.now) ns (instances es a.hyps))) c.parts_after.ensures c.in_ok-check_claims.ensures.judged),
      c.instance.ensures,
    )
