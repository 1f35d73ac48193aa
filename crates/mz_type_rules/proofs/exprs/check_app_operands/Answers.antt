use Rattle.std.proofs.Common.{sym, ap, ◌∙◌, subst, length, inl}
use Rattle.mz_base.specs.Checks.{Judges}
use Rattle.mz_base.proofs.Offered.{fails-after, judges-after}
use Rattle.mz_sexpr.specs.Node.{parts}
use Rattle.mz_sexpr.specs.Number.{first, rest}
use Rattle.mz_logic_theory.specs.Declaration.{signatures}
use Rattle.mz_mmu_theory.specs.Rules.{exprs_rules, operand_rules}
use Rattle.mz_type_rules.proofs.Judging.{judges_asked}
use Rattle.mz_type_rules.proofs.exprs.check_app_operands.Goals as goal

pub returns-then-len-params : goal.returns-then-len-params
returns-then-len-params c =
    let sigs = signatures c.args.env.now in
    let ns = rest (parts (first c.args.nodes.now)) in
    fails-after (exprs_rules sigs c.args.ctx.now c.args.es.now ns) _ c.fault.result c.requires
    (inl (λ many. c.if-len-params.true (c.len.ensures ∙ many ∙ ap length (sym c.params_of-params.ensures)), c.fault.ensures))

pub returns : goal.returns
returns c =
    let sigs = signatures c.args.env.now in
    let ctx = c.args.ctx.now in
    let es = c.args.es.now in
    let ns = rest (parts (first c.args.nodes.now)) in
    judges-after (exprs_rules sigs ctx es ns) _ c.check_borrowed_operands.result c.requires
    (judges_asked _ _ (operand_rules sigs ctx es ns _) c.check_borrowed_operands.result
    (sym c.len.ensures ∙ c.if-len-params.false ∙ ap length c.params_of-params.ensures)
    (subst (λ ps. Judges c.check_borrowed_operands.result (operand_rules sigs ctx es ns ps)) c.params_of-params.ensures
    (subst (λ ms. Judges c.check_borrowed_operands.result (operand_rules sigs ctx es ms c.params_of-params.result.now)) c.parts_after.ensures c.check_borrowed_operands.ensures)))
