use Rattle.std.proofs.Common.{◌<◌, ◌+◌, drop, arith, length, sym, subst}
use Rattle.mz_base.proofs.Offered.{fails-before, Decides}
use Rattle.mz_sexpr.specs.Number.{first}
use Rattle.mz_logic_theory.specs.Declaration.{signatures}
use Rattle.mz_logic_theory.specs.Tree.{past}
use Rattle.mz_mmu_theory.specs.Rules.{operand_rules, own_operand_rules}
use Rattle.mz_type_rules.proofs.Judging.{handed_within}
use Rattle.mz_type_rules.proofs.Steps.{no_operands_left, no_params_left, operands_left, operands_step}
use Rattle.mz_type_rules.proofs.exprs.check_borrowed_operands.Goals as goal

pub returns-then-i-params : goal.returns-then-i-params
returns-then-i-params c =
    c.loop-i.invariant.decides.holds (no_params_left (signatures c.args.env.now) c.args.ctx.now (past c.loop-i.i c.args.es.now) c.loop-i.left c.args.params.now c.loop-i.i c.if-i-params.true)

pub returns-in_err-check_operand : goal.returns-in_err-check_operand
returns-in_err-check_operand c =
    let sigs = signatures c.args.env.now in
    let ctx = c.args.ctx.now in
    let whole = operand_rules sigs ctx c.args.es.now c.args.nodes.now c.args.params.now in
    handed_within _ whole c.from_residual.result c.in_err-check_operand.field-0.0
    (operands_left c.args.es.now c.loop-i.i c.at.result c.at.ensures.left sigs ctx c.loop-i.left whole
    c.args.params.now c.index-params-i.result (let n : c.loop-i.i < length c.args.params.now = omega (arith, c.loop-i.invariant.within) in n) c.index-params-i.is c.loop-i.invariant.decides)
    c.from_residual.ensures.1
    (fails-before (own_operand_rules sigs ctx c.at.result (first c.loop-i.left) c.index-params-i.result) _ c.in_err-check_operand.field-0.0 c.in_err-check_operand.ensures)

pub loop-i-preserved : goal.loop-i-preserved
loop-i-preserved c =
    let sigs = signatures c.args.env.now in
    let ctx = c.args.ctx.now in
    let i = c.loop-i.i in
    let es = c.args.es.now in
    let ps = c.args.params.now in
    let whole = operand_rules sigs ctx es c.args.nodes.now ps in
    let n : i < length ps = omega (arith, c.loop-i.invariant.within) in
    record {
      decides = subst (λ ns. Decides (operand_rules sigs ctx (past (i + 1) es) ns (drop (i + 1) ps)) whole) (sym c.rest-left.ensures)
          (operands_step es i c.at.result c.at.ensures.left sigs ctx c.loop-i.left whole ps c.index-params-i.result n c.index-params-i.is c.in_ok-check_operand.ensures c.loop-i.invariant.decides);
      within = omega (arith, n);
    }

pub returns : goal.returns
returns c =
    c.loop-i.invariant.decides.holds (no_operands_left (signatures c.args.env.now) c.args.ctx.now c.args.es.now c.loop-i.left (drop c.loop-i.i c.args.params.now) c.loop-i.i
    (omega (arith, c.len-i-end.ensures, c.loop-i-test.false)))
