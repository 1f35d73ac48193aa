use Rattle.std.proofs.Common.{◌<◌, ◌+◌, drop, arith, length, subst, sym}
use Rattle.mz_base.proofs.Offered.{Decides}
use Rattle.mz_sexpr.specs.Number.{first, rest}
use Rattle.mz_logic_theory.specs.Declaration.{signatures}
use Rattle.mz_mmu_theory.specs.ConvView.{conversion, conversions}
use Rattle.mz_mmu_theory.specs.Rules.{side_rules, own_side_rules}
use Rattle.mz_type_rules.proofs.Judging.{handed_on, left_fails, left_step}
use Rattle.mz_type_rules.proofs.Steps.{sides_cut, no_sides_left}
use Rattle.mz_type_rules.proofs.convs.check_sides.Goals as goal

pub returns-then-i-params : goal.returns-then-i-params
returns-then-i-params c =
    c.loop-i.invariant.decides.holds (no_sides_left (signatures c.args.env.now) c.args.ctx.now (conversions (drop c.loop-i.i c.as_slice-items.result.now)) c.loop-i.left c.args.params.now c.loop-i.i c.if-i-params.true)

pub returns-in_err-check_side : goal.returns-in_err-check_side
returns-in_err-check_side c =
    let sigs = signatures c.args.env.now in
    let ctx = c.args.ctx.now in
    let whole = side_rules sigs ctx c.args.convs.now c.args.nodes.now c.args.params.now in
    handed_on whole c.from_residual.result c.in_err-check_side.field-0.0 c.from_residual.ensures.1
    (left_fails _ (own_side_rules sigs ctx (conversion c.index-items-i.result) (first c.loop-i.left) c.index-params-i.result)
    (side_rules sigs ctx (conversions (drop (c.loop-i.i + 1) c.as_slice-items.result.now)) (rest c.loop-i.left) (drop (c.loop-i.i + 1) c.args.params.now)) whole c.in_err-check_side.field-0.0
    (sides_cut sigs ctx c.as_slice-items.result.now c.loop-i.i c.index-items-i.result c.loop-i-test.true c.index-items-i.is
    c.args.params.now c.index-params-i.result (let n : c.loop-i.i < length c.args.params.now = omega (arith, c.loop-i.invariant.within) in n) c.index-params-i.is c.loop-i.left)
    c.loop-i.invariant.decides c.in_err-check_side.ensures)

pub loop-i-preserved : goal.loop-i-preserved
loop-i-preserved c =
    let sigs = signatures c.args.env.now in
    let ctx = c.args.ctx.now in
    let i = c.loop-i.i in
    let items = c.as_slice-items.result.now in
    let params = c.args.params.now in
    let whole = side_rules sigs ctx c.args.convs.now c.args.nodes.now params in
    let n : i < length params = omega (arith, c.loop-i.invariant.within) in
    record {
      decides = subst (λ ns. Decides (side_rules sigs ctx (conversions (drop (i + 1) items)) ns (drop (i + 1) params)) whole) (sym c.rest-left.ensures)
          (left_step (side_rules sigs ctx (conversions (drop i items)) c.loop-i.left (drop i params)) (own_side_rules sigs ctx (conversion c.index-items-i.result) (first c.loop-i.left) c.index-params-i.result)
          (side_rules sigs ctx (conversions (drop (i + 1) items)) (rest c.loop-i.left) (drop (i + 1) params)) whole
          (sides_cut sigs ctx items i c.index-items-i.result c.loop-i-test.true c.index-items-i.is params c.index-params-i.result n c.index-params-i.is c.loop-i.left)
          c.loop-i.invariant.decides c.in_ok-check_side.ensures);
      within = omega (arith, n);
    }
