use Rattle.std.proofs.Common.{◌+◌, ◌∙◌, ap, arith, drop, sym, subst, length}
use Rattle.mz_base.specs.Checks.{AllHold}
use Rattle.mz_base.proofs.Offered.{Decides}
use Rattle.mz_sexpr.specs.Number.{first, rest}
use Rattle.mz_sexpr.specs.Node.{place}
use Rattle.mz_logic_theory.specs.Conversions.{sym_conv, unfold_conv}
use Rattle.mz_logic_theory.specs.Declaration.{signatures}
use Rattle.mz_mmu_theory.specs.ConvCode.{conv_steps}
use Rattle.mz_mmu_theory.specs.ConvView.{conversion, conversions}
use Rattle.mz_mmu_theory.specs.Stops.{Stops}
use Rattle.mz_type_rules.specs.Answers.{Judged}
use Rattle.mz_mmu_theory.specs.Rules.{conv_rules, convs_rules}
use Rattle.mz_type_rules.proofs.Building.{convs_size_step}
use Rattle.mz_type_rules.proofs.Judging.{stop_handed_on, stopped_before, stopped_within, left_step}
use Rattle.mz_type_rules.proofs.ConvSteps as step
use Rattle.mz_type_rules.proofs.convs.Checker.+check_conv.Goals as goal

pub check_cong-returns-in_err-check_convs : goal.check_cong-returns-in_err-check_convs
check_cong-returns-in_err-check_convs t c =
    let env = c.args.self.now.env.now in
    let ctx = c.args.self.now.ctx.now in
    let n = first c.args.nodes.now in
    let s = c.in_err-check_convs.field-0.0 in
    subst (λ ns. Judged c.from_residual.result (step.cong_rules env ctx c.args.term c.args.convs.now (place n) ns)) c.parts_after.ensures
    (stop_handed_on (step.cong_rules env ctx c.args.term c.args.convs.now (place n) c.parts_after.result) c.from_residual.result s c.from_residual.ensures.1
    (stopped_before (convs_rules env ctx c.args.convs.now c.parts_after.result) _ s c.in_err-check_convs.ensures))

pub check_cong-check_cong_sides-requires : goal.check_cong-check_cong_sides-requires
check_cong-check_cong_sides-requires t c =
    subst (λ ns. AllHold (convs_rules c.args.self.now.env.now c.args.self.now.ctx.now c.args.convs.now ns)) c.parts_after.ensures c.in_ok-check_convs.ensures

pub check_conv-returns-in-Unfold : goal.check_conv-returns-in-Unfold
check_conv-returns-in-Unfold t c =
    step.judged_as (ap conversion c.in-Unfold.is ∙ ap (unfold_conv c.in-Unfold.t c.in-Unfold.es c.in-Unfold.vars) (sym c.get-in-Unfold.ensures)) _ _ _ _ c.check_unfold.ensures

pub check_unfold-returns-in_err-check_part_exprs : goal.check_unfold-returns-in_err-check_part_exprs
check_unfold-returns-in_err-check_part_exprs t c =
    let env = c.args.self.now.env.now in
    let ctx = c.args.self.now.ctx.now in
    let n = first c.args.nodes.now in
    let d = conversion c.args.conv.now in
    let s = c.in_err-check_part_exprs.field-0.0 in
    stop_handed_on (conv_rules env ctx (unfold_conv c.args.term c.args.es.now c.args.vars.now d) n) c.from_residual.result s c.from_residual.ensures.1
    (step.exprs_stop env ctx c.args.term c.args.es.now c.args.vars.now d n s c.in_err-check_part_exprs.ensures)

pub check_unfold-returns-in_err-check_conv : goal.check_unfold-returns-in_err-check_conv
check_unfold-returns-in_err-check_conv t c =
    let env = c.args.self.now.env.now in
    let ctx = c.args.self.now.ctx.now in
    let n = first c.args.nodes.now in
    let d = conversion c.args.conv.now in
    let s = c.in_err-check_conv.field-0.0 in
    stop_handed_on (conv_rules env ctx (unfold_conv c.args.term c.args.es.now c.args.vars.now d) n) c.from_residual-in_err-check_conv.result s c.from_residual-in_err-check_conv.ensures.1
    (step.part_stops env ctx c.args.term c.args.es.now c.args.vars.now d n s c.in_ok-check_part_exprs.ensures
    (subst (λ m. Stops s (conv_rules env ctx d m)) c.part.ensures c.in_err-check_conv.ensures))

pub check_unfold-check_unfolded-requires-clause-held : goal.check_unfold-check_unfolded-requires-clause-held
check_unfold-check_unfolded-requires-clause-held t c =
    subst (λ m. AllHold (conv_rules c.args.self.now.env.now c.args.self.now.ctx.now (conversion c.args.conv.now) m)) c.part.ensures c.in_ok-check_conv.ensures

pub check_convs-returns-in_err-check_conv : goal.check_convs-returns-in_err-check_conv
check_convs-returns-in_err-check_conv t c =
    let env = c.args.self.now.env.now in
    let ctx = c.args.self.now.ctx.now in
    let items = c.as_slice-conv-items.result.now in
    let whole = convs_rules env ctx c.args.convs.now c.args.nodes.now in
    let s = c.in_err-check_conv.field-0.0 in
    stop_handed_on whole c.from_residual.result s c.from_residual.ensures.1
    (stopped_within (convs_rules env ctx (conversions (drop c.loop-conv.conv-index items)) c.loop-conv.left) (conv_rules env ctx (conversion c.conv-item.result) (first c.loop-conv.left))
    (convs_rules env ctx (conversions (drop (c.loop-conv.conv-index + 1) items)) (rest c.loop-conv.left)) whole s
    (step.convs_rules_cut env ctx items c.loop-conv.conv-index c.conv-item.result c.loop-conv-test.true c.conv-item.is c.loop-conv.left) c.loop-conv.invariant.decides c.in_err-check_conv.ensures)

pub check_convs-loop-conv-preserved : goal.check_convs-loop-conv-preserved
check_convs-loop-conv-preserved t c =
    let env = c.args.self.now.env.now in
    let ctx = c.args.self.now.ctx.now in
    let items = c.as_slice-conv-items.result.now in
    let whole = convs_rules env ctx c.args.convs.now c.args.nodes.now in record {
      decides = subst (λ ns. Decides (convs_rules env ctx (conversions (drop (c.loop-conv.conv-index + 1) items)) ns) whole) (sym c.rest-left.ensures)
          (left_step (convs_rules env ctx (conversions (drop c.loop-conv.conv-index items)) c.loop-conv.left) (conv_rules env ctx (conversion c.conv-item.result) (first c.loop-conv.left))
          (convs_rules env ctx (conversions (drop (c.loop-conv.conv-index + 1) items)) (rest c.loop-conv.left)) whole
          (step.convs_rules_cut env ctx items c.loop-conv.conv-index c.conv-item.result c.loop-conv-test.true c.conv-item.is c.loop-conv.left) c.loop-conv.invariant.decides c.in_ok-check_conv.ensures);
      there = step.convs_there_cut (length (signatures env)) (length ctx) items c.loop-conv.conv-index c.conv-item.result c.loop-conv-test.true c.conv-item.is c.loop-conv.invariant.there;
      small = (convs_size_step items c.loop-conv.conv-index c.conv-item.result c.loop-conv-test.true c.conv-item.is _ c.loop-conv.invariant.small).1;
    }

pub check_cong-returns : goal.check_cong-returns
check_cong-returns t c = c.check_cong_sides.ensures

pub check_sym-returns : goal.check_sym-returns
check_sym-returns t c =
    subst (λ m. Judged c.check_conv.result (conv_rules c.args.self.now.env.now c.args.self.now.ctx.now (conversion c.args.conv.now) m)) c.part.ensures c.check_conv.ensures

pub check_unfold-returns : goal.check_unfold-returns
check_unfold-returns t c = c.check_unfolded.ensures

pub check_conv-returns-in-Refl : goal.check_conv-returns-in-Refl
check_conv-returns-in-Refl t c = step.judged_as (ap conversion c.in-Refl.is) _ _ _ _ c.check_refl.ensures

pub check_conv-returns-in-Gap : goal.check_conv-returns-in-Gap
check_conv-returns-in-Gap t c = step.judged_as (ap conversion c.in-Gap.is) _ _ _ _ c.check_gap_conv.ensures

pub check_conv-returns-in-Cong : goal.check_conv-returns-in-Cong
check_conv-returns-in-Cong t c = step.judged_as (ap conversion c.in-Cong.is) _ _ _ _ c.check_cong.ensures

pub check_conv-returns-in-Sym : goal.check_conv-returns-in-Sym
check_conv-returns-in-Sym t c = step.judged_as (ap conversion c.in-Sym.is ∙ ap sym_conv (sym c.get.ensures)) _ _ _ _ c.check_sym.ensures

pub check_conv-check_cong-requires : goal.check_conv-check_cong-requires
check_conv-check_cong-requires t c =
    let sizes = ap (λ x. conv_steps (conversion x)) c.in-Cong.is in
    (omega (arith, sizes), (step.there_as (ap conversion c.in-Cong.is) _ _ c.requires).1)

pub check_conv-check_sym-requires : goal.check_conv-check_sym-requires
check_conv-check_sym-requires t c =
    let is = ap conversion c.in-Sym.is ∙ ap sym_conv (sym c.get.ensures) in
    let sizes = ap conv_steps is in
    (omega (arith, sizes), step.there_as is _ _ c.requires)

pub check_conv-check_unfold-requires : goal.check_conv-check_unfold-requires
check_conv-check_unfold-requires t c =
    let is = ap conversion c.in-Unfold.is ∙ ap (unfold_conv c.in-Unfold.t c.in-Unfold.es c.in-Unfold.vars) (sym c.get-in-Unfold.ensures) in
    let sizes = ap conv_steps is in
    (omega (arith, sizes), (step.there_as is _ _ c.requires).2)
