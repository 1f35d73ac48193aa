use Rattle.std.proofs.Common.{sym, ap, ◌∙◌, subst, length, inl}
use Rattle.mz_base.specs.Checks.{Judges}
use Rattle.mz_base.proofs.Offered.{fails-after}
use Rattle.mz_sexpr.specs.Number.{first, rest}
use Rattle.mz_sexpr.specs.Node.{parts}
use Rattle.mz_logic_theory.specs.Declaration.{signatures}
use Rattle.mz_mmu_theory.specs.Rules.{conv_count, convs_rules, side_rules}
use Rattle.mz_type_rules.proofs.Judging.{told_judged, judged_after, judged_asked}
use Rattle.mz_type_rules.proofs.ConvSteps as step
use Rattle.mz_type_rules.proofs.convs.Checker.check_cong_sides.Goals as goal

pub returns-then-as_slice-params : goal.returns-then-as_slice-params
returns-then-as_slice-params c =
    let env = c.args.self.now.env.now in
    let ctx = c.args.self.now.ctx.now in
    let n = first c.args.nodes.now in
    fails-after (convs_rules env ctx c.args.convs.now (rest (parts n))) _ c.fault.result c.requires
    (inl (λ many. c.if-as_slice-params.true (sym (step.convs_many c.as_slice.result.now) ∙ ap conv_count c.as_slice.ensures ∙ many ∙ ap length (sym c.params_of-params.ensures)), c.fault.ensures))

pub returns : goal.returns
returns c =
    let env = c.args.self.now.env.now in
    let ctx = c.args.self.now.ctx.now in
    let n = first c.args.nodes.now in
    judged_after (convs_rules env ctx c.args.convs.now (rest (parts n))) _ c.refuse.result c.requires
    (judged_asked _ _ (side_rules (signatures env) ctx c.args.convs.now (rest (parts n)) _) c.refuse.result
    (ap conv_count (sym c.as_slice.ensures) ∙ step.convs_many c.as_slice.result.now ∙ c.if-as_slice-params.false ∙ ap length c.params_of-params.ensures)
    (told_judged (side_rules (signatures env) ctx c.args.convs.now (rest (parts n)) _) c.check_sides.result c.refuse.result c.refuse.ensures
    (subst (λ ps. Judges c.check_sides.result (side_rules (signatures env) ctx c.args.convs.now (rest (parts n)) ps)) c.params_of-params.ensures
    (subst (λ ns. Judges c.check_sides.result (side_rules (signatures env) ctx c.args.convs.now ns c.params_of-params.result.now)) c.parts_after.ensures c.check_sides.ensures))))
