use Rattle.std.proofs.Common.{◌+◌, true≢false, drop, refl, sym, subst, inl}
use Rattle.mz_base.specs.Checks.{demand}
use Rattle.mz_base.proofs.Offered.{Decides}
use Rattle.mz_sexpr.specs.Node.{place}
use Rattle.mz_sexpr.specs.Number.{first, rest}
use Rattle.mz_sexpr.specs.declared.rule.U.{U}
use Rattle.mz_logic_theory.specs.Declaration.{sorts}
use Rattle.mz_logic_theory.specs.Legality.{IsParam}
use Rattle.mz_mmu_theory.specs.FormOrder.{fault}
use Rattle.mz_mmu_theory.specs.Rules.{param_rules}
use Rattle.mz_type_rules.proofs.Judging.{left_fails, left_step}
use Rattle.mz_type_rules.proofs.StatementSteps.{params_cut}
use Rattle.mz_type_rules.proofs.binders.check_params.Goals as goal

pub returns-then-not-is_param : goal.returns-then-not-is_param
returns-then-not-is_param c =
    let env = c.args.env.now in
    let ps = c.args.params.now in
    let i = c.loop-i.i in
    left_fails (param_rules env ps i (drop i ps) c.loop-i.left) (demand (fault (place (first c.loop-i.left)) U.Declaration) (IsParam (sorts env) ps i c.index-params-i.result))
    (param_rules env ps (i + 1) (drop (i + 1) ps) (rest c.loop-i.left)) (param_rules env ps 0 ps c.args.nodes.now) c.fault.result
    (params_cut env ps i c.index-params-i.result c.loop-i-test.true c.index-params-i.is c.loop-i.left) c.loop-i.invariant
    (inl (λ right. true≢false (sym (c.if-not-is_param.ensures.1 right)), c.fault.ensures))

pub loop-i-preserved : goal.loop-i-preserved
loop-i-preserved c =
    let env = c.args.env.now in
    let ps = c.args.params.now in
    let i = c.loop-i.i in
    subst (λ ns. Decides (param_rules env ps (i + 1) (drop (i + 1) ps) ns) (param_rules env ps 0 ps c.args.nodes.now)) (sym c.rest-left.ensures)
    (left_step (param_rules env ps i (drop i ps) c.loop-i.left) (demand (fault (place (first c.loop-i.left)) U.Declaration) (IsParam (sorts env) ps i c.index-params-i.result))
    (param_rules env ps (i + 1) (drop (i + 1) ps) (rest c.loop-i.left)) (param_rules env ps 0 ps c.args.nodes.now)
    (params_cut env ps i c.index-params-i.result c.loop-i-test.true c.index-params-i.is c.loop-i.left) c.loop-i.invariant (c.if-not-is_param.ensures.0 refl, tt))
