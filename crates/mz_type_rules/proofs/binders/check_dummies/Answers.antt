use Rattle.std.proofs.Common.{◌+◌, true≢false, drop, get_or, sym, ap, subst, refl, inl}
use Rattle.std.proofs.lemmas.List.{drop_more}
use Rattle.mz_base.specs.Checks.{demand}
use Rattle.mz_base.proofs.Offered.{Decides}
use Rattle.mz_sexpr.specs.declared.rule.U.{U}
use Rattle.mz_sexpr.specs.Node.{place}
use Rattle.mz_sexpr.specs.Number.{first, rest}
use Rattle.mz_logic_theory.specs.Declaration.{sorts}
use Rattle.mz_logic_theory.specs.Modifiers.{MayBeDummySort}
use Rattle.mz_mmu_theory.specs.FormOrder.{fault}
use Rattle.mz_mmu_theory.specs.Rules.{dummy_rules}
use Rattle.mz_type_rules.proofs.Judging.{left_fails, left_step}
use Rattle.mz_type_rules.proofs.binders.check_dummies.Goals as goal

pub returns-then-not-may_be_dummy_sort : goal.returns-then-not-may_be_dummy_sort
returns-then-not-may_be_dummy_sort c =
    let env = c.args.env.now in
    let ds = c.args.dummies.now in
    let i = c.loop-i.i in
    let b = get_or ds i c.index-dummies-i.result in
    left_fails (dummy_rules env (drop i ds) c.loop-i.left) (demand (fault (place (first c.loop-i.left)) U.DummySort) (MayBeDummySort (sorts env) b.sort))
    (dummy_rules env (drop (i + 1) ds) (rest c.loop-i.left)) (dummy_rules env ds c.args.nodes.now) c.fault.result
    (ap (λ l. dummy_rules env l c.loop-i.left) (drop_more ds i c.index-dummies-i.result c.loop-i-test.true)) c.loop-i.invariant
    (inl (λ right. true≢false (sym (c.if-not-may_be_dummy_sort.ensures.1 right)), c.fault.ensures))

pub loop-i-preserved : goal.loop-i-preserved
loop-i-preserved c =
    let env = c.args.env.now in
    let ds = c.args.dummies.now in
    let i = c.loop-i.i in
    let b = get_or ds i c.index-dummies-i.result in
    subst (λ ns. Decides (dummy_rules env (drop (i + 1) ds) ns) (dummy_rules env ds c.args.nodes.now)) (sym c.rest-left.ensures)
    (left_step (dummy_rules env (drop i ds) c.loop-i.left) (demand (fault (place (first c.loop-i.left)) U.DummySort) (MayBeDummySort (sorts env) b.sort))
    (dummy_rules env (drop (i + 1) ds) (rest c.loop-i.left)) (dummy_rules env ds c.args.nodes.now)
    (ap (λ l. dummy_rules env l c.loop-i.left) (drop_more ds i c.index-dummies-i.result c.loop-i-test.true)) c.loop-i.invariant (c.if-not-may_be_dummy_sort.ensures.0 refl, tt))
