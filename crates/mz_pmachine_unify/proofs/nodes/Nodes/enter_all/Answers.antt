use Rattle.std.proofs.Common.{arith, refl, ◌∙◌, ap}
use Rattle.mz_pmachine_unify.specs.Entering.{entered}
use Rattle.mz_store.proofs.Offered.{word-right, rest-right}
use Rattle.mz_pmachine_unify.proofs.Beginning.{node-is, rest-entered, all-entered}
use Rattle.mz_pmachine_unify.proofs.nodes.Nodes.enter_all.Goals as goal

pub loop-param-init : goal.loop-param-init
loop-param-init c = (c.requires, refl, λ sigs over. over)

pub enter-requires : goal.enter-requires
enter-requires c = word-right c.loop-param.self.context c.args.params.now c.loop-param.param-index (omega arith) c.loop-param.invariant.0 c.deps.result c.bound.result c.deps.ensures c.bound.ensures

pub loop-param-preserved : goal.loop-param-preserved
loop-param-preserved c =
    let is = c.in_ok-enter.ensures.ok ∙ ap (entered c.loop-param.self) (node-is _ c.sort.result c.deps.result c.bound.result c.sort.ensures c.deps.ensures c.bound.ensures) in (
      rest-right c.loop-param.self.context c.enter.new.self.context c.args.params.now c.loop-param.param-index (omega arith) c.loop-param.invariant.0 (ap (λ s. s.context) is),
      rest-entered c.loop-param.self c.enter.new.self c.args.params.now c.loop-param.param-index (omega arith) is ∙ c.loop-param.invariant.1,
      λ sigs over. c.in_ok-enter.ensures.over sigs (c.loop-param.invariant.2 sigs over),
    )

pub returns-clause-ok : goal.returns-clause-ok
returns-clause-ok c = all-entered c.loop-param.self _ c.args.params.now c.loop-param.param-index (omega arith) c.loop-param.invariant.1

pub returns-clause-over : goal.returns-clause-over
returns-clause-over c = c.loop-param.invariant.2
