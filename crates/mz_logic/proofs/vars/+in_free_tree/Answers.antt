use Rattle.std.proofs.Common.{drop, sym, subst, arith, true≢false}
use Rattle.mz_logic_theory.specs.Declaration.{signatures}
use Rattle.mz_logic_theory.specs.Variables.{InSomeFV}
use Rattle.mz_logic_theory.proofs.Offered.{past-end}
use Rattle.mz_logic.proofs.vars.+in_free_tree.Goals as goal

pub in_some_free_tree-returns : goal.in_some_free_tree-returns
in_some_free_tree-returns t c = (
  λ no. absurd (true≢false (sym no)),
  λ free. absurd (subst (InSomeFV (signatures c.args.env.now) c.args.ctx.now c.args.x c.args.params.now c.args.es.now (drop c.loop-i.i c.args.params.now))
      (past-end c.args.es.now c.loop-i.i (omega (arith, c.len-i-end.ensures, c.loop-i-test.false))) (c.loop-i.invariant.0.1 free)),
)
