use Rattle.std.proofs.Common.{drop, refl, arith}
use Rattle.mz_logic_theory.specs.Declaration.{signatures}
use Rattle.mz_logic_theory.specs.Legality.{OperandsOf, BoundFit}
use Rattle.mz_logic_theory.specs.Tree.{Trees}
use Rattle.mz_logic_theory.proofs.Offered.{at-end}
use Rattle.mz_logic.proofs.sorts.+have_bound_operands.Goals as goal

pub have_bound_operands-returns : goal.have_bound_operands-returns
have_bound_operands-returns t c =
    let F : Trees → Type 0 = λ es. OperandsOf (signatures c.args.env.now) (BoundFit c.args.ctx.now) es (drop c.loop-i.i c.args.params.now) in
    (λ _. c.loop-i.invariant.0.0 (at-end F c.args.es.now c.loop-i.i (omega (arith, c.len-i-end.ensures, c.loop-i-test.false)) tt), λ _. refl)
