use Rattle.std.proofs.Common.{arith, sym}
use Rattle.mz_store.specs.declared.item.Id.{Id}
use Rattle.mz_pmachine_unify.specs.Numbering.{expr_of}
use Rattle.mz_machine.proofs.Offered.{operands-many}
use Rattle.mz_pmachine.specs.OpenNodes.{of_nodes}
use Rattle.mz_pmachine.proofs.Converting.{operand-exprs}
use Rattle.mz_pmachine.proofs.equations.many_between.Goals as goal

pub returns : goal.returns
returns c =
    let s = c.args.nodes.now in
    let left = operands-many (of_nodes s) (λ (i : Id). expr_of s i.0) c.args-lefts.result.now c.args.left (sym (operand-exprs s c.args-lefts.result.now (expr_of s c.args.left.0) c.args-lefts.ensures.exprs)) in
    let right = operands-many (of_nodes s) (λ (i : Id). expr_of s i.0) c.args-rights.result.now c.args.right (sym (operand-exprs s c.args-rights.result.now (expr_of s c.args.right.0) c.args-rights.ensures.exprs)) in
    omega (arith, c.min.ensures, left, right)
