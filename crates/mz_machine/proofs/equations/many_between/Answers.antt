use Rattle.std.proofs.Common.{arith, sym}
use Rattle.mz_store.specs.Sharing.{tree_of}
use Rattle.mz_store.specs.declared.item.Id.{Id}
use Rattle.mz_machine.specs.OpenEquations.{stored}
use Rattle.mz_machine.proofs.Converting.{operand-trees}
use Rattle.mz_machine.proofs.OpenStacks.{operands-many}
use Rattle.mz_machine.proofs.equations.many_between.Goals as goal

pub returns : goal.returns
returns c =
    let s = c.args.store.now in
    let left = operands-many (stored s) (λ (i : Id). tree_of s i.0) c.args-lefts.result.now c.args.left (sym (operand-trees s c.args-lefts.result.now (tree_of s c.args.left.0) c.args-lefts.ensures.trees)) in
    let right = operands-many (stored s) (λ (i : Id). tree_of s i.0) c.args-rights.result.now c.args.right (sym (operand-trees s c.args-rights.result.now (tree_of s c.args.right.0) c.args-rights.ensures.trees)) in
    omega (arith, c.min.ensures, left, right)
