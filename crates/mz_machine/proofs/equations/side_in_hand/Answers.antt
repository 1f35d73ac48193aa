use Rattle.std.proofs.Common.{arith, sym}
use Rattle.mz_store.specs.Sharing.{tree_of}
use Rattle.mz_store.specs.declared.item.Id.{Id}
use Rattle.mz_unify.proofs.Offered.{is-in-at}
use Rattle.mz_machine.specs.OpenEquations.{stored}
use Rattle.mz_machine.proofs.Converting.{operand-trees}
use Rattle.mz_machine.proofs.OpenStacks.{next-come, operands-many}
use Rattle.mz_machine.proofs.equations.side_in_hand.Goals as goal

pub id_at-left-requires : goal.id_at-left-requires
id_at-left-requires c =
    let s = c.args.store.now in
    let e = c.args.equation.left in
    omega (arith, c.requires.more, operands-many (stored s) (λ (i : Id). tree_of s i.0) c.args-2.result.now e (sym (operand-trees s c.args-2.result.now (tree_of s e.0) c.args-2.ensures.trees)))

pub id_at-right-requires : goal.id_at-right-requires
id_at-right-requires c =
    let s = c.args.store.now in
    let e = c.args.equation.right in
    omega (arith, c.requires.more, operands-many (stored s) (λ (i : Id). tree_of s i.0) c.args-3.result.now e (sym (operand-trees s c.args-3.result.now (tree_of s e.0) c.args-3.ensures.trees)))

pub returns-clause-ids : goal.returns-clause-ids
returns-clause-ids c = (
  is-in-at c.args.store.now c.args-2.result.now c.args.equation.next c.id_at-left.result c.args-2.ensures.ids c.id_at-left.ensures,
  is-in-at c.args.store.now c.args-3.result.now c.args.equation.next c.id_at-right.result c.args-3.ensures.ids c.id_at-right.ensures,
)

pub returns-clause-side : goal.returns-clause-side
returns-clause-side c xs =
    let s = c.args.store.now in
    let e = c.args.equation in
    next-come (stored s) (λ (i : Id). tree_of s i.0) e c.args-2.result.now c.args-3.result.now c.id_at-left.result c.id_at-right.result
    (sym (operand-trees s c.args-2.result.now (tree_of s e.left.0) c.args-2.ensures.trees)) (sym (operand-trees s c.args-3.result.now (tree_of s e.right.0) c.args-3.ensures.trees)) c.id_at-left.ensures c.id_at-right.ensures xs
