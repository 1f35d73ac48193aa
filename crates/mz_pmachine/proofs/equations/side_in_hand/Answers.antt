use Rattle.std.proofs.Common.{arith, sym}
use Rattle.mz_store.specs.declared.item.Id.{Id}
use Rattle.mz_pmachine_unify.specs.Numbering.{expr_of}
use Rattle.mz_pmachine_unify.proofs.Offered.{is-in-at}
use Rattle.mz_machine.proofs.Offered.{next-come, operands-many}
use Rattle.mz_pmachine.specs.OpenNodes.{of_nodes}
use Rattle.mz_pmachine.proofs.Converting.{operand-exprs}
use Rattle.mz_pmachine.proofs.equations.side_in_hand.Goals as goal

pub id_at-left-requires : goal.id_at-left-requires
id_at-left-requires c =
    let s = c.args.nodes.now in
    let e = c.args.equation.left in
    omega (arith, c.requires.more, operands-many (of_nodes s) (λ (i : Id). expr_of s i.0) c.args-2.result.now e (sym (operand-exprs s c.args-2.result.now (expr_of s e.0) c.args-2.ensures.exprs)))

pub id_at-right-requires : goal.id_at-right-requires
id_at-right-requires c =
    let s = c.args.nodes.now in
    let e = c.args.equation.right in
    omega (arith, c.requires.more, operands-many (of_nodes s) (λ (i : Id). expr_of s i.0) c.args-3.result.now e (sym (operand-exprs s c.args-3.result.now (expr_of s e.0) c.args-3.ensures.exprs)))

pub returns-clause-ids : goal.returns-clause-ids
returns-clause-ids c = (
  is-in-at c.args.nodes.now c.args-2.result.now c.args.equation.next c.id_at-left.result c.args-2.ensures.ids c.id_at-left.ensures,
  is-in-at c.args.nodes.now c.args-3.result.now c.args.equation.next c.id_at-right.result c.args-3.ensures.ids c.id_at-right.ensures,
)

pub returns-clause-side : goal.returns-clause-side
returns-clause-side c xs =
    let s = c.args.nodes.now in
    let e = c.args.equation in
    next-come (of_nodes s) (λ (i : Id). expr_of s i.0) e c.args-2.result.now c.args-3.result.now c.id_at-left.result c.id_at-right.result
    (sym (operand-exprs s c.args-2.result.now (expr_of s e.left.0) c.args-2.ensures.exprs)) (sym (operand-exprs s c.args-3.result.now (expr_of s e.right.0) c.args-3.ensures.exprs)) c.id_at-left.ensures c.id_at-right.ensures xs
