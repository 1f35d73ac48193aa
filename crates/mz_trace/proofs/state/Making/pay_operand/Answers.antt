use Rattle.std.proofs.Common.{◌≡◌, ◌∷◌, refl, ap, ◌∙◌}
use Rattle.std.specs.Prelude.{reverse}
use Rattle.mz_trace.specs.Commands.{stage_of, on_stack, with_stack, with_node}
use Rattle.mz_trace.specs.declared.node.RunNode.TheVariants as node
use Rattle.mz_trace.specs.declared.entry.Entry.TheVariants.{Owed, ForOperand}
use Rattle.mz_trace.proofs.Paying.{paid-by, passed-on, next-operand, through-operands, with_both-is, shorter}
use Rattle.mz_trace.proofs.state.Making.pay_operand.Goals as goal

pub returns-in_ok-push-in-Some-2 : goal.returns-in_ok-push-in-Some-2
returns-in_ok-push-in-Some-2 c =
    let s = stage_of c.args.self.now in
    let xs = reverse c.args.self.now.stack.items in
    let f = c.in-Some.first in
    let o = c.in-Some.other in
    let e = ForOperand c.args.term c.args.done c.args.left in
    let stacked : reverse c.push-in-Some-2.new.stack.items ≡ Owed f o ∷ ForOperand c.args.term c.push.new.self c.pop_pair.new.sides ∷ xs =
    c.in_ok-push-in-Some-2.ensures ∙ ap (λ zs. Owed f o ∷ zs) c.in_ok-push-in-Some.ensures in
    paid-by (on_stack s e) (e ∷ xs) c.args.paid (with_stack s (reverse c.push-in-Some-2.new.stack.items))
    (with_stack s (Owed f o ∷ ForOperand c.args.term c.push.new.self c.pop_pair.new.sides ∷ xs)) refl (ap (with_stack s) stacked)
    (next-operand s xs c.args.paid c.args.term c.args.done c.push.new.self c.in_ok-push.ensures.items c.args.left c.pop_pair.new.sides f o c.in-Some.ensures.some)

pub returns-in_ok-add-in-None : goal.returns-in_ok-add-in-None
returns-in_ok-add-in-None c =
    let s = stage_of c.args.self.now in
    let xs = reverse c.args.self.now.stack.items in
    let e = ForOperand c.args.term c.args.done c.args.left in
    let whole = with_node (with_stack s xs) (node.Cong c.args.term c.push.new.self) in (
      rw c.in_ok-add-in-None.ensures.number (passed-on (on_stack s e) (e ∷ xs) c.args.paid (record s { nodes = c.add.new.nodes.items; stack = xs }) whole _ refl
          (with_both-is s c.add.new.nodes.items xs (node.Cong c.args.term c.push.new.self) c.in_ok-add-in-None.ensures.added)
          (through-operands s xs c.args.paid c.args.term c.args.done c.push.new.self c.in_ok-push.ensures.items c.args.left c.in-None.ensures.none)),
      shorter (e ∷ xs) xs e refl,
    )
