use Rattle.std.proofs.Common.{◌≡◌, ◌∷◌, length, refl, ◌∙◌, subst}
use Rattle.std.specs.Prelude.{reverse}
use Rattle.mz_trace.specs.Commands.{stage_of, MayPay, with_stack, with_node}
use Rattle.mz_trace.specs.declared.node.RunNode.TheVariants as node
use Rattle.mz_trace.specs.declared.entry.Item.TheVariants.{Proof}
use Rattle.mz_trace.specs.declared.entry.Entry.TheVariants.{Held, ForProof, ForTurned, ForOperand, ForUnfolded}
use Rattle.mz_trace.proofs.Paying.{paid-by, passed-on, into-proof, through-turned, through-unfolded, with_both-is, shorter, top-of}
use Rattle.mz_trace.proofs.state.Making.pay_one.Goals as goal

pub returns-in_ok-hold-in-Some-ForProof : goal.returns-in_ok-hold-in-Some-ForProof
returns-in_ok-hold-in-Some-ForProof c =
    let s = stage_of c.args.self.now in
    let e = c.in-Some-ForProof.claim in
    let p = c.in-Some-ForProof.from in
    let xs = reverse c.pop.new.self.items in
    let top : s.stack ≡ ForProof e p ∷ xs = top-of c.args.self.now.stack.items c.pop.new.self.items c.in-Some-ForProof.field-0 (ForProof e p) c.in-Some-ForProof.ensures.items c.in-Some-ForProof.field-0-is in
    let n = node.Conv e c.args.paid p in
    let held : stage_of c.hold.new.self ≡ with_stack (with_node s n) (Held (Proof e (length s.nodes)) ∷ xs) =
    c.in_ok-hold-in-Some-ForProof.ensures
    ∙ (rw (c.in_ok-proof-in-Some-ForProof.ensures.number, c.in_ok-proof-in-Some-ForProof.ensures.added) refl) in
    paid-by s (ForProof e p ∷ xs) c.args.paid (stage_of c.hold.new.self) (with_stack (with_node s n) (Held (Proof e (length s.nodes)) ∷ xs)) top held
    (λ tables params made is. into-proof tables params s xs e p c.args.paid made is)

pub returns-in_ok-add-in-Some-ForTurned : goal.returns-in_ok-add-in-Some-ForTurned
returns-in_ok-add-in-Some-ForTurned c =
    let s = stage_of c.args.self.now in
    let xs = reverse c.pop.new.self.items in
    let top : s.stack ≡ ForTurned ∷ xs = top-of c.args.self.now.stack.items c.pop.new.self.items c.in-Some-ForTurned.field-0 ForTurned c.in-Some-ForTurned.ensures.items c.in-Some-ForTurned.field-0-is in
    let n = node.Sym c.args.paid in (
      rw c.in_ok-add-in-Some-ForTurned.ensures.number (passed-on s (ForTurned ∷ xs) c.args.paid (record s { nodes = c.add-in-Some-ForTurned.new.nodes.items; stack = xs }) (with_node (with_stack s xs) n) _ top
          (with_both-is s c.add-in-Some-ForTurned.new.nodes.items xs n c.in_ok-add-in-Some-ForTurned.ensures.added)
          (through-turned s xs c.args.paid)),
      shorter s.stack xs ForTurned top,
    )

pub returns-in_ok-whole-in-Some-ForUnfolded : goal.returns-in_ok-whole-in-Some-ForUnfolded
returns-in_ok-whole-in-Some-ForUnfolded c =
    let s = stage_of c.args.self.now in
    let xs = reverse c.pop.new.self.items in
    let t = c.in-Some-ForUnfolded.term in
    let e = c.in-Some-ForUnfolded.target in
    let es = c.in-Some-ForUnfolded.operands in
    let ys = c.in-Some-ForUnfolded.met in
    let x = ForUnfolded t e es ys in
    let top : s.stack ≡ x ∷ xs = top-of c.args.self.now.stack.items c.pop.new.self.items c.in-Some-ForUnfolded.field-0 x c.in-Some-ForUnfolded.ensures.items c.in-Some-ForUnfolded.field-0-is in
    let n = node.Unfold t e es ys c.args.paid in (
      rw c.in_ok-whole-in-Some-ForUnfolded.ensures.number (passed-on s (x ∷ xs) c.args.paid (record s { nodes = c.add-in-Some-ForUnfolded.new.nodes.items; stack = xs }) (with_node (with_stack s xs) n) _ top
          (with_both-is s c.add-in-Some-ForUnfolded.new.nodes.items xs n c.in_ok-whole-in-Some-ForUnfolded.ensures.added)
          (through-unfolded s xs c.args.paid t e es ys)),
      shorter s.stack xs x top,
    )

pub pay_operand-requires : goal.pay_operand-requires
pay_operand-requires c =
    let s = stage_of c.args.self.now in
    let xs = reverse c.pop.new.self.items in
    let x = ForOperand c.in-Some-ForOperand.term c.in-Some-ForOperand.done c.in-Some-ForOperand.left in
    let top : s.stack ≡ x ∷ xs = top-of c.args.self.now.stack.items c.pop.new.self.items c.in-Some-ForOperand.field-0 x c.in-Some-ForOperand.ensures.items c.in-Some-ForOperand.field-0-is in
    subst (λ zs. MayPay (with_stack s zs) c.args.paid) top c.requires
