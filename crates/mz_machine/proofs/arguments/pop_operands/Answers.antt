use Rattle.std.proofs.Common.{◌≡◌, ℕ, ◌-◌, ◌++◌, length, take, drop, Err, Ok, sym, subst, ◌∙◌, arith}
use Rattle.std.proofs.lemmas.List.{take-append-drop, length-drop}
use Rattle.std.proofs.lemmas.Result.{err_from_is_err_and}
use Rattle.mz_unify.specs.Stored.{items_at, AreItemsIn}
use Rattle.mz_unify.proofs.Offered.{items-in-left, items-in-right}
use Rattle.mz_machine_theory.specs.Premises.{pop_operands}
use Rattle.mz_machine.proofs.Stopping.{stops-as}
use Rattle.mz_machine.proofs.ReadExprs.{exprs-many, operands-read, read-of}
use Rattle.mz_machine.proofs.StoredItems.{exprs-in, of-store}
use Rattle.mz_machine.proofs.arguments.pop_operands.Goals as goal

pub returns-in_err-read_exprs-clause-taken : goal.returns-in_err-read_exprs-clause-taken
returns-in_err-read_exprs-clause-taken c =
    let s = c.args.store.now in
    let stack = c.args.stack.now.items in
    let below : ℕ = c.len-2.result - c.args.count in
    let top = drop below stack in
    let split : stack ≡ take below stack ++ top = sym (take-append-drop below stack) in
    let many : c.args.count ≡ length top = omega (arith, length-drop below stack, c.len.ensures, c.len-2.ensures, c.args.stack.now.ok.0, c.if-len-count.false) in
    let p = err_from_is_err_and c.from_residual.result c.from_residual.ensures.1 in
    rw (p.1, p.2) (stops-as c.in_err-read_exprs.field-0.0 _ (λ k. pop_operands c.args.count (items_at s stack) ≡ Err k)
    (λ k h. operands-read (of-store s) stack (take below stack) top c.args.count (Err k) split many
    (read-of c.deref.result.now stack below (Err k) c.deref.ensures.value h)) c.in_err-read_exprs.ensures)

pub returns-clause-ids : goal.returns-clause-ids
returns-clause-ids c =
    let s = c.args.store.now in
    let stack = c.args.stack.now.items in
    let below : ℕ = c.len-2.result - c.args.count in
    let top = drop below stack in
    let ids = c.read_exprs.new.ids.items in
    let split : stack ≡ take below stack ++ top = sym (take-append-drop below stack) in
    let inside = subst (AreItemsIn s) split c.requires in (
      exprs-in s top ids
          (read-of c.deref.result.now stack below (Ok ids) c.deref.ensures.value c.in_ok-read_exprs.ensures) (items-in-right s (take below stack) top inside),
      rw c.truncate.ensures.items (items-in-left s (take below stack) top inside),
    )

pub returns-clause-many : goal.returns-clause-many
returns-clause-many c =
    let stack = c.args.stack.now.items in
    let below : ℕ = c.len-2.result - c.args.count in
    let top = drop below stack in
    let ids = c.read_exprs.new.ids.items in
    let many : c.args.count ≡ length top = omega (arith, length-drop below stack, c.len.ensures, c.len-2.ensures, c.args.stack.now.ok.0, c.if-len-count.false) in
    exprs-many top ids
    (read-of c.deref.result.now stack below (Ok ids) c.deref.ensures.value c.in_ok-read_exprs.ensures) ∙ sym many

pub returns-clause-taken : goal.returns-clause-taken
returns-clause-taken c =
    let s = c.args.store.now in
    let stack = c.args.stack.now.items in
    let below : ℕ = c.len-2.result - c.args.count in
    let top = drop below stack in
    let ids = c.read_exprs.new.ids.items in
    let split : stack ≡ take below stack ++ top = sym (take-append-drop below stack) in
    let many : c.args.count ≡ length top = omega (arith, length-drop below stack, c.len.ensures, c.len-2.ensures, c.args.stack.now.ok.0, c.if-len-count.false) in
    rw c.truncate.ensures.items
    (operands-read (of-store s) stack (take below stack) top c.args.count (Ok ids) split many
    (read-of c.deref.result.now stack below (Ok ids) c.deref.ensures.value c.in_ok-read_exprs.ensures))
