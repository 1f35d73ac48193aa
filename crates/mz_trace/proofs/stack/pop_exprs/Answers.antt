use Rattle.std.proofs.Common.{◌≡◌, ℕ, ◌+◌, ◌++◌, ◌∷◌, [], List, length, refl, sym, ap, ◌∙◌, arith, length-append}
use Rattle.std.specs.Prelude.{reverse}
use Rattle.std.proofs.lemmas.List.{length-reverse, reverse-reverse}
use Rattle.mz_trace.specs.Entries.{exprs_onto}
use Rattle.mz_trace.proofs.Popping.{has-expr, exprs-left, exprs-more}
use Rattle.mz_trace.proofs.stack.pop_exprs.Goals as goal

pub operands-init : goal.operands-init
operands-init c =
    let (ns, ys, is, many) = c.requires in
    (ap length c.new-taken.ensures.items, rw c.new-taken.ensures.items refl, (ns, ys, is, omega (arith, many)))

pub pop_expr-requires : goal.pop_expr-requires
pop_expr-requires c =
    let (ns, ys, is, many) = c.operands.invariant.2 in
    has-expr (reverse c.operands.stack.items) c.operands.i c.args.count c.operands-test.true ns ys is many

pub operands-preserved : goal.operands-preserved
operands-preserved c =
    let (ns, ys, is, many) = c.operands.invariant.2 in
    let taken : c.push.new.self.items ≡ c.operands.taken.items ++ c.pop_expr.result ∷ [] = c.in_ok-push.ensures.items in
    let count : length c.push.new.self.items ≡ c.operands.i + 1 = omega (arith, ap length taken, length-append c.operands.taken.items (c.pop_expr.result ∷ []), c.operands.invariant.0) in (
      count,
      c.operands.invariant.1 ∙ ap (exprs_onto c.operands.taken.items) c.pop_expr.ensures ∙ sym (exprs-more c.operands.taken.items c.pop_expr.result (reverse c.pop_expr.new.stack.items))
          ∙ ap (λ ms. exprs_onto ms (reverse c.pop_expr.new.stack.items)) (sym taken),
      exprs-left (reverse c.operands.stack.items) c.operands.i c.args.count c.operands-test.true c.pop_expr.result (reverse c.pop_expr.new.stack.items) ns ys c.pop_expr.ensures is many,
    )

pub returns-clause-taken : goal.returns-clause-taken
returns-clause-taken c =
    c.operands.invariant.1 ∙ ap (λ ms. exprs_onto ms (reverse c.operands.stack.items)) (sym (ap (λ (ms : List ℕ). reverse ms) c.reverse.ensures.items ∙ reverse-reverse c.operands.taken.items))

pub returns-clause-many : goal.returns-clause-many
returns-clause-many c =
    let (ns, ys, is, many) = c.operands.invariant.2 in
    let same : length c.reverse.new.self.items ≡ c.args.count = omega (arith, ap length c.reverse.ensures.items, length-reverse c.operands.taken.items, c.operands.invariant.0, c.operands-test.false, many) in
    same
