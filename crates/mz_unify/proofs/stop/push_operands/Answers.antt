use Rattle.std.proofs.Common.{◌≡◌, ◌≤◌, ◌<◌, ℕ, zero, suc, ◌-◌, List, [], ◌∷◌, ◌++◌, length, drop, get_or, sym, ap, ◌∙◌, arith, append_assoc, drop-cons}
use Rattle.std.specs.Prelude.{reverse}
use Rattle.std.proofs.lemmas.List.{append-nil, drop_all, reverse-append}
use Rattle.mz_store.specs.declared.item.Id.{Id}
use Rattle.mz_unify.proofs.stop.push_operands.Goals as goal

pub operands-init : goal.operands-init
operands-init c =
    let old = c.args.targets.now.items in
    let all : length c.args.operands.now ≤ length c.args.operands.now = omega arith in
    (all, sym (ap (λ (xs : List Id). old ++ reverse xs) (drop_all (length c.args.operands.now) c.args.operands.now all) ∙ append-nil old))

pub operands-preserved : goal.operands-preserved
operands-preserved c =
    let old = c.args.targets.now.items in
    let ops = c.args.operands.now in
    let k : ℕ = c.operands.at - 1 in
    let d : Id = record { 0 = 0 } in
    let x = get_or ops k d in
    let rest = drop c.operands.at ops in
    let here : k < length ops = omega (arith, c.operands.invariant.0, c.operands-test.true) in
    let one : suc k ≡ c.operands.at = omega (arith, c.operands-test.true) in
    let front : drop k ops ≡ x ∷ rest = drop-cons ops k d here ∙ ap (λ (n : ℕ). x ∷ drop n ops) one in
    let within : k ≤ length ops = omega (arith, here) in (
      within,
      c.in_ok-push.ensures.ok
          ∙ ap (λ (xs : List Id). xs ++ x ∷ []) c.operands.invariant.1
          ∙ append_assoc old (reverse rest) (x ∷ [])
          ∙ ap (λ (xs : List Id). old ++ xs) (sym (reverse-append (x ∷ []) rest))
          ∙ ap (λ (xs : List Id). old ++ reverse xs) (sym front),
    )

pub returns-clause-ok : goal.returns-clause-ok
returns-clause-ok c =
    let none : c.operands.at ≡ zero = omega (arith, c.operands-test.false) in
    c.operands.invariant.1 ∙ ap (λ (n : ℕ). c.args.targets.now.items ++ reverse (drop n c.args.operands.now)) none
