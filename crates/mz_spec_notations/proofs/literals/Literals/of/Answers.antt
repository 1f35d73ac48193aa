use Rattle.std.proofs.Common.{◌≡◌, ◌≤◌, ◌∙◌, ◌++◌, ◌∷◌, ℕ, List, [], length, drop, map, Err, ap, arith, sym, subst}
use Rattle.std.proofs.lemmas.List.{append-nil}
use Rattle.std.proofs.lemmas.Result.{err_from_is_err_and}
use Rattle.mz_base.proofs.Offered.{drop-past}
use Rattle.mz_base.specs.Checks.{AllHold, FailsFirst}
use Rattle.mz_spec_theory.specs.Statement.{LiteralText}
use Rattle.mz_spec_theory.specs.declared.statement.LiteralText.{LiteralText as LiteralRead}
use Rattle.mz_spec_theory.specs.Reading.{OnFault}
use Rattle.mz_spec_theory.specs.Dependencies.{Every}
use Rattle.mz_spec_theory.specs.View.{literal_levels}
use Rattle.mz_spec_theory.specs.Forms.{AreLiterals}
use Rattle.mz_spec_rules.specs.Noting.{IsNumeral}
use Rattle.mz_spec_notations.specs.Noting.{literals_size}
use Rattle.mz_spec_theory.proofs.Offered.{mem-decided}
use Rattle.mz_spec_theory.specs.StatementCode.{literal}
use Rattle.mz_spec_rules.specs.Answers.{JudgesOrMem}
use Rattle.mz_spec_notations.proofs.Spans.{levels_in, levels-passed, numeral-here, numerals-passed, push-halt, size-here, size-passed, spans-passed}
use Rattle.mz_spec_notations.proofs.literals.Literals.of.Goals as goal

pub push-requires-clause-numerals : goal.push-requires-clause-numerals
push-requires-clause-numerals c =
    let xs = c.args.literals.now in
    let last = literal c.args.last in
    numeral-here xs c.loop-literal.literal-index last (levels_in (map literal xs ++ last ∷ [])) _ c.loop-literal-test.true c.loop-literal.invariant.numerals

pub push-requires-clause-small : goal.push-requires-clause-small
push-requires-clause-small c =
    let xs = c.args.literals.now in
    let last = literal c.args.last in
    size-here xs c.loop-literal.literal-index last (levels_in (map literal xs ++ last ∷ [])) _ c.loop-literal-test.true _ _ _ c.loop-literal.invariant.size c.requires.small

pub returns-in_err-push-clause-judged : goal.returns-in_err-push-clause-judged
returns-in_err-push-clause-judged c =
    let xs = c.args.literals.now in
    let last = literal c.args.last in
    let whole = levels_in (map literal xs ++ last ∷ []) in
    let halt = c.in_err-push.field-0.0 in
    let p = err_from_is_err_and c.from_residual.result c.from_residual.ensures.1 in
    subst (λ r. JudgesOrMem r whole) (sym (p.1 ∙ ap Err p.2)) (push-halt xs c.loop-literal.literal-index last whole _ halt c.loop-literal-test.true c.loop-literal.invariant.left c.in_err-push.ensures.judged)

pub loop-literal-preserved : goal.loop-literal-preserved
loop-literal-preserved c =
    let xs = c.args.literals.now in
    let i = c.loop-literal.literal-index in
    let last = literal c.args.last in
    let whole = levels_in (map literal xs ++ last ∷ []) in
    let within = c.loop-literal-test.true in
    let (ls, are, so_far) = c.loop-literal.invariant.spans in
    record {
      spans = (_, c.in_ok-push.ensures.literals ls are, spans-passed xs i last whole _ within ls so_far);
      numerals = numerals-passed xs i last whole c.args.last within c.loop-literal.invariant.numerals;
      size = size-passed xs i last whole _ within _ _ _ c.loop-literal.invariant.size c.in_ok-push.ensures.size;
      left = levels-passed xs i last whole _ within c.loop-literal.invariant.left c.in_ok-push.ensures.judged;
    }

-- behind the loop
ended : (xs : List LiteralRead) (i : ℕ) (last : LiteralText) → length xs ≤ i → map literal (drop i xs) ++ last ∷ [] ≡ last ∷ []
ended xs i last past = ap (λ ys. map literal ys ++ last ∷ []) (drop-past xs i past)

pub push-requires-2-clause-numerals : goal.push-requires-2-clause-numerals
push-requires-2-clause-numerals c =
    subst (λ ls. Every IsNumeral (literal_levels ls)) (ended c.args.literals.now c.loop-literal.literal-index (literal c.args.last) c.loop-literal-test.false) c.loop-literal.invariant.numerals

pub push-requires-2-clause-small : goal.push-requires-2-clause-small
push-requires-2-clause-small c =
    let size = ap literals_size (ended c.args.literals.now c.loop-literal.literal-index (literal c.args.last) c.loop-literal-test.false) in
    omega (arith, size, c.loop-literal.invariant.size, c.requires.small)

pub returns-in_err-push-2-clause-judged : goal.returns-in_err-push-2-clause-judged
returns-in_err-push-2-clause-judged c =
    let xs = c.args.literals.now in
    let i = c.loop-literal.literal-index in
    let last = literal c.args.last in
    let whole = levels_in (map literal xs ++ last ∷ []) in
    let halt = c.in_err-push-2.field-0.0 in
    let p = err_from_is_err_and c.from_residual-in_err-push-2.result c.from_residual-in_err-push-2.ensures.1 in
    subst (λ r. JudgesOrMem r whole) (sym (p.1 ∙ ap Err p.2))
    (mem-decided (levels_in (map literal (drop i xs) ++ last ∷ [])) whole halt c.loop-literal.invariant.left
    (subst (λ ls. OnFault halt (FailsFirst (levels_in ls))) (sym (ended xs i last c.loop-literal-test.false)) c.in_err-push-2.ensures.judged))

pub returns-clause-judged : goal.returns-clause-judged
returns-clause-judged c =
    c.loop-literal.invariant.left.holds (subst (λ ls. AllHold (levels_in ls)) (sym (ended c.args.literals.now c.loop-literal.literal-index (literal c.args.last) c.loop-literal-test.false)) c.in_ok-push-2.ensures.judged)

pub returns-clause-literals : goal.returns-clause-literals
returns-clause-literals c =
    let xs = c.args.literals.now in
    let i = c.loop-literal.literal-index in
    let last = literal c.args.last in
    let (ls, are, so_far) = c.loop-literal.invariant.spans in
    let all = sym (append-nil ls) ∙ ap (λ ys. ls ++ map literal ys) (sym (drop-past xs i c.loop-literal-test.false)) ∙ so_far in
    subst (λ ks. AreLiterals c.push-2.new.self.text.items (ks ++ last ∷ []) c.push-2.new.self.spans.items) all (c.in_ok-push-2.ensures.literals ls are)
