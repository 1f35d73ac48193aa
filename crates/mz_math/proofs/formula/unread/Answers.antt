use Rattle.std.proofs.Common.{◌≤◌, Some, sym, subst, refl, length, inl, inr, arith}
use Rattle.std.proofs.lemmas.List.{length-map}
use Rattle.mz_base.specs.Checks.{AllHold}
use Rattle.mz_lex.specs.declared.rule.S.TheVariants as rules
use Rattle.mz_lex.specs.MathTokens.{token_text, token_texts}
use Rattle.mz_math_theory.specs.FormulaAnswers.{IsFirstUnknown}
use Rattle.mz_math_theory.specs.Grammar.{Exp}
use Rattle.mz_math_theory.specs.Formula.{words, most, known_checks, IsParsed, breaks}
use Rattle.mz_math_theory.proofs.Offered.{unknown-first, known-then}
use Rattle.mz_math.proofs.formula.unread.Goals as goal

pub returns-in-Some : goal.returns-in-Some
returns-in-Some c = λ r wanted is pieces.
    let text = c.args.text.now in
    let ps = c.args.pieces.now in
    unknown-first r wanted text ps pieces c.in-Some.at (subst (λ ws. IsFirstUnknown ws text ps (Some c.in-Some.at)) (sym is) c.in-Some.ensures)

pub returns-then-pieces-gt-MOST : goal.returns-then-pieces-gt-MOST
returns-then-pieces-gt-MOST c = λ r wanted is pieces.
    let text = c.args.text.now in
    let ps = c.args.pieces.now in
    let known : AllHold (known_checks (words r) text ps) = subst (λ ws. AllHold (known_checks ws text ps)) (sym is) c.in_default.ensures in
    let many = length-map ps (token_text text) in
    subst (IsParsed r wanted text) (sym c.refused.ensures)
    (known-then r wanted text ps pieces known (breaks rules.Depth) (inl ((λ few. absurd (omega (arith, few, many, c.if-pieces-gt-MOST.true))), refl)))

pub returns : goal.returns
returns c = λ r wanted is pieces.
    let text = c.args.text.now in
    let ps = c.args.pieces.now in
    let known : AllHold (known_checks (words r) text ps) = subst (λ ws. AllHold (known_checks ws text ps)) (sym is) c.in_default.ensures in
    let many = length-map ps (token_text text) in
    let few : length (token_texts text ps) ≤ most = omega (arith, many, c.if-pieces-gt-MOST.false) in
    subst (IsParsed r wanted text) (sym c.refused-2.ensures)
    (known-then r wanted text ps pieces known (breaks rules.MathSyntax)
    (inr (few, inl ((λ h. c.requires.no_tree few h.0 (subst (λ ws. Exp ws 0 h.0 (token_texts text ps)) is h.1)), refl))))
