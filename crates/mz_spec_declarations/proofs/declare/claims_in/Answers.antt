use Rattle.std.proofs.Common.{◌∙◌, map, Err, ap, sym, subst}
use Rattle.std.proofs.lemmas.Result.{err_from_is_err_and}
use Rattle.mz_base.specs.Checks.{AllHold, FailsFirst, retold}
use Rattle.mz_spec_theory.specs.StatementCode.{assertion, group, lexeme, source}
use Rattle.mz_spec_theory.specs.Reading.{OnFault}
use Rattle.mz_logic_theory.specs.View.{tree}
use Rattle.mz_math_theory.specs.Notation.{Variables}
use Rattle.mz_math_theory.specs.Formula.{Reader, IsFormula, formula_checks}
use Rattle.mz_math_theory.specs.declared.wanted.Wanted.TheVariants.{Provable as provable}
use Rattle.mz_spec_rules.specs.Answers.{JudgesOrMem}
use Rattle.mz_spec_theory.specs.SpecCode.{EndsSmall}
use Rattle.mz_spec_rules.specs.Entries.{state}
use Rattle.mz_spec_theory.specs.Formulas.{AreHyps, AreTokens, inner, told, strings_checks}
use Rattle.mz_spec_theory.specs.Dependencies.{Every}
use Rattle.mz_spec_theory.specs.View.{claim, stated_claim, stated_of, view}
use Rattle.mz_spec_theory.proofs.Offered.{before-halt, last-halt, all-strings, stated-of_formulas}
use Rattle.mz_spec_declarations.proofs.declare.claims_in.Goals as goal

pub hyps_of-requires : goal.hyps_of-requires
hyps_of-requires c =
    let hs = stated_of (map group c.args.assertion.now.head.groups.items) (map source c.args.assertion.now.premises.items) in
    record { small = subst (Every (λ h. EndsSmall h.math)) (sym c.requires.stated) (stated-of_formulas hs (lexeme c.args.assertion.now.conclusion) c.requires.small).0 }

pub formula-requires : goal.formula-requires
formula-requires c =
    let hs = stated_of (map group c.args.assertion.now.head.groups.items) (map source c.args.assertion.now.premises.items) in
    record { small = (stated-of_formulas hs (lexeme c.args.assertion.now.conclusion) c.requires.small).1 }

pub returns-in_err-hyps-clause-judged : goal.returns-in_err-hyps-clause-judged
returns-in_err-hyps-clause-judged c = λ scope tokens are.
    let σ = state c.args.state.now in
    let v = view (assertion c.args.assertion.now) in
    let hs = stated_of (map group c.args.assertion.now.head.groups.items) (map source c.args.assertion.now.premises.items) in
    let halt = c.in_err-hyps.field-0.0 in
    let p = err_from_is_err_and c.from_residual.result c.from_residual.ensures.1 in
    subst (λ r. JudgesOrMem r (strings_checks σ v.variables v.formulas tokens)) (sym (p.1 ∙ ap Err p.2))
    (before-halt σ v.variables (map stated_claim hs) (claim (lexeme c.args.assertion.now.conclusion)) tokens halt are
    (λ before cut. subst (λ xs. OnFault halt (FailsFirst (strings_checks σ v.variables (map stated_claim xs) before))) c.requires.stated
    (c.in_err-hyps.ensures.judged v.variables scope before (subst (λ xs. AreTokens σ (map stated_claim xs) before) (sym c.requires.stated) cut))))

pub returns-in_err-conclusion-clause-judged : goal.returns-in_err-conclusion-clause-judged
returns-in_err-conclusion-clause-judged c = λ scope tokens are.
    let σ = state c.args.state.now in
    let v = view (assertion c.args.assertion.now) in
    let l = lexeme c.args.assertion.now.conclusion in
    let hs = stated_of (map group c.args.assertion.now.head.groups.items) (map source c.args.assertion.now.premises.items) in
    let halt = c.in_err-conclusion.field-0.0 in
    let reads : Variables → Reader = λ x. record { env = σ.env; table = σ.table; scope = x } in
    let p = err_from_is_err_and c.from_residual-in_err-conclusion.result c.from_residual-in_err-conclusion.ensures.1 in
    subst (λ r. JudgesOrMem r (strings_checks σ v.variables v.formulas tokens)) (sym (p.1 ∙ ap Err p.2))
    (last-halt σ v.variables (map stated_claim hs) (claim l) tokens halt are
    (λ before cut. subst (λ xs. AllHold (strings_checks σ v.variables (map stated_claim xs) before)) c.requires.stated
    (c.in_ok-hyps.ensures.judged v.variables scope before (subst (λ xs. AreTokens σ (map stated_claim xs) before) (sym c.requires.stated) cut)))
    (λ ps cut. subst (λ x. OnFault halt (FailsFirst (retold (told l) (formula_checks (reads x) provable (inner l) ps)))) scope (c.in_err-conclusion.ensures.judged ps cut)))

pub returns-clause-judged : goal.returns-clause-judged
returns-clause-judged c = λ scope tokens are.
    let σ = state c.args.state.now in
    let v = view (assertion c.args.assertion.now) in
    let l = lexeme c.args.assertion.now.conclusion in
    let hs = stated_of (map group c.args.assertion.now.head.groups.items) (map source c.args.assertion.now.premises.items) in
    let reads : Variables → Reader = λ x. record { env = σ.env; table = σ.table; scope = x } in
    all-strings σ v.variables (map stated_claim hs) (claim l) tokens are
    (λ before cut. subst (λ xs. AllHold (strings_checks σ v.variables (map stated_claim xs) before)) c.requires.stated
    (c.in_ok-hyps.ensures.judged v.variables scope before (subst (λ xs. AreTokens σ (map stated_claim xs) before) (sym c.requires.stated) cut)))
    (λ ps cut. subst (λ x. AllHold (retold (told l) (formula_checks (reads x) provable (inner l) ps))) scope (c.in_ok-conclusion.ensures.judged ps cut))

pub returns-clause-claims : goal.returns-clause-claims
returns-clause-claims c = λ scope.
    let σ = state c.args.state.now in
    let v = view (assertion c.args.assertion.now) in
    let l = lexeme c.args.assertion.now.conclusion in
    let reads : Variables → Reader = λ x. record { env = σ.env; table = σ.table; scope = x } in (
      subst (λ xs. AreHyps σ v.variables xs c.in_ok-hyps.hyps) c.requires.stated (c.in_ok-hyps.ensures.meant v.variables scope),
      subst (λ x. IsFormula (reads x) provable (inner l) (tree c.in_ok-conclusion.conclusion)) scope c.in_ok-conclusion.ensures.meant,
    )
