use Rattle.std.proofs.Common.{◌∙◌, [], map, get_or, Err, ap, sym, subst}
use Rattle.std.proofs.lemmas.Result.{err_from_is_err_and}
use Rattle.mz_base.proofs.Offered.{drop-past}
use Rattle.mz_base.specs.Checks.{AllHold, FailsFirst, retold}
use Rattle.mz_spec_theory.specs.StatementCode.{lexeme}
use Rattle.mz_spec_theory.specs.Reading.{OnFault}
use Rattle.mz_math_theory.specs.Notation.{Variables}
use Rattle.mz_math_theory.specs.Formula.{Reader, IsFormula, formula_checks}
use Rattle.mz_math_theory.specs.declared.wanted.Wanted.TheVariants.{Provable as provable}
use Rattle.mz_spec_rules.specs.Answers.{JudgesOrMem}
use Rattle.mz_spec_theory.specs.SpecCode.{EndsSmall, stated}
use Rattle.mz_spec_rules.specs.Entries.{state}
use Rattle.mz_spec_theory.specs.Formulas.{AreHyps, inner, told, strings_checks}
use Rattle.mz_spec_theory.specs.View.{stated_claim}
use Rattle.mz_lex.specs.declared.token.TokenKind.TheVariants as kinds
use Rattle.mz_spec_theory.specs.declared.stated.Stated.{Stated as StatedRead}
use Rattle.mz_spec_theory.proofs.Offered.{item-is}
use Rattle.mz_spec_declarations.proofs.Hyps.{left-step, left-fail, small-step, meant-step, hyps-end}
use Rattle.mz_spec_declarations.proofs.formulas.hyps_of.Goals as goal

pub returns-in_err-push_hyp-clause-judged : goal.returns-in_err-push_hyp-clause-judged
returns-in_err-push_hyp-clause-judged c = λ vs same tokens are.
    let σ = state c.args.state.now in
    let d : StatedRead = record { math = record { kind = kinds.Symbol; bytes = record { ref_ptr = (0, 0); now = [] }; from = 0; to = 0 }; times = 0 } in
    let x = get_or c.args.stated.now c.loop-hyp.hyp-index d in
    let item = item-is c.args.stated.now c.loop-hyp.hyp-index d c.loop-hyp-test.true in
    let whole = strings_checks σ vs (map stated_claim (map stated c.args.stated.now)) tokens in
    let halt = c.in_err-push_hyp.field-0.0 in
    let p = err_from_is_err_and c.from_residual.result c.from_residual.ensures.1 in
    let reads : Variables → Reader = λ scope. record { env = σ.env; table = σ.table; scope = scope } in
    subst (λ r. JudgesOrMem r whole) (sym (p.1 ∙ ap Err p.2))
    (left-fail σ vs c.args.stated.now c.loop-hyp.hyp-index x c.loop-hyp-test.true item whole halt (c.loop-hyp.invariant.judged vs same tokens are)
    (λ ps cut. subst (λ scope. OnFault halt (FailsFirst (retold (told (lexeme x.math)) (formula_checks (reads scope) provable (inner (lexeme x.math)) ps)))) same (c.in_err-push_hyp.ensures.judged ps cut)))

pub loop-hyp-preserved : goal.loop-hyp-preserved
loop-hyp-preserved c =
    let σ = state c.args.state.now in
    let d : StatedRead = record { math = record { kind = kinds.Symbol; bytes = record { ref_ptr = (0, 0); now = [] }; from = 0; to = 0 }; times = 0 } in
    let x = get_or c.args.stated.now c.loop-hyp.hyp-index d in
    let item = item-is c.args.stated.now c.loop-hyp.hyp-index d c.loop-hyp-test.true in
    let reads : Variables → Reader = λ scope. record { env = σ.env; table = σ.table; scope = scope } in
    record {
      small = (small-step σ [] c.args.stated.now c.loop-hyp.hyp-index x c.loop-hyp-test.true item (λ h. EndsSmall h.math) c.loop-hyp.invariant.small).1;
      judged = λ vs same tokens are.
          left-step σ vs c.args.stated.now c.loop-hyp.hyp-index x c.loop-hyp-test.true item (strings_checks σ vs (map stated_claim (map stated c.args.stated.now)) tokens)
          (c.loop-hyp.invariant.judged vs same tokens are)
          (λ ps cut. subst (λ scope. AllHold (retold (told (lexeme x.math)) (formula_checks (reads scope) provable (inner (lexeme x.math)) ps))) same (c.in_ok-push_hyp.ensures.judged ps cut));
      meant = λ vs same.
          meant-step σ vs c.args.stated.now c.loop-hyp.hyp-index x c.loop-hyp-test.true item (map stated c.args.stated.now) c.loop-hyp.hyps _ c.in_ok-push_hyp.ensures.meant.0
          (c.loop-hyp.invariant.meant vs same) (subst (λ scope. IsFormula (reads scope) provable (inner (lexeme x.math)) c.in_ok-push_hyp.ensures.meant.0) same c.in_ok-push_hyp.ensures.meant.1) c.in_ok-push_hyp.ensures.meant.2;
    }

pub returns-clause-meant : goal.returns-clause-meant
returns-clause-meant c = λ vs same.
    let σ = state c.args.state.now in
    hyps-end σ vs (map stated c.args.stated.now) c.loop-hyp.hyps
    (λ rest are. c.loop-hyp.invariant.meant vs same rest (subst (λ xs. AreHyps σ vs (map stated xs) rest) (sym (drop-past c.args.stated.now c.loop-hyp.hyp-index c.loop-hyp-test.false)) are))
