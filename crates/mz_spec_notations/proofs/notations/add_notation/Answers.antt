use Rattle.std.proofs.Common.{◌∙◌, ◌<◌, ◌^◌, ◌++◌, ◌∷◌, [], ℕ, map, Err, ap, subst, sym}
use Rattle.std.specs.Prelude.{option_map}
use Rattle.std.proofs.lemmas.Result.{err_from_is_err_and}
use Rattle.mz_base.specs.Checks.{AllHold, FailsFirst, each_in_order}
use Rattle.mz_spec_theory.specs.StatementCode.{head, literal, notation, tail, type_text}
use Rattle.mz_spec_theory.specs.Reading.{OnFault}
use Rattle.mz_spec_rules.specs.Answers.{JudgesStatement}
use Rattle.mz_spec_rules.specs.Entries.{state}
use Rattle.mz_spec_rules.specs.Noting.{IsNumeral}
use Rattle.mz_spec_notations.specs.Noting.{literals_size}
use Rattle.mz_spec_theory.specs.Dependencies.{Every}
use Rattle.mz_spec_theory.specs.Rules.{is_level}
use Rattle.mz_spec_theory.specs.View.{literal_levels}
use Rattle.mz_spec_notations.proofs.Numerals.{notation-numerals}
use Rattle.mz_spec_notations.proofs.Sizes.{notation-size}
use Rattle.mz_spec_notations.proofs.Noted.{general-literals, general-tail}
use Rattle.mz_spec_notations.proofs.notations.add_notation.Goals as goal

pub of-requires-clause-small : goal.of-requires-clause-small
of-requires-clause-small c =
    let n = c.args.notation.now in
    subst (λ xs. literals_size (map literal xs ++ literal n.last ∷ []) < 2 ^ 32) (sym c.deref.ensures.value)
    (notation-size (head n.head) (type_text n.result) (map literal n.literals.items) (literal n.last) (option_map tail n.tail) c.requires.spelled)

pub of-requires-clause-numerals : goal.of-requires-clause-numerals
of-requires-clause-numerals c =
    let n = c.args.notation.now in
    subst (λ xs. Every IsNumeral (literal_levels (map literal xs ++ literal n.last ∷ []))) (sym c.deref.ensures.value)
    (notation-numerals (head n.head) (type_text n.result) (map literal n.literals.items) (literal n.last) (option_map tail n.tail) c.requires.spelled).0

pub tail_of-requires : goal.tail_of-requires
tail_of-requires c =
    let n = c.args.notation.now in
    (notation-numerals (head n.head) (type_text n.result) (map literal n.literals.items) (literal n.last) (option_map tail n.tail) c.requires.spelled).1

pub returns-in_err-literals-clause-judged : goal.returns-in_err-literals-clause-judged
returns-in_err-literals-clause-judged c =
    let σ = state c.args.state.now in
    let n = c.args.notation.now in
    let s = notation n in
    let halt = c.in_err-literals.field-0.0 in
    let p = err_from_is_err_and c.from_residual.result c.from_residual.ensures.1 in
    subst (λ r. JudgesStatement r σ c.args.place s) (sym (p.1 ∙ ap Err p.2))
    (general-literals σ c.args.place (head n.head) (type_text n.result) (map literal n.literals.items) (literal n.last) (option_map tail n.tail) ℕ halt
    (subst (λ xs. OnFault halt (FailsFirst (each_in_order is_level (literal_levels (map literal xs ++ literal n.last ∷ []))))) c.deref.ensures.value c.in_err-literals.ensures.judged))

pub returns-in_err-tail-clause-judged : goal.returns-in_err-tail-clause-judged
returns-in_err-tail-clause-judged c =
    let σ = state c.args.state.now in
    let n = c.args.notation.now in
    let s = notation n in
    let lits = subst (λ xs. AllHold (each_in_order is_level (literal_levels (map literal xs ++ literal n.last ∷ [])))) c.deref.ensures.value c.in_ok-literals.ensures.judged in
    let p = err_from_is_err_and c.from_residual-in_err-tail.result c.from_residual-in_err-tail.ensures.1 in
    subst (λ r. JudgesStatement r σ c.args.place s) (sym (p.1 ∙ ap Err p.2))
    (general-tail σ c.args.place (head n.head) (type_text n.result) (map literal n.literals.items) (literal n.last) (option_map tail n.tail) ℕ c.in_err-tail.field-0.0 lits c.in_err-tail.ensures.judged)

pub notation_with-requires-clause-levels : goal.notation_with-requires-clause-levels
notation_with-requires-clause-levels c =
    let n = c.args.notation.now in
    subst (λ xs. AllHold (each_in_order is_level (literal_levels (map literal xs ++ literal n.last ∷ [])))) c.deref.ensures.value c.in_ok-literals.ensures.judged
