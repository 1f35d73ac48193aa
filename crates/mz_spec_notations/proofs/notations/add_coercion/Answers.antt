use Rattle.std.proofs.Common.{◌∙◌, ℕ, Err, ap, refl, sym, subst}
use Rattle.std.proofs.lemmas.Result.{err_from_is_err_and}
use Rattle.mz_base.specs.Checks.{AllHold, ◌>>◌}
use Rattle.mz_base.proofs.Offered.{all_hold-both, fails-after, fails-before}
use Rattle.mz_spec_theory.specs.StatementCode.{coercion, lexeme}
use Rattle.mz_logic_theory.specs.Declaration.{signatures}
use Rattle.mz_math_theory.specs.Forms.{IsAnswer, coercion_checks}
use Rattle.mz_spec_rules.specs.Answers.{JudgesStatement}
use Rattle.mz_spec_rules.specs.Entries.{state}
use Rattle.mz_spec_theory.specs.Rules.{is_known}
use Rattle.mz_spec_notations.proofs.Noted.{coercion-after, coercion-fault, coercion-holds, coercion-is, coercion-known}
use Rattle.mz_spec_rules.proofs.Offered.{few-sorts}
use Rattle.mz_spec_notations.proofs.notations.add_coercion.Goals as goal

pub sort_number-from-requires : goal.sort_number-from-requires
sort_number-from-requires c = record { few = few-sorts (state c.args.state.now) c.requires.kept c.requires.few }

pub sort_number-to-requires : goal.sort_number-to-requires
sort_number-to-requires c = record { few = few-sorts (state c.args.state.now) c.requires.kept c.requires.few }

pub returns-in_err-check_known_term-clause-judged : goal.returns-in_err-check_known_term-clause-judged
returns-in_err-check_known_term-clause-judged c =
    let σ = state c.args.state.now in
    let n = lexeme c.args.coercion.name in
    let from = lexeme c.args.coercion.from in
    let to = lexeme c.args.coercion.to in
    let f = c.in_err-check_known_term.field-0.0 in
    let p = err_from_is_err_and c.from_residual.result c.from_residual.ensures.1 in
    subst (λ r. JudgesStatement r σ c.args.place (coercion c.args.coercion)) (sym (p.1 ∙ ap Err p.2))
    (coercion-known σ c.args.place n from to ℕ f (fails-before (is_known σ.term_names n) (is_known σ.sort_names from >> is_known σ.sort_names to) f c.in_err-check_known_term.ensures))

pub returns-in_err-check_known-clause-judged : goal.returns-in_err-check_known-clause-judged
returns-in_err-check_known-clause-judged c =
    let σ = state c.args.state.now in
    let n = lexeme c.args.coercion.name in
    let from = lexeme c.args.coercion.from in
    let to = lexeme c.args.coercion.to in
    let f = c.in_err-check_known.field-0.0 in
    let p = err_from_is_err_and c.from_residual-in_err-check_known.result c.from_residual-in_err-check_known.ensures.1 in
    subst (λ r. JudgesStatement r σ c.args.place (coercion c.args.coercion)) (sym (p.1 ∙ ap Err p.2))
    (coercion-known σ c.args.place n from to ℕ f
    (fails-after (is_known σ.term_names n) (is_known σ.sort_names from >> is_known σ.sort_names to) f c.in_ok-check_known_term.ensures
    (fails-before (is_known σ.sort_names from) (is_known σ.sort_names to) f c.in_err-check_known.ensures)))

pub returns-in_err-check_known-2-clause-judged : goal.returns-in_err-check_known-2-clause-judged
returns-in_err-check_known-2-clause-judged c =
    let σ = state c.args.state.now in
    let n = lexeme c.args.coercion.name in
    let from = lexeme c.args.coercion.from in
    let to = lexeme c.args.coercion.to in
    let f = c.in_err-check_known-2.field-0.0 in
    let p = err_from_is_err_and c.from_residual-in_err-check_known-2.result c.from_residual-in_err-check_known-2.ensures.1 in
    subst (λ r. JudgesStatement r σ c.args.place (coercion c.args.coercion)) (sym (p.1 ∙ ap Err p.2))
    (coercion-known σ c.args.place n from to ℕ f
    (fails-after (is_known σ.term_names n) (is_known σ.sort_names from >> is_known σ.sort_names to) f c.in_ok-check_known_term.ensures
    (fails-after (is_known σ.sort_names from) (is_known σ.sort_names to) f c.in_ok-check_known.ensures c.in_err-check_known-2.ensures)))

pub returns-in-Ok-clause-judged : goal.returns-in-Ok-clause-judged
returns-in-Ok-clause-judged c =
    let σ = state c.args.state.now in
    let n = lexeme c.args.coercion.name in
    let from = lexeme c.args.coercion.from in
    let to = lexeme c.args.coercion.to in
    let known = all_hold-both (is_known σ.term_names n) (is_known σ.sort_names from >> is_known σ.sort_names to) c.in_ok-check_known_term.ensures
    (all_hold-both (is_known σ.sort_names from) (is_known σ.sort_names to) c.in_ok-check_known.ensures c.in_ok-check_known-2.ensures) in
    let same = coercion-is σ n from to c.term_number-term.result c.sort_number-from.result c.sort_number-to.result c.term_number-term.ensures c.sort_number-from.ensures c.sort_number-to.ensures in
    coercion-holds σ c.args.place n from to ℕ 0 known (subst (λ k. AllHold (coercion_checks (signatures σ.env) σ.table k)) (sym same) c.in-Ok.ensures.answer)

pub returns-in-Err-clause-judged : goal.returns-in-Err-clause-judged
returns-in-Err-clause-judged c =
    let σ = state c.args.state.now in
    let n = lexeme c.args.coercion.name in
    let from = lexeme c.args.coercion.from in
    let to = lexeme c.args.coercion.to in
    let known = all_hold-both (is_known σ.term_names n) (is_known σ.sort_names from >> is_known σ.sort_names to) c.in_ok-check_known_term.ensures
    (all_hold-both (is_known σ.sort_names from) (is_known σ.sort_names to) c.in_ok-check_known.ensures c.in_ok-check_known-2.ensures) in
    let same = coercion-is σ n from to c.term_number-term.result c.sort_number-from.result c.sort_number-to.result c.term_number-term.ensures c.sort_number-from.ensures c.sort_number-to.ensures in
    subst (λ x. JudgesStatement {A = ℕ} (Err x) σ c.args.place (coercion c.args.coercion)) (sym c.halt_of.ensures)
    (coercion-fault σ c.args.place n from to ℕ c.in-Err.fault known (subst (λ k. IsAnswer {A = ℕ} (Err c.in-Err.fault) (coercion_checks (signatures σ.env) σ.table k)) (sym same) c.in-Err.ensures.answer))

pub returns-in-Ok-clause-after : goal.returns-in-Ok-clause-after
returns-in-Ok-clause-after c =
    let σ = state c.args.state.now in
    let n = lexeme c.args.coercion.name in
    let from = lexeme c.args.coercion.from in
    let to = lexeme c.args.coercion.to in
    coercion-after σ c.args.place c.add_coercion.new.self n from to _ refl
    (sym (coercion-is σ n from to c.term_number-term.result c.sort_number-from.result c.sort_number-to.result c.term_number-term.ensures c.sort_number-from.ensures c.sort_number-to.ensures))
    c.in-Ok.ensures.ok
