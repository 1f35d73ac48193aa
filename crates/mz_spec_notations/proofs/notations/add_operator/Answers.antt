use Rattle.std.proofs.Common.{◌∙◌, ℕ, Err, ap, subst, sym}
use Rattle.std.proofs.lemmas.Result.{err_from_is_err_and}
use Rattle.mz_spec_theory.specs.StatementCode.{lexeme, level, operator}
use Rattle.mz_spec_rules.specs.Answers.{JudgesStatement}
use Rattle.mz_spec_rules.specs.Entries.{state}
use Rattle.mz_spec_notations.proofs.Noted.{operator-fault, operator-holds, operator-known, operator-level}
use Rattle.mz_spec_notations.proofs.notations.add_operator.Goals as goal

pub returns-in_err-level-clause-judged : goal.returns-in_err-level-clause-judged
returns-in_err-level-clause-judged c =
    let σ = state c.args.state.now in
    let o = c.args.operator in
    let p = err_from_is_err_and c.from_residual.result c.from_residual.ensures.1 in
    subst (λ r. JudgesStatement r σ c.args.place (operator o)) (sym (p.1 ∙ ap Err p.2))
    (operator-level σ c.args.place o.fixity (lexeme o.name) (lexeme o.constant) (level o.level) ℕ c.in_err-level.field-0.0 c.in_err-level.ensures.judged)

pub returns-in_err-check_known_term-clause-judged : goal.returns-in_err-check_known_term-clause-judged
returns-in_err-check_known_term-clause-judged c =
    let σ = state c.args.state.now in
    let o = c.args.operator in
    let p = err_from_is_err_and c.from_residual-in_err-check_known_term.result c.from_residual-in_err-check_known_term.ensures.1 in
    subst (λ r. JudgesStatement r σ c.args.place (operator o)) (sym (p.1 ∙ ap Err p.2))
    (operator-known σ c.args.place o.fixity (lexeme o.name) (lexeme o.constant) (level o.level) ℕ c.in_err-check_known_term.field-0.0 c.in_ok-level.ensures.judged c.in_err-check_known_term.ensures)

pub returns-in-Ok-clause-judged : goal.returns-in-Ok-clause-judged
returns-in-Ok-clause-judged c =
    let o = c.args.operator in
    operator-holds (state c.args.state.now) c.args.place o.fixity (lexeme o.name) (lexeme o.constant) (level o.level) ℕ 0 c.in_ok-level.ensures.judged c.in_ok-check_known_term.ensures c.in-Ok.ensures.answer

pub returns-in-Err-clause-judged : goal.returns-in-Err-clause-judged
returns-in-Err-clause-judged c =
    let σ = state c.args.state.now in
    let o = c.args.operator in
    subst (λ x. JudgesStatement {A = ℕ} (Err x) σ c.args.place (operator o)) (sym c.halt_of.ensures)
    (operator-fault σ c.args.place o.fixity (lexeme o.name) (lexeme o.constant) (level o.level) ℕ c.in-Err.fault c.in_ok-level.ensures.judged c.in_ok-check_known_term.ensures c.in-Err.ensures.answer)
