use Rattle.std.proofs.Common.{◌∙◌, [], ℕ, map, Err, ap, subst, sym}
use Rattle.std.specs.Prelude.{option_map}
use Rattle.std.proofs.lemmas.Result.{err_from_is_err_and}
use Rattle.mz_base.specs.Checks.{each_in_order, ◌>>◌}
use Rattle.mz_base.proofs.Offered.{all_hold-first}
use Rattle.mz_spec_theory.specs.StatementCode.{head, literal, notation, tail, type_text}
use Rattle.mz_spec_rules.specs.Answers.{JudgesStatement}
use Rattle.mz_spec_rules.specs.Entries.{state}
use Rattle.mz_spec_rules.specs.Noting.{named_rules}
use Rattle.mz_spec_theory.specs.Rules.{are_others, binder_rules, is_known, type_checks}
use Rattle.mz_spec_theory.specs.View.{names_of, view}
use Rattle.mz_spec_notations.proofs.Noted.{general-rules, general-fault, general-holds}
use Rattle.mz_spec_notations.proofs.notations.notation_over.Goals as goal

pub check_notation-requires-clause-grouped : goal.check_notation-requires-clause-grouped
check_notation-requires-clause-grouped c = c.requires.parts.grouped_params

pub note_general-requires-clause-others : goal.note_general-requires-clause-others
note_general-requires-clause-others c =
    let σ = state c.args.state.now in
    let n = c.args.notation.now in
    let s = notation n in
    let vs = (view s).variables in
    let ts = (view s).types in
    let rs = (view s).result in
    all_hold-first (are_others [] vs) (is_known σ.term_names (head n.head).name >> each_in_order (type_checks σ (names_of vs)) ts)
    (all_hold-first (named_rules σ (head n.head).name vs ts) (binder_rules σ c.args.place vs rs) (c.in_ok-check_notation.ensures vs ts rs c.requires.parts))

pub returns-in_err-check_notation-clause-judged : goal.returns-in_err-check_notation-clause-judged
returns-in_err-check_notation-clause-judged c =
    let σ = state c.args.state.now in
    let n = c.args.notation.now in
    let s = notation n in
    let p = err_from_is_err_and c.from_residual.result c.from_residual.ensures.1 in
    subst (λ r. JudgesStatement r σ c.args.place s) (sym (p.1 ∙ ap Err p.2))
    (general-rules σ c.args.place (head n.head) (type_text n.result) (map literal n.literals.items) (literal n.last) (option_map tail n.tail) ℕ c.in_err-check_notation.field-0.0 c.requires.levels c.requires.tail_level
    (c.in_err-check_notation.ensures (view s).variables (view s).types (view s).result c.requires.parts))

pub returns-in-Ok-clause-judged : goal.returns-in-Ok-clause-judged
returns-in-Ok-clause-judged c =
    let σ = state c.args.state.now in
    let n = c.args.notation.now in
    let s = notation n in
    let good = c.in_ok-check_notation.ensures (view s).variables (view s).types (view s).result c.requires.parts in
    general-holds σ c.args.place (head n.head) (type_text n.result) (map literal n.literals.items) (literal n.last) (option_map tail n.tail) ℕ 0 c.requires.levels c.requires.tail_level good c.in-Ok.ensures.answer

pub returns-in-Err-clause-judged : goal.returns-in-Err-clause-judged
returns-in-Err-clause-judged c =
    let σ = state c.args.state.now in
    let n = c.args.notation.now in
    let s = notation n in
    let good = c.in_ok-check_notation.ensures (view s).variables (view s).types (view s).result c.requires.parts in
    subst (λ x. JudgesStatement {A = ℕ} (Err x) σ c.args.place s) (sym c.halt_of.ensures)
    (general-fault σ c.args.place (head n.head) (type_text n.result) (map literal n.literals.items) (literal n.last) (option_map tail n.tail) ℕ c.in-Err.fault c.requires.levels c.requires.tail_level good c.in-Err.ensures.answer)
