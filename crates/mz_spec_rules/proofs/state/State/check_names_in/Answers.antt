use Rattle.std.proofs.Common.{◌∙◌, [], map, Err, ap, subst, sym}
use Rattle.std.proofs.lemmas.Result.{err_from_is_err_and}
use Rattle.mz_base.specs.Checks.{AllHold, FailsFirst, each_in_order, ◌>>◌}
use Rattle.mz_base.proofs.Offered.{all_hold-both, fails-before, fails-after}
use Rattle.mz_spec_theory.specs.StatementCode.{lexeme, type_text}
use Rattle.mz_spec_rules.specs.Answers.{JudgesOrMem}
use Rattle.mz_spec_variables.specs.Code.{variable}
use Rattle.mz_spec_rules.specs.Entries.{state}
use Rattle.mz_spec_rules.specs.Noting.{named_rules}
use Rattle.mz_spec_theory.specs.Rules.{are_others, is_known, type_checks}
use Rattle.mz_spec_theory.specs.View.{names_of}
use Rattle.mz_spec_theory.proofs.Offered.{mem-before}
use Rattle.mz_spec_rules.proofs.state.State.check_names_in.Goals as goal

pub returns-in_err-push_names : goal.returns-in_err-push_names
returns-in_err-push_names c =
    let σ = state c.args.self.now in
    let n = lexeme c.args.name in
    let vs = map variable c.args.variables.now in
    let ts = map (λ t. type_text t.ty.now) c.args.types.now in
    let halt = c.in_err-push_names.field-0.0 in
    let p = err_from_is_err_and c.from_residual.result c.from_residual.ensures.1 in
    subst (λ r. JudgesOrMem r (named_rules σ n vs ts)) (sym (p.1 ∙ ap Err p.2))
    (mem-before (are_others [] vs) (is_known σ.term_names n >> each_in_order (type_checks σ (names_of vs)) ts) halt c.in_err-push_names.ensures.judged)

pub returns-in_err-check_known_term : goal.returns-in_err-check_known_term
returns-in_err-check_known_term c =
    let σ = state c.args.self.now in
    let n = lexeme c.args.name in
    let vs = map variable c.args.variables.now in
    let ts = map (λ t. type_text t.ty.now) c.args.types.now in
    let f = c.in_err-check_known_term.field-0.0 in
    let p = err_from_is_err_and c.from_residual-in_err-check_known_term.result c.from_residual-in_err-check_known_term.ensures.1 in
    subst (λ r. JudgesOrMem r (named_rules σ n vs ts)) (sym (p.1 ∙ ap Err p.2))
    (fails-after (are_others [] vs) (is_known σ.term_names n >> each_in_order (type_checks σ (names_of vs)) ts) f c.in_ok-push_names.ensures.judged
    (fails-before (is_known σ.term_names n) (each_in_order (type_checks σ (names_of vs)) ts) f c.in_err-check_known_term.ensures))

pub returns-in_err-check_types : goal.returns-in_err-check_types
returns-in_err-check_types c =
    let σ = state c.args.self.now in
    let n = lexeme c.args.name in
    let vs = map variable c.args.variables.now in
    let ts = map (λ t. type_text t.ty.now) c.args.types.now in
    let f = c.in_err-check_types.field-0.0 in
    let p = err_from_is_err_and c.from_residual-in_err-check_types.result c.from_residual-in_err-check_types.ensures.1 in
    subst (λ r. JudgesOrMem r (named_rules σ n vs ts)) (sym (p.1 ∙ ap Err p.2))
    (fails-after (are_others [] vs) (is_known σ.term_names n >> each_in_order (type_checks σ (names_of vs)) ts) f c.in_ok-push_names.ensures.judged
    (fails-after (is_known σ.term_names n) (each_in_order (type_checks σ (names_of vs)) ts) f c.in_ok-check_known_term.ensures
    (subst (λ ns. FailsFirst (each_in_order (type_checks σ ns) ts) f) c.in_ok-push_names.ensures.names c.in_err-check_types.ensures)))

pub returns : goal.returns
returns c =
    let σ = state c.args.self.now in
    let n = lexeme c.args.name in
    let vs = map variable c.args.variables.now in
    let ts = map (λ t. type_text t.ty.now) c.args.types.now in
    all_hold-both (are_others [] vs) (is_known σ.term_names n >> each_in_order (type_checks σ (names_of vs)) ts) c.in_ok-push_names.ensures.judged
    (all_hold-both (is_known σ.term_names n) (each_in_order (type_checks σ (names_of vs)) ts) c.in_ok-check_known_term.ensures
    (subst (λ ns. AllHold (each_in_order (type_checks σ ns) ts)) c.in_ok-push_names.ensures.names c.in_ok-check_types.ensures))
