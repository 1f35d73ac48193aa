use Rattle.std.proofs.Common.{◌∙◌, length, map, Err, ap, subst, sym, arith}
use Rattle.std.proofs.lemmas.Result.{err_from_is_err_and}
use Rattle.mz_base.specs.Checks.{nothing, ◌>>◌, each_in_order}
use Rattle.mz_spec_theory.specs.StatementCode.{assertion, head, group, lexeme, source}
use Rattle.mz_spec_rules.specs.Answers.{JudgesOrMem}
use Rattle.mz_spec_variables.specs.Code.{AreGrouped}
use Rattle.mz_spec_rules.specs.Entries.{state}
use Rattle.mz_spec_theory.specs.Rules.{new_name, body_rules, statement_checks}
use Rattle.mz_spec_theory.specs.View.{view, stated_of}
use Rattle.mz_spec_rules.proofs.Offered.{parts-halt, rest-halt, parts-hold, few-sorts, few-params, parts-names}
use Rattle.mz_spec_theory.proofs.Offered.{stated-small, stated-to_formulas, free-none, mem-before}
use Rattle.mz_base.proofs.Offered.{all_hold-both}
use Rattle.mz_spec_theory.specs.Formulas.{strings_checks, free_checks}
use Rattle.mz_spec_declarations.proofs.declare.assertion_over.Goals as goal

pub check_parts-requires-clause-grouped : goal.check_parts-requires-clause-grouped
check_parts-requires-clause-grouped c = c.requires.parts.grouped_params

pub returns-in_err-check_parts-clause-judged : goal.returns-in_err-check_parts-clause-judged
returns-in_err-check_parts-clause-judged c = λ tokens cut.
    let σ = state c.args.state.now in
    let v = view (assertion c.args.assertion.now) in
    let p = err_from_is_err_and c.from_residual.result c.from_residual.ensures.1 in
    subst (λ r. JudgesOrMem r (statement_checks σ c.args.place (assertion c.args.assertion.now) tokens)) (sym (p.1 ∙ ap Err p.2))
    (parts-halt σ c.args.place v.variables v.types v.result (new_name c.args.state.now.assertion_names (lexeme c.args.assertion.now.head.name)) (body_rules σ c.args.place v.variables v.formulas tokens >> nothing)
    c.in_err-check_parts.field-0.0 c.requires.new (c.in_err-check_parts.ensures v.variables v.types v.result c.requires.parts))

pub claims_of-requires-clause-room : goal.claims_of-requires-clause-room
claims_of-requires-clause-room c = few-params (assertion c.args.assertion.now) c.args.parts.now c.requires.spelled c.requires.parts

pub claims_of-requires-clause-names : goal.claims_of-requires-clause-names
claims_of-requires-clause-names c =
    let v = view (assertion c.args.assertion.now) in
    parts-names (state c.args.state.now) c.args.place (assertion c.args.assertion.now) c.args.parts.now c.requires.spelled c.requires.parts (c.in_ok-check_parts.ensures v.variables v.types v.result c.requires.parts)

pub claims_of-requires-clause-small : goal.claims_of-requires-clause-small
claims_of-requires-clause-small c =
    let a = c.args.assertion.now in
    let small = stated-small a.kind (head a.head) (map source a.premises.items) (lexeme a.conclusion) c.requires.spelled in
    stated-to_formulas (stated_of (map group a.head.groups.items) (map source a.premises.items)) (lexeme a.conclusion) small.0 small.1

pub claims_of-requires-clause-grouped_params : goal.claims_of-requires-clause-grouped_params
claims_of-requires-clause-grouped_params c = c.requires.parts.grouped_params

pub claims_of-requires-clause-grouped_dummies : goal.claims_of-requires-clause-grouped_dummies
claims_of-requires-clause-grouped_dummies c = c.requires.parts.grouped_dummies

pub binders_of-requires-clause-few : goal.binders_of-requires-clause-few
binders_of-requires-clause-few c = few-sorts (state c.args.state.now) c.requires.kept c.requires.few

pub binders_of-requires-clause-small : goal.binders_of-requires-clause-small
binders_of-requires-clause-small c =
    let few = few-params (assertion c.args.assertion.now) c.args.parts.now c.requires.spelled c.requires.parts in
    let same = ap length c.deref.ensures.value in
    omega (arith, few, same)

pub binders_of-requires-clause-grouped : goal.binders_of-requires-clause-grouped
binders_of-requires-clause-grouped c = subst AreGrouped (sym c.deref-2.ensures.value) c.requires.parts.grouped_params

pub returns-in_err-hyps-clause-judged : goal.returns-in_err-hyps-clause-judged
returns-in_err-hyps-clause-judged c = λ tokens cut.
    let σ = state c.args.state.now in
    let v = view (assertion c.args.assertion.now) in
    let halt = c.in_err-hyps.field-0.0 in
    let p = err_from_is_err_and c.from_residual-in_err-hyps.result c.from_residual-in_err-hyps.ensures.1 in
    subst (λ r. JudgesOrMem r (statement_checks σ c.args.place (assertion c.args.assertion.now) tokens)) (sym (p.1 ∙ ap Err p.2))
    (rest-halt σ c.args.place v.variables v.types v.result (new_name c.args.state.now.assertion_names (lexeme c.args.assertion.now.head.name)) (body_rules σ c.args.place v.variables v.formulas tokens >> nothing)
    halt c.requires.new (c.in_ok-check_parts.ensures v.variables v.types v.result c.requires.parts)
    (mem-before (body_rules σ c.args.place v.variables v.formulas tokens) nothing halt
    (mem-before (strings_checks σ v.variables v.formulas tokens) (each_in_order (free_checks σ c.args.place v.variables) v.formulas) halt (c.in_err-hyps.ensures.judged c.requires.parts tokens cut))))

pub returns-clause-judged : goal.returns-clause-judged
returns-clause-judged c = λ tokens cut.
    let σ = state c.args.state.now in
    let a = c.args.assertion.now in
    let v = view (assertion a) in
    let free = free-none σ c.args.place v.variables (stated_of (map group a.head.groups.items) (map source a.premises.items)) (lexeme a.conclusion) in
    parts-hold σ c.args.place v.variables v.types v.result (new_name c.args.state.now.assertion_names (lexeme a.head.name)) (body_rules σ c.args.place v.variables v.formulas tokens >> nothing)
    c.requires.new (c.in_ok-check_parts.ensures v.variables v.types v.result c.requires.parts)
    (all_hold-both (body_rules σ c.args.place v.variables v.formulas tokens) nothing
    (all_hold-both (strings_checks σ v.variables v.formulas tokens) (each_in_order (free_checks σ c.args.place v.variables) v.formulas) (c.in_ok-hyps.ensures.judged c.requires.parts tokens cut) free) tt)
