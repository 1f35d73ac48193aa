use Rattle.std.proofs.Common.{◌∙◌, length, Err, ap, subst, sym, arith}
use Rattle.std.proofs.lemmas.Result.{err_from_is_err_and}
use Rattle.mz_base.specs.Checks.{nothing}
use Rattle.mz_spec_theory.specs.StatementCode.{lexeme, term}
use Rattle.mz_spec_rules.specs.Answers.{JudgesOrMem}
use Rattle.mz_spec_variables.specs.Code.{AreGrouped}
use Rattle.mz_spec_rules.specs.Entries.{state}
use Rattle.mz_spec_theory.specs.Rules.{new_name, statement_checks}
use Rattle.mz_spec_theory.specs.View.{view}
use Rattle.mz_spec_rules.proofs.Offered.{parts-halt, parts-hold, few-sorts, few-params}
use Rattle.mz_spec_declarations.proofs.declare.term_over.Goals as goal

pub check_parts-requires-clause-grouped : goal.check_parts-requires-clause-grouped
check_parts-requires-clause-grouped c = c.requires.parts.grouped_params

pub returns-in_err-check_parts-clause-judged : goal.returns-in_err-check_parts-clause-judged
returns-in_err-check_parts-clause-judged c = λ tokens cut.
    let σ = state c.args.state.now in
    let v = view (term c.args.term.now) in
    let p = err_from_is_err_and c.from_residual.result c.from_residual.ensures.1 in
    subst (λ r. JudgesOrMem r (statement_checks σ c.args.place (term c.args.term.now) tokens)) (sym (p.1 ∙ ap Err p.2))
    (parts-halt σ c.args.place v.variables v.types v.result (new_name (state c.args.state.now).term_names (lexeme c.args.term.now.head.name)) nothing c.in_err-check_parts.field-0.0 c.requires.new
    (c.in_err-check_parts.ensures v.variables v.types v.result c.requires.parts))

pub binders_of-requires-clause-few : goal.binders_of-requires-clause-few
binders_of-requires-clause-few c = few-sorts (state c.args.state.now) c.requires.kept c.requires.few

pub binders_of-requires-clause-small : goal.binders_of-requires-clause-small
binders_of-requires-clause-small c =
    let few = few-params (term c.args.term.now) c.args.parts.now c.requires.spelled c.requires.parts in
    let same = ap length c.deref.ensures.value in
    omega (arith, few, same)

pub binders_of-requires-clause-grouped : goal.binders_of-requires-clause-grouped
binders_of-requires-clause-grouped c = subst AreGrouped (sym c.deref-2.ensures.value) c.requires.parts.grouped_params

pub result_of-requires-clause-few : goal.result_of-requires-clause-few
result_of-requires-clause-few c = few-sorts (state c.args.state.now) c.requires.kept c.requires.few

pub result_of-requires-clause-small : goal.result_of-requires-clause-small
result_of-requires-clause-small c = let few = few-params (term c.args.term.now) c.args.parts.now c.requires.spelled c.requires.parts in omega (arith, few)

pub returns-clause-judged : goal.returns-clause-judged
returns-clause-judged c = λ tokens cut.
    let σ = state c.args.state.now in
    let v = view (term c.args.term.now) in
    parts-hold σ c.args.place v.variables v.types v.result (new_name (state c.args.state.now).term_names (lexeme c.args.term.now.head.name)) nothing c.requires.new
    (c.in_ok-check_parts.ensures v.variables v.types v.result c.requires.parts) tt
