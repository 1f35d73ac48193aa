use Rattle.std.proofs.Common.{◌∙◌, List, length, map, option_map, Err, ap, subst, sym, arith}
use Rattle.std.proofs.lemmas.Result.{err_from_is_err_and}
use Rattle.mz_base.specs.Checks.{nothing, ◌>>◌}
use Rattle.mz_base.proofs.Offered.{all_hold-both}
use Rattle.mz_spec_theory.specs.StatementCode.{definition, head, lexeme, type_text}
use Rattle.mz_logic_theory.specs.Declaration.{Declaration, term_decl}
use Rattle.mz_logic_theory.specs.DeclView.{form}
use Rattle.mz_logic_theory.specs.declared.binder.Binder.{Binder}
use Rattle.mz_logic_theory.specs.declared.binder.ResultType.{ResultType}
use Rattle.mz_spec_rules.specs.Answers.{JudgesOrMem}
use Rattle.mz_spec_variables.specs.Code.{AreGrouped, variable}
use Rattle.mz_spec_rules.specs.Entries.{state}
use Rattle.mz_spec_theory.specs.Rules.{new_name, body_rules, statement_checks}
use Rattle.mz_spec_theory.specs.State.{binder_of, param_binders}
use Rattle.mz_spec_theory.specs.View.{Variable, view, params_of}
use Rattle.mz_spec_declarations.proofs.Bodied.{bodies-small}
use Rattle.mz_spec_rules.proofs.Offered.{parts-halt, rest-halt, parts-hold, few-sorts, few-params, parts-names}
use Rattle.mz_spec_theory.proofs.Offered.{mem-before}
use Rattle.mz_spec_declarations.proofs.declare.definition_over.Goals as goal

pub check_parts-requires-clause-grouped : goal.check_parts-requires-clause-grouped
check_parts-requires-clause-grouped c = c.requires.parts.grouped_params

pub returns-in_err-check_parts-clause-judged : goal.returns-in_err-check_parts-clause-judged
returns-in_err-check_parts-clause-judged c = λ tokens cut.
    let σ = state c.args.state.now in
    let v = view (definition c.args.definition.now) in
    let p = err_from_is_err_and c.from_residual.result c.from_residual.ensures.1 in
    subst (λ r. JudgesOrMem r (statement_checks σ c.args.place (definition c.args.definition.now) tokens)) (sym (p.1 ∙ ap Err p.2))
    (parts-halt σ c.args.place v.variables v.types v.result (new_name (state c.args.state.now).term_names (lexeme c.args.definition.now.head.name)) (body_rules σ c.args.place v.variables v.formulas tokens >> nothing)
    c.in_err-check_parts.field-0.0 c.requires.new (c.in_err-check_parts.ensures v.variables v.types v.result c.requires.parts))

pub binders_of-requires-clause-few : goal.binders_of-requires-clause-few
binders_of-requires-clause-few c = few-sorts (state c.args.state.now) c.requires.kept c.requires.few

pub binders_of-requires-clause-small : goal.binders_of-requires-clause-small
binders_of-requires-clause-small c =
    let few = few-params (definition c.args.definition.now) c.args.parts.now c.requires.spelled c.requires.parts in
    let same = ap length c.deref.ensures.value in
    omega (arith, few, same)

pub binders_of-requires-clause-grouped : goal.binders_of-requires-clause-grouped
binders_of-requires-clause-grouped c = subst AreGrouped (sym c.deref-2.ensures.value) c.requires.parts.grouped_params

pub result_of-requires-clause-few : goal.result_of-requires-clause-few
result_of-requires-clause-few c = few-sorts (state c.args.state.now) c.requires.kept c.requires.few

pub result_of-requires-clause-small : goal.result_of-requires-clause-small
result_of-requires-clause-small c = let few = few-params (definition c.args.definition.now) c.args.parts.now c.requires.spelled c.requires.parts in omega (arith, few)

pub form_of-requires-clause-room : goal.form_of-requires-clause-room
form_of-requires-clause-room c = few-params (definition c.args.definition.now) c.args.parts.now c.requires.spelled c.requires.parts

pub form_of-requires-clause-names : goal.form_of-requires-clause-names
form_of-requires-clause-names c =
    let v = view (definition c.args.definition.now) in
    parts-names (state c.args.state.now) c.args.place (definition c.args.definition.now) c.args.parts.now c.requires.spelled c.requires.parts (c.in_ok-check_parts.ensures v.variables v.types v.result c.requires.parts)

pub form_of-requires-clause-small : goal.form_of-requires-clause-small
form_of-requires-clause-small c =
    let d = c.args.definition.now in
    bodies-small (head d.head) (type_text d.result) (option_map lexeme d.body) c.requires.spelled

pub form_of-requires-clause-parts : goal.form_of-requires-clause-parts
form_of-requires-clause-parts c =
    let v = view (definition c.args.definition.now) in
    (v.variables, v.types, type_text c.args.definition.now.result, c.requires.parts)

pub returns-in_err-form-clause-judged : goal.returns-in_err-form-clause-judged
returns-in_err-form-clause-judged c = λ tokens cut.
    let σ = state c.args.state.now in
    let v = view (definition c.args.definition.now) in
    let halt = c.in_err-form.field-0.0 in
    let same = c.in_ok-result_type.ensures v.variables v.types v.result c.requires.parts in
    let p = err_from_is_err_and c.from_residual-in_err-form.result c.from_residual-in_err-form.ensures.1 in
    subst (λ r. JudgesOrMem r (statement_checks σ c.args.place (definition c.args.definition.now) tokens)) (sym (p.1 ∙ ap Err p.2))
    (rest-halt σ c.args.place v.variables v.types v.result (new_name (state c.args.state.now).term_names (lexeme c.args.definition.now.head.name)) (body_rules σ c.args.place v.variables v.formulas tokens >> nothing)
    halt c.requires.new (c.in_ok-check_parts.ensures v.variables v.types v.result c.requires.parts)
    (mem-before (body_rules σ c.args.place v.variables v.formulas tokens) nothing halt
    (c.in_err-form.ensures.judged v.variables v.types (type_text c.args.definition.now.result) c.requires.parts same tokens cut)))

pub returns-clause-judged : goal.returns-clause-judged
returns-clause-judged c = λ tokens cut.
    let σ = state c.args.state.now in
    let v = view (definition c.args.definition.now) in
    let same = c.in_ok-result_type.ensures v.variables v.types v.result c.requires.parts in
    parts-hold σ c.args.place v.variables v.types v.result (new_name (state c.args.state.now).term_names (lexeme c.args.definition.now.head.name)) (body_rules σ c.args.place v.variables v.formulas tokens >> nothing)
    c.requires.new (c.in_ok-check_parts.ensures v.variables v.types v.result c.requires.parts)
    (all_hold-both (body_rules σ c.args.place v.variables v.formulas tokens) nothing
    (c.in_ok-form.ensures.judged v.variables v.types (type_text c.args.definition.now.result) c.requires.parts same tokens cut) tt)

pub returns-clause-declares : goal.returns-clause-declares
returns-clause-declares c =
    let σ = state c.args.state.now in
    let v = view (definition c.args.definition.now) in
    let f = form c.in_ok-form.form in
    let same = c.in_ok-result_type.ensures v.variables v.types v.result c.requires.parts in
    let of : List Variable → List Variable → List Binder = λ ps qs. map (binder_of σ ps) qs in
    let first = ap (map variable) c.deref.ensures.value ∙ c.requires.parts.params in
    let second = ap (map variable) c.deref-2.ensures.value ∙ c.requires.parts.params in
    let params = c.in_ok-params.ensures ∙ ap (λ ps. of ps (map variable c.deref-2.result.now)) first ∙ ap (of (params_of v.variables)) second in
    let declared : List Binder → ResultType → Declaration = λ bs r. term_decl (record { signature = record { params = bs; result = r }; form = f }) in (
      f,
      c.in_ok-form.ensures.form v.variables v.types (type_text c.args.definition.now.result) c.requires.parts same,
      ap (λ bs. declared bs c.in_ok-result_type.result_type) params ∙ ap (declared (param_binders σ v.variables)) same,
    )
