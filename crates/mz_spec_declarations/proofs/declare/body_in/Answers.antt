use Rattle.std.proofs.Common.{◌∙◌, List, [], ◌∷◌, map, Err, ap, sym, subst}
use Rattle.std.proofs.lemmas.Result.{err_from_is_err_and}
use Rattle.mz_base.specs.Checks.{AllHold, FailsFirst, retold}
use Rattle.mz_spec_theory.specs.StatementCode.{lexeme}
use Rattle.mz_spec_theory.specs.Reading.{OnFault}
use Rattle.mz_logic_theory.specs.Declaration.{defined}
use Rattle.mz_logic_theory.specs.View.{tree}
use Rattle.mz_logic_theory.specs.declared.binder.Binder.{Binder}
use Rattle.mz_math_theory.specs.Notation.{Variables}
use Rattle.mz_math_theory.specs.Formula.{Reader, IsFormula, formula_checks}
use Rattle.mz_math_theory.specs.declared.wanted.Wanted.TheVariants.{Sort as of_sort}
use Rattle.mz_spec_rules.specs.Answers.{JudgesOrMem}
use Rattle.mz_spec_variables.specs.Code.{AreGrouped, variable}
use Rattle.mz_spec_rules.specs.Entries.{state}
use Rattle.mz_spec_theory.specs.Formulas.{inner, told}
use Rattle.mz_spec_theory.specs.Rules.{body_rules}
use Rattle.mz_spec_theory.specs.State.{binder_of, sort_number}
use Rattle.mz_spec_theory.specs.View.{Variable, body, params_of}
use Rattle.mz_spec_rules.proofs.Offered.{few-sorts}
use Rattle.mz_spec_theory.proofs.Offered.{test-in, test-out, body-sorted}
use Rattle.mz_spec_declarations.proofs.Bodied.{body-halt, body-holds, body-fails, covers-all, all-covers, scope-names}
use Rattle.mz_spec_declarations.proofs.declare.body_in.Goals as goal

pub returns-in_err-body-clause-judged : goal.returns-in_err-body-clause-judged
returns-in_err-body-clause-judged c = λ vs ts t parts same tokens are.
    let σ = state c.args.state.now in
    let l = lexeme c.args.math in
    let halt = c.in_err-body.field-0.0 in
    let scope = c.requires.scope vs ts (t ∷ []) parts in
    let sort = ap (λ r. r.sort) same in
    let reads : Variables → Reader = λ x. record { env = σ.env; table = σ.table; scope = x } in
    let p = err_from_is_err_and c.from_residual.result c.from_residual.ensures.1 in
    subst (λ r. JudgesOrMem r (body_rules σ c.args.place vs (body l t ∷ []) tokens)) (sym (p.1 ∙ ap Err p.2))
    (body-halt σ c.args.place vs l t tokens are halt
    (λ ps cut. subst (λ x. OnFault halt (FailsFirst (retold (told l) (formula_checks (reads x) (of_sort (sort_number σ t)) (inner l) ps)))) scope
    (subst (λ s. OnFault halt (FailsFirst (retold (told l) (formula_checks (reads c.args.scope.now) (of_sort s) (inner l) ps)))) sort (c.in_err-body.ensures.judged ps cut))))

pub admits_free_variables-requires : goal.admits_free_variables-requires
admits_free_variables-requires c =
    let r : Reader = record { env = c.args.state.now.env; table = c.args.state.now.notations; scope = c.args.scope.now } in
    record { sorted = (c.args.result_type.now.sort, body-sorted r c.requires.kept.coercions c.args.result_type.now.sort (inner (lexeme c.args.math)) (tree c.in_ok-body.body) c.in_ok-body.ensures.meant) }

pub returns-then-not-has-clause-judged : goal.returns-then-not-has-clause-judged
returns-then-not-has-clause-judged c = λ vs ts t parts same tokens are.
    let σ = state c.args.state.now in
    let l = lexeme c.args.math in
    let e = tree c.in_ok-body.body in
    let scope = c.requires.scope vs ts (t ∷ []) parts in
    let sort = ap (λ r. r.sort) same in
    let reads : Variables → Reader = λ x. record { env = σ.env; table = σ.table; scope = x } in
    body-fails σ c.args.place vs l t tokens are
    (λ ps cut. subst (λ x. AllHold (retold (told l) (formula_checks (reads x) (of_sort (sort_number σ t)) (inner l) ps))) scope
    (subst (λ s. AllHold (retold (told l) (formula_checks (reads c.args.scope.now) (of_sort s) (inner l) ps))) sort (c.in_ok-body.ensures.judged ps cut)))
    e
    (subst (λ x. IsFormula (reads x) (of_sort (sort_number σ t)) (inner l) e) scope (subst (λ s. IsFormula (reads c.args.scope.now) (of_sort s) (inner l) e) sort c.in_ok-body.ensures.meant))
    c.requires.kept.table (scope-names σ c.args.parts.now vs ts (t ∷ []) parts c.requires.names)
    (λ free. test-out c.in_ok-has.has c.in_ok-has.ensures c.if-not-has.true (all-covers σ vs t e c.args.scope.now c.args.result_type.now scope same free))

pub binders_of-requires-clause-few : goal.binders_of-requires-clause-few
binders_of-requires-clause-few c = few-sorts (state c.args.state.now) c.requires.kept c.requires.few

pub binders_of-requires-clause-grouped : goal.binders_of-requires-clause-grouped
binders_of-requires-clause-grouped c = subst AreGrouped (sym c.deref-2.ensures.value) c.requires.parts.3.grouped_dummies

pub returns-clause-judged : goal.returns-clause-judged
returns-clause-judged c = λ vs ts t parts same tokens are.
    let σ = state c.args.state.now in
    let l = lexeme c.args.math in
    let e = tree c.in_ok-body.body in
    let scope = c.requires.scope vs ts (t ∷ []) parts in
    let sort = ap (λ r. r.sort) same in
    let reads : Variables → Reader = λ x. record { env = σ.env; table = σ.table; scope = x } in
    body-holds σ c.args.place vs l t tokens are
    (λ ps cut. subst (λ x. AllHold (retold (told l) (formula_checks (reads x) (of_sort (sort_number σ t)) (inner l) ps))) scope
    (subst (λ s. AllHold (retold (told l) (formula_checks (reads c.args.scope.now) (of_sort s) (inner l) ps))) sort (c.in_ok-body.ensures.judged ps cut)))
    e
    (subst (λ x. IsFormula (reads x) (of_sort (sort_number σ t)) (inner l) e) scope (subst (λ s. IsFormula (reads c.args.scope.now) (of_sort s) (inner l) e) sort c.in_ok-body.ensures.meant))
    (covers-all σ vs t e c.args.scope.now c.args.result_type.now scope same (test-in c.in_ok-has.has c.in_ok-has.ensures c.if-not-has.false))

pub returns-clause-form : goal.returns-clause-form
returns-clause-form c = λ vs ts t parts same.
    let σ = state c.args.state.now in
    let l = lexeme c.args.math in
    let e = tree c.in_ok-body.body in
    let scope = c.requires.scope vs ts (t ∷ []) parts in
    let sort = ap (λ r. r.sort) same in
    let reads : Variables → Reader = λ x. record { env = σ.env; table = σ.table; scope = x } in
    let of : List Variable → List Variable → List Binder = λ ps ds. map (binder_of σ ps) ds in
    let dummies = c.in_ok-dummies.ensures
    ∙ ap (λ ps. of ps (map variable c.deref-2.result.now)) (ap (map variable) c.deref.ensures.value ∙ parts.params)
    ∙ ap (of (params_of vs)) (ap (map variable) c.deref-2.ensures.value ∙ parts.dummies) in (
      e,
      subst (λ x. IsFormula (reads x) (of_sort (sort_number σ t)) (inner l) e) scope (subst (λ s. IsFormula (reads c.args.scope.now) (of_sort s) (inner l) e) sort c.in_ok-body.ensures.meant),
      ap (λ ds. defined ds e) dummies,
    )
