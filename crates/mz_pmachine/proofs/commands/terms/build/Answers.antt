use Rattle.std.proofs.Common.{◌≡◌, ◌<◌, ◌∙◌, Err, Ok, [], length, map, refl, sym, ap, subst, arith, append-nil}
use Rattle.std.proofs.lemmas.Result.{err_from_is_err_and}
use Rattle.mz_logic_theory.specs.Words.{binders_of}
use Rattle.mz_layout_tables.specs.Tables.{term_row}
use Rattle.mz_store.specs.Sharing.{CanTake}
use Rattle.mz_pmachine_unify.specs.Numbering.{expr_of, exprs_of, trees_of as trees_in}
use Rattle.mz_pmachine_unify.proofs.Offered.{from-exprs}
use Rattle.mz_pmachine_unify.specs.Stored.{exprs_at, trees_at}
use Rattle.mz_pmachine_theory.specs.NodeIdentity.{an_application, operands_from, tree_of, portable}
use Rattle.mz_machine_theory.specs.ProofMachine.{built}
use Rattle.mz_machine_theory.specs.Premises.{operands_fit}
use Rattle.mz_machine_env.specs.Before.{tables_of, signatures_of, words_before}
use Rattle.mz_machine_theory.specs.FileRows.{term_of_file}
use Rattle.mz_machine.proofs.Offered.{built-none, built-few, built-unfit, built-row, takes-its-own, no-dummies, stops-as}
use Rattle.mz_pmachine.proofs.TermResults.{can-take, over-words, over-rows, items-kept, items-still}
use Rattle.mz_machine_env.proofs.Offered.{term-before, no-term-before}
use Rattle.mz_pmachine.proofs.commands.terms.build.Goals as goal

pub returns-then-t-terms-clause-built : goal.returns-then-t-terms-clause-built
returns-then-t-terms-clause-built c st ctx is =
    built-none portable (tables_of c.args.env.now) c.args.at c.args.t st (no-term-before c.args.env.now c.args.t (omega (arith, c.terms.ensures.rows, c.if-t-terms.true)))

pub returns-in_err-pop_operands-clause-built : goal.returns-in_err-pop_operands-clause-built
returns-in_err-pop_operands-clause-built c st ctx is =
    let p = err_from_is_err_and c.from_residual.result c.from_residual.ensures.1 in
    let row = term-before c.args.env.now c.args.t (let e : c.args.t < c.args.env.now.rows.terms = omega (arith, c.terms.ensures.rows, c.if-t-terms.false) in e) in
    rw (p.1, p.2) (stops-as c.in_err-pop_operands.field-0.0 _ (λ k. built portable (tables_of c.args.env.now) c.args.at c.args.t st ≡ Err k)
    (λ k h. built-few portable (tables_of c.args.env.now) c.args.at c.args.t st (term_of_file c.args.env.now.file c.args.t) row k
    (takes-its-own c.args.env.now c.args.t st _ c.arity_of.result _ c.arity_of.ensures is h)) c.in_err-pop_operands.ensures.taken)

pub check_operands-requires-clause-many : goal.check_operands-requires-clause-many
check_operands-requires-clause-many c = ap length c.deref.ensures.value ∙ c.in_ok-pop_operands.ensures.many ∙ c.arity_of.ensures

pub returns-in-Err-clause-built : goal.returns-in-Err-clause-built
returns-in-Err-clause-built c st ctx is =
    let row = term-before c.args.env.now c.args.t (let e : c.args.t < c.args.env.now.rows.terms = omega (arith, c.terms.ensures.rows, c.if-t-terms.false) in e) in
    built-unfit portable (tables_of c.args.env.now) c.args.at c.args.t st (term_of_file c.args.env.now.file c.args.t) row (map tree_of) (λ _. refl) _ _
    (takes-its-own c.args.env.now c.args.t st _ c.arity_of.result _ c.arity_of.ensures is c.in_ok-pop_operands.ensures.taken) c.in-Err.rule
    (subst (λ x. operands_fit (signatures_of c.args.env.now) x (trees_at c.args.nodes.now c.pop_operands.new.operands.items) (binders_of (term_row c.args.env.now.file c.args.t).words.params) ≡ Err c.in-Err.rule) (sym ctx)
    (subst (λ ids. operands_fit (signatures_of c.args.env.now) c.args.nodes.now.context (trees_at c.args.nodes.now ids) (binders_of (term_row c.args.env.now.file c.args.t).words.params) ≡ Err c.in-Err.rule) c.deref.ensures.value c.in-Err.ensures))

pub app-requires-clause-over : goal.app-requires-clause-over
app-requires-clause-over c = over-words c.args.env.now c.args.nodes.now c.requires.over

pub app-requires-clause-fit : goal.app-requires-clause-fit
app-requires-clause-fit c =
    subst (λ ids. CanTake (words_before c.args.env.now) c.args.nodes.now.context c.args.t (trees_in c.args.nodes.now ids)) (sym c.deref-2.ensures.value)
    (can-take c.args.env.now c.args.nodes.now c.args.t c.pop_operands.new.operands.items (omega (arith, c.terms.ensures.rows, c.if-t-terms.false)) c.requires.over c.in_ok-pop_operands.ensures.ids.0
    (c.in_ok-pop_operands.ensures.many ∙ c.arity_of.ensures)
    (subst (λ ids. operands_fit (signatures_of c.args.env.now) c.args.nodes.now.context (trees_at c.args.nodes.now ids) (binders_of (term_row c.args.env.now.file c.args.t).words.params) ≡ Ok tt) c.deref.ensures.value c.in_default.ensures))

pub returns-clause-grows : goal.returns-clause-grows
returns-clause-grows c = record {
  keeps = c.in-Ok.ensures.kept;
  over = over-rows c.args.env.now c.app.new.self c.in-Ok.ensures.over;
  mode = c.app.ensures.mode;
  context = ([], c.app.ensures.context ∙ sym (append-nil c.args.nodes.now.context), no-dummies);
}

pub returns-clause-ids : goal.returns-clause-ids
returns-clause-ids c =
    (c.in-Ok.ensures.holds.0, items-still c.args.nodes.now c.app.new.self c.in-Ok.ensures.kept c.pop_operands.new.stack.items c.in_ok-pop_operands.ensures.ids.1)

pub returns-clause-built : goal.returns-clause-built
returns-clause-built c st ctx is =
    let row = term-before c.args.env.now c.args.t (let e : c.args.t < c.args.env.now.rows.terms = omega (arith, c.terms.ensures.rows, c.if-t-terms.false) in e) in
    let made : expr_of c.app.new.self c.in-Ok.made.0 ≡ an_application c.args.at c.args.t (operands_from (exprs_at c.args.nodes.now c.pop_operands.new.operands.items)) =
    c.in-Ok.ensures.holds.1 ∙ ap (λ ids. an_application c.args.at c.args.t (exprs_of c.args.nodes.now ids)) c.deref-2.ensures.value
    ∙ ap (an_application c.args.at c.args.t) (sym (from-exprs c.args.nodes.now c.pop_operands.new.operands.items)) in
    rw (made, items-kept c.args.nodes.now c.app.new.self c.in-Ok.ensures.kept c.pop_operands.new.stack.items c.in_ok-pop_operands.ensures.ids.1)
    (built-row portable (tables_of c.args.env.now) c.args.at c.args.t st (term_of_file c.args.env.now.file c.args.t) row (map tree_of) (λ _. refl) _ _
    (takes-its-own c.args.env.now c.args.t st _ c.arity_of.result _ c.arity_of.ensures is c.in_ok-pop_operands.ensures.taken)
    (subst (λ x. operands_fit (signatures_of c.args.env.now) x (trees_at c.args.nodes.now c.pop_operands.new.operands.items) (binders_of (term_row c.args.env.now.file c.args.t).words.params) ≡ Ok tt) (sym ctx)
    (subst (λ ids. operands_fit (signatures_of c.args.env.now) c.args.nodes.now.context (trees_at c.args.nodes.now ids) (binders_of (term_row c.args.env.now.file c.args.t).words.params) ≡ Ok tt) c.deref.ensures.value c.in_default.ensures)))

pub returns-clause-next : goal.returns-clause-next
returns-clause-next c = omega (arith, c.in-Ok.ensures.next)

-- ---- what the calls ask

pub pop_operands-requires : goal.pop_operands-requires
pop_operands-requires c = c.requires.stack

pub check_operands-requires-clause-over : goal.check_operands-requires-clause-over
check_operands-requires-clause-over c = c.requires.over
