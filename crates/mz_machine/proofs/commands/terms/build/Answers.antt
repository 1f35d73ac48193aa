use Rattle.std.proofs.Common.{◌≡◌, ◌<◌, ◌∙◌, Err, Ok, [], length, sym, ap, subst, arith, append-nil}
use Rattle.mz_logic_theory.specs.Tree.{app}
use Rattle.mz_logic_theory.specs.Words.{binders_of}
use Rattle.mz_layout_tables.specs.Tables.{term_row}
use Rattle.mz_store.specs.Sharing.{tree_of, CanTake, trees_of as trees_in}
use Rattle.mz_machine_theory.specs.Spells.{trees_of}
use Rattle.mz_unify.specs.Stored.{trees_at}
use Rattle.mz_machine_theory.specs.Profile.{strict}
use Rattle.mz_machine_theory.specs.ProofMachine.{built}
use Rattle.mz_machine_theory.specs.Premises.{operands_fit}
use Rattle.mz_machine_env.specs.Before.{tables_of, signatures_of, words_before}
use Rattle.mz_machine_theory.specs.FileRows.{term_of_file}
use Rattle.mz_machine_env.proofs.Offered.{term-before, no-term-before}
use Rattle.mz_machine.proofs.Stopping.{stops-as}
use Rattle.mz_machine.proofs.TermRows.{built-none, built-few, built-unfit, built-row, takes-its-own}
use Rattle.mz_machine.proofs.TermResults.{can-take, over-words, over-rows, items-kept, items-still, map-same, same-trees}
use Rattle.mz_machine.proofs.Dummies.{no-dummies}
use Rattle.mz_machine.proofs.commands.terms.build.Goals as goal

pub returns-then-t-terms-clause-built : goal.returns-then-t-terms-clause-built
returns-then-t-terms-clause-built c at st ctx is =
    built-none strict (tables_of c.args.env.now) at c.args.t st (no-term-before c.args.env.now c.args.t (omega (arith, c.terms.ensures.rows, c.if-t-terms.true)))

pub returns-in-Err-clause-built : goal.returns-in-Err-clause-built
returns-in-Err-clause-built c at st ctx is =
    let row = term-before c.args.env.now c.args.t (let e : c.args.t < c.args.env.now.rows.terms = omega (arith, c.terms.ensures.rows, c.if-t-terms.false) in e) in
    stops-as c.in-Err.stop _ (λ k. built strict (tables_of c.args.env.now) at c.args.t st ≡ Err k)
    (λ k h. built-few strict (tables_of c.args.env.now) at c.args.t st (term_of_file c.args.env.now.file c.args.t) row k
    (takes-its-own c.args.env.now c.args.t st _ c.arity_of.result _ c.arity_of.ensures is h)) c.in-Err.ensures.taken

pub check_operands-requires-clause-many : goal.check_operands-requires-clause-many
check_operands-requires-clause-many c = ap length c.deref.ensures.value ∙ c.in_default.ensures.many ∙ c.arity_of.ensures

pub returns-in-Err-check_operands-clause-built : goal.returns-in-Err-check_operands-clause-built
returns-in-Err-check_operands-clause-built c at st ctx is =
    let row = term-before c.args.env.now c.args.t (let e : c.args.t < c.args.env.now.rows.terms = omega (arith, c.terms.ensures.rows, c.if-t-terms.false) in e) in
    built-unfit strict (tables_of c.args.env.now) at c.args.t st (term_of_file c.args.env.now.file c.args.t) row (λ es. es) map-same _ _
    (takes-its-own c.args.env.now c.args.t st _ c.arity_of.result _ c.arity_of.ensures is c.in_default.ensures.taken) c.in-Err-check_operands.rule
    (subst (λ x. operands_fit (signatures_of c.args.env.now) x (trees_at c.args.store.now c.pop_operands.new.operands.items) (binders_of (term_row c.args.env.now.file c.args.t).words.params) ≡ Err c.in-Err-check_operands.rule) (sym ctx)
    (subst (λ ids. operands_fit (signatures_of c.args.env.now) c.args.store.now.context (trees_at c.args.store.now ids) (binders_of (term_row c.args.env.now.file c.args.t).words.params) ≡ Err c.in-Err-check_operands.rule) c.deref.ensures.value c.in-Err-check_operands.ensures))

pub app-requires-clause-over : goal.app-requires-clause-over
app-requires-clause-over c = over-words c.args.env.now c.args.store.now c.requires.over

pub app-requires-clause-fit : goal.app-requires-clause-fit
app-requires-clause-fit c =
    subst (λ ids. CanTake (words_before c.args.env.now) c.args.store.now.context c.args.t (trees_in c.args.store.now ids)) (sym c.deref-2.ensures.value)
    (can-take c.args.env.now c.args.store.now c.args.t c.pop_operands.new.operands.items (omega (arith, c.terms.ensures.rows, c.if-t-terms.false)) c.requires.over c.in_default.ensures.ids.0
    (c.in_default.ensures.many ∙ c.arity_of.ensures)
    (subst (λ ids. operands_fit (signatures_of c.args.env.now) c.args.store.now.context (trees_at c.args.store.now ids) (binders_of (term_row c.args.env.now.file c.args.t).words.params) ≡ Ok tt) c.deref.ensures.value c.in_default-check_operands.ensures))

pub returns-clause-grows : goal.returns-clause-grows
returns-clause-grows c = record {
  keeps = c.in-Ok.ensures.kept;
  over = over-rows c.args.env.now c.app.new.self c.in-Ok.ensures.over;
  mode = c.app.ensures.mode;
  context = ([], c.app.ensures.context ∙ sym (append-nil c.args.store.now.context), no-dummies);
}

pub returns-clause-ids : goal.returns-clause-ids
returns-clause-ids c =
    (c.in-Ok.ensures.holds.0, items-still c.args.store.now c.app.new.self c.in-Ok.ensures.kept c.pop_operands.new.stack.items c.in_default.ensures.ids.1)

pub returns-clause-built : goal.returns-clause-built
returns-clause-built c at st ctx is =
    let row = term-before c.args.env.now c.args.t (let e : c.args.t < c.args.env.now.rows.terms = omega (arith, c.terms.ensures.rows, c.if-t-terms.false) in e) in
    let made : tree_of c.app.new.self c.in-Ok.made.0 ≡ app c.args.t (trees_of (trees_at c.args.store.now c.pop_operands.new.operands.items)) =
    c.in-Ok.ensures.holds.1 ∙ ap (λ ids. app c.args.t (trees_in c.args.store.now ids)) c.deref-2.ensures.value ∙ ap (app c.args.t) (sym (same-trees c.args.store.now c.pop_operands.new.operands.items)) in
    rw (made, items-kept c.args.store.now c.app.new.self c.in-Ok.ensures.kept c.pop_operands.new.stack.items c.in_default.ensures.ids.1)
    (built-row strict (tables_of c.args.env.now) at c.args.t st (term_of_file c.args.env.now.file c.args.t) row (λ es. es) map-same _ _
    (takes-its-own c.args.env.now c.args.t st _ c.arity_of.result _ c.arity_of.ensures is c.in_default.ensures.taken)
    (subst (λ x. operands_fit (signatures_of c.args.env.now) x (trees_at c.args.store.now c.pop_operands.new.operands.items) (binders_of (term_row c.args.env.now.file c.args.t).words.params) ≡ Ok tt) (sym ctx)
    (subst (λ ids. operands_fit (signatures_of c.args.env.now) c.args.store.now.context (trees_at c.args.store.now ids) (binders_of (term_row c.args.env.now.file c.args.t).words.params) ≡ Ok tt) c.deref.ensures.value c.in_default-check_operands.ensures)))

-- ---- what the calls ask

pub pop_operands-requires : goal.pop_operands-requires
pop_operands-requires c = c.requires.stack

pub check_operands-requires-clause-over : goal.check_operands-requires-clause-over
check_operands-requires-clause-over c = c.requires.over
