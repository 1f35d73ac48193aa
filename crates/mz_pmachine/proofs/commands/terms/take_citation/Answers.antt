use Rattle.std.proofs.Common.{◌≡◌, ◌∙◌, Err, Ok, List, true, false, length, map, refl, sym, subst, arith}
use Rattle.std.proofs.lemmas.Result.{err_from_is_err_and}
use Rattle.mz_logic_theory.specs.Words.{binders_of}
use Rattle.mz_layout_tables.specs.Tables.{thm_row}
use Rattle.mz_store.specs.declared.item.Id.{Id}
use Rattle.mz_pmachine_unify.specs.Stored.{items_at, trees_at}
use Rattle.mz_pmachine_theory.specs.NodeIdentity.{tree_of, portable}
use Rattle.mz_machine_theory.specs.ProofMachine.{citation}
use Rattle.mz_machine_theory.specs.Premises.{operands_fit, are_disjoint}
use Rattle.mz_machine_env.specs.Before.{tables_of, signatures_of}
use Rattle.mz_pmachine.proofs.Citing.{items-many}
use Rattle.mz_machine.proofs.Offered.{cites-none, cites-few, cites-other, cites-without, cites-unfit, cites-meeting, cites-so, stops-as}
use Rattle.mz_pmachine.proofs.commands.terms.take_citation.Goals as goal

pub returns-then-t-thms-clause-taken : goal.returns-then-t-thms-clause-taken
returns-then-t-thms-clause-taken c st ctx is = cites-none portable (map tree_of) (λ _. refl) c.args.env.now c.args.t st (omega (arith, c.thms.ensures.rows, c.if-t-thms.true))

pub returns-then-len-arity-clause-taken : goal.returns-then-len-arity-clause-taken
returns-then-len-arity-clause-taken c st ctx is =
    cites-few portable (map tree_of) (λ _. refl) c.args.env.now c.args.t st (items_at c.args.nodes.now c.args.stack.now.items) (length c.args.stack.now.items) c.arity_of-arity.result (items-many c.args.nodes.now c.args.stack.now.items) (omega (arith, c.thms.ensures.rows, c.if-t-thms.false)) c.arity_of-arity.ensures is
    (omega (arith, c.len.ensures, c.args.stack.now.ok.0, c.if-len-arity.true))

pub returns-in-Err-clause-taken : goal.returns-in-Err-clause-taken
returns-in-Err-clause-taken c st ctx is =
    cites-other portable (map tree_of) (λ _. refl) c.args.env.now c.args.t st (items_at c.args.nodes.now c.args.stack.now.items) (length c.args.stack.now.items) c.arity_of-arity.result (items-many c.args.nodes.now c.args.stack.now.items) (omega (arith, c.thms.ensures.rows, c.if-t-thms.false)) c.arity_of-arity.ensures is
    (omega (arith, c.len.ensures, c.args.stack.now.ok.0, c.if-len-arity.false)) c.in-Err.rule c.in-Err.ensures.taken

pub returns-in_err-pop_operands-clause-taken : goal.returns-in_err-pop_operands-clause-taken
returns-in_err-pop_operands-clause-taken c st ctx is =
    let p = err_from_is_err_and c.from_residual.result c.from_residual.ensures.1 in
    rw (p.1, p.2) (stops-as c.in_err-pop_operands.field-0.0 _ (λ k. citation portable (tables_of c.args.env.now) c.args.t st ≡ Err k)
    (λ k h. cites-without portable (map tree_of) (λ _. refl) c.args.env.now c.args.t st (items_at c.args.nodes.now c.args.stack.now.items) (length c.args.stack.now.items) c.arity_of-arity.result (items-many c.args.nodes.now c.args.stack.now.items) (omega (arith, c.thms.ensures.rows, c.if-t-thms.false)) c.arity_of-arity.ensures is
    (omega (arith, c.len.ensures, c.args.stack.now.ok.0, c.if-len-arity.false)) _ _ c.in-Ok.ensures.taken k h) c.in_err-pop_operands.ensures.taken)

pub returns-in_err-check_cited-clause-taken : goal.returns-in_err-check_cited-clause-taken
returns-in_err-check_cited-clause-taken c st ctx is =
    let p = err_from_is_err_and c.from_residual-in_err-check_cited.result c.from_residual-in_err-check_cited.ensures.1 in
    rw (p.1, p.2) (stops-as c.in_err-check_cited.field-0.0 _ (λ k. citation portable (tables_of c.args.env.now) c.args.t st ≡ Err k)
    (λ k h. cites-unfit portable (map tree_of) (λ _. refl) c.args.env.now c.args.t st (items_at c.args.nodes.now c.args.stack.now.items) (length c.args.stack.now.items) c.arity_of-arity.result (items-many c.args.nodes.now c.args.stack.now.items) (omega (arith, c.thms.ensures.rows, c.if-t-thms.false)) c.arity_of-arity.ensures is
    (omega (arith, c.len.ensures, c.args.stack.now.ok.0, c.if-len-arity.false)) _ _ c.in-Ok.ensures.taken _ _ c.in_ok-pop_operands.ensures.taken c.args.nodes.now.context ctx k
    (subst (λ (ids : List Id). operands_fit (signatures_of c.args.env.now) c.args.nodes.now.context (trees_at c.args.nodes.now ids) (binders_of (thm_row c.args.env.now.file c.args.t).params) ≡ Err k) c.deref.ensures.value h)) c.in_err-check_cited.ensures.fit)

pub returns-then-not-are_disjoint-clause-taken : goal.returns-then-not-are_disjoint-clause-taken
returns-then-not-are_disjoint-clause-taken c st ctx is =
    cites-meeting portable (map tree_of) (λ _. refl) c.args.env.now c.args.t st (items_at c.args.nodes.now c.args.stack.now.items) (length c.args.stack.now.items) c.arity_of-arity.result (items-many c.args.nodes.now c.args.stack.now.items) (omega (arith, c.thms.ensures.rows, c.if-t-thms.false)) c.arity_of-arity.ensures is
    (omega (arith, c.len.ensures, c.args.stack.now.ok.0, c.if-len-arity.false)) _ _ c.in-Ok.ensures.taken _ _ c.in_ok-pop_operands.ensures.taken c.args.nodes.now.context ctx
    (subst (λ (ids : List Id). operands_fit (signatures_of c.args.env.now) c.args.nodes.now.context (trees_at c.args.nodes.now ids) (binders_of (thm_row c.args.env.now.file c.args.t).params) ≡ Ok tt) c.deref.ensures.value c.in_ok-check_cited.ensures.fit)
    (subst (λ (ids : List Id). are_disjoint c.args.nodes.now.context (trees_at c.args.nodes.now ids) (binders_of (thm_row c.args.env.now.file c.args.t).params) ≡ false) c.deref-2.ensures.value (sym c.are_disjoint.ensures ∙ c.if-not-are_disjoint.true))

pub returns-clause-taken : goal.returns-clause-taken
returns-clause-taken c st ctx is =
    cites-so portable (map tree_of) (λ _. refl) c.args.env.now c.args.t st (items_at c.args.nodes.now c.args.stack.now.items) (length c.args.stack.now.items) c.arity_of-arity.result (items-many c.args.nodes.now c.args.stack.now.items) (omega (arith, c.thms.ensures.rows, c.if-t-thms.false)) c.arity_of-arity.ensures is
    (omega (arith, c.len.ensures, c.args.stack.now.ok.0, c.if-len-arity.false)) _ _ c.in-Ok.ensures.taken _ _ c.in_ok-pop_operands.ensures.taken c.args.nodes.now.context ctx
    (subst (λ (ids : List Id). operands_fit (signatures_of c.args.env.now) c.args.nodes.now.context (trees_at c.args.nodes.now ids) (binders_of (thm_row c.args.env.now.file c.args.t).params) ≡ Ok tt) c.deref.ensures.value c.in_ok-check_cited.ensures.fit)
    (subst (λ (ids : List Id). are_disjoint c.args.nodes.now.context (trees_at c.args.nodes.now ids) (binders_of (thm_row c.args.env.now.file c.args.t).params) ≡ true) c.deref-2.ensures.value (sym c.are_disjoint.ensures ∙ c.if-not-are_disjoint.false))

pub returns-in_err-pop_operands-clause-there : goal.returns-in_err-pop_operands-clause-there
returns-in_err-pop_operands-clause-there c = rw (err_from_is_err_and c.from_residual.result c.from_residual.ensures.1).1 tt

pub returns-in_err-pop_operands-clause-ids : goal.returns-in_err-pop_operands-clause-ids
returns-in_err-pop_operands-clause-ids c = rw (err_from_is_err_and c.from_residual.result c.from_residual.ensures.1).1 tt

pub returns-in_err-check_cited-clause-there : goal.returns-in_err-check_cited-clause-there
returns-in_err-check_cited-clause-there c = rw (err_from_is_err_and c.from_residual-in_err-check_cited.result c.from_residual-in_err-check_cited.ensures.1).1 tt

pub returns-in_err-check_cited-clause-ids : goal.returns-in_err-check_cited-clause-ids
returns-in_err-check_cited-clause-ids c = rw (err_from_is_err_and c.from_residual-in_err-check_cited.result c.from_residual-in_err-check_cited.ensures.1).1 tt

-- ---- what the calls ask

pub pop_expr-requires : goal.pop_expr-requires
pop_expr-requires c = c.requires.stack

pub pop_operands-requires : goal.pop_operands-requires
pop_operands-requires c = c.in-Ok.ensures.ids.1

pub check_cited-requires-clause-over : goal.check_cited-requires-clause-over
check_cited-requires-clause-over c = c.requires.over

pub are_disjoint-requires-clause-over : goal.are_disjoint-requires-clause-over
are_disjoint-requires-clause-over c = c.requires.over

pub returns-clause-ids : goal.returns-clause-ids
returns-clause-ids c = (c.in-Ok.ensures.ids.0, c.in_ok-pop_operands.ensures.ids.0, c.in_ok-pop_operands.ensures.ids.1)
