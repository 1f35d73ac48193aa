use Rattle.std.proofs.Common.{◌≡◌, ◌∙◌, Err, Ok, List, true, false, length, sym, subst, arith}
use Rattle.mz_logic_theory.specs.Words.{binders_of}
use Rattle.mz_layout_tables.specs.Tables.{thm_row}
use Rattle.mz_store.specs.declared.item.Id.{Id}
use Rattle.mz_unify.specs.Stored.{items_at, trees_at}
use Rattle.mz_machine_theory.specs.Profile.{strict}
use Rattle.mz_machine_theory.specs.ProofMachine.{citation}
use Rattle.mz_machine_theory.specs.Premises.{operands_fit, are_disjoint}
use Rattle.mz_machine_env.specs.Before.{tables_of, signatures_of}
use Rattle.mz_machine.proofs.Stopping.{stops-as}
use Rattle.mz_machine.proofs.TermResults.{map-same}
use Rattle.mz_machine.proofs.CitationRows.{cites-none, cites-few, cites-other, cites-without, cites-unfit, cites-meeting, cites-so}
use Rattle.mz_machine.proofs.Citing.{items-many}
use Rattle.mz_machine.proofs.commands.terms.take_citation.Goals as goal

pub returns-then-t-thms-clause-taken : goal.returns-then-t-thms-clause-taken
returns-then-t-thms-clause-taken c st ctx is = cites-none strict (λ es. es) map-same c.args.env.now c.args.t st (omega (arith, c.thms.ensures.rows, c.if-t-thms.true))

pub returns-then-len-arity-clause-taken : goal.returns-then-len-arity-clause-taken
returns-then-len-arity-clause-taken c st ctx is =
    cites-few strict (λ es. es) map-same c.args.env.now c.args.t st (items_at c.args.store.now c.args.stack.now.items) (length c.args.stack.now.items) c.arity_of-arity.result (items-many c.args.store.now c.args.stack.now.items) (omega (arith, c.thms.ensures.rows, c.if-t-thms.false)) c.arity_of-arity.ensures is
    (omega (arith, c.len.ensures, c.args.stack.now.ok.0, c.if-len-arity.true))

pub returns-in-Err-clause-taken : goal.returns-in-Err-clause-taken
returns-in-Err-clause-taken c st ctx is =
    cites-other strict (λ es. es) map-same c.args.env.now c.args.t st (items_at c.args.store.now c.args.stack.now.items) (length c.args.stack.now.items) c.arity_of-arity.result (items-many c.args.store.now c.args.stack.now.items) (omega (arith, c.thms.ensures.rows, c.if-t-thms.false)) c.arity_of-arity.ensures is
    (omega (arith, c.len.ensures, c.args.stack.now.ok.0, c.if-len-arity.false)) c.in-Err.rule c.in-Err.ensures.taken

pub returns-in-Err-pop_operands-clause-taken : goal.returns-in-Err-pop_operands-clause-taken
returns-in-Err-pop_operands-clause-taken c st ctx is =
    stops-as c.in-Err-pop_operands.stop _ (λ k. citation strict (tables_of c.args.env.now) c.args.t st ≡ Err k)
    (λ k h. cites-without strict (λ es. es) map-same c.args.env.now c.args.t st (items_at c.args.store.now c.args.stack.now.items) (length c.args.stack.now.items) c.arity_of-arity.result (items-many c.args.store.now c.args.stack.now.items) (omega (arith, c.thms.ensures.rows, c.if-t-thms.false)) c.arity_of-arity.ensures is
    (omega (arith, c.len.ensures, c.args.stack.now.ok.0, c.if-len-arity.false)) _ _ c.in-Ok.ensures.taken k h) c.in-Err-pop_operands.ensures.taken

pub returns-in-Err-check_cited-clause-taken : goal.returns-in-Err-check_cited-clause-taken
returns-in-Err-check_cited-clause-taken c st ctx is =
    stops-as c.in-Err-check_cited.stop _ (λ k. citation strict (tables_of c.args.env.now) c.args.t st ≡ Err k)
    (λ k h. cites-unfit strict (λ es. es) map-same c.args.env.now c.args.t st (items_at c.args.store.now c.args.stack.now.items) (length c.args.stack.now.items) c.arity_of-arity.result (items-many c.args.store.now c.args.stack.now.items) (omega (arith, c.thms.ensures.rows, c.if-t-thms.false)) c.arity_of-arity.ensures is
    (omega (arith, c.len.ensures, c.args.stack.now.ok.0, c.if-len-arity.false)) _ _ c.in-Ok.ensures.taken _ _ c.in_default.ensures.taken c.args.store.now.context ctx k
    (subst (λ (ids : List Id). operands_fit (signatures_of c.args.env.now) c.args.store.now.context (trees_at c.args.store.now ids) (binders_of (thm_row c.args.env.now.file c.args.t).params) ≡ Err k) c.deref.ensures.value h)) c.in-Err-check_cited.ensures.fit

pub returns-then-not-are_disjoint-clause-taken : goal.returns-then-not-are_disjoint-clause-taken
returns-then-not-are_disjoint-clause-taken c st ctx is =
    cites-meeting strict (λ es. es) map-same c.args.env.now c.args.t st (items_at c.args.store.now c.args.stack.now.items) (length c.args.stack.now.items) c.arity_of-arity.result (items-many c.args.store.now c.args.stack.now.items) (omega (arith, c.thms.ensures.rows, c.if-t-thms.false)) c.arity_of-arity.ensures is
    (omega (arith, c.len.ensures, c.args.stack.now.ok.0, c.if-len-arity.false)) _ _ c.in-Ok.ensures.taken _ _ c.in_default.ensures.taken c.args.store.now.context ctx
    (subst (λ (ids : List Id). operands_fit (signatures_of c.args.env.now) c.args.store.now.context (trees_at c.args.store.now ids) (binders_of (thm_row c.args.env.now.file c.args.t).params) ≡ Ok tt) c.deref.ensures.value c.in_default-check_cited.ensures.fit)
    (subst (λ (ids : List Id). are_disjoint c.args.store.now.context (trees_at c.args.store.now ids) (binders_of (thm_row c.args.env.now.file c.args.t).params) ≡ false) c.deref-2.ensures.value (sym c.are_disjoint.ensures ∙ c.if-not-are_disjoint.true))

pub returns-clause-taken : goal.returns-clause-taken
returns-clause-taken c st ctx is =
    cites-so strict (λ es. es) map-same c.args.env.now c.args.t st (items_at c.args.store.now c.args.stack.now.items) (length c.args.stack.now.items) c.arity_of-arity.result (items-many c.args.store.now c.args.stack.now.items) (omega (arith, c.thms.ensures.rows, c.if-t-thms.false)) c.arity_of-arity.ensures is
    (omega (arith, c.len.ensures, c.args.stack.now.ok.0, c.if-len-arity.false)) _ _ c.in-Ok.ensures.taken _ _ c.in_default.ensures.taken c.args.store.now.context ctx
    (subst (λ (ids : List Id). operands_fit (signatures_of c.args.env.now) c.args.store.now.context (trees_at c.args.store.now ids) (binders_of (thm_row c.args.env.now.file c.args.t).params) ≡ Ok tt) c.deref.ensures.value c.in_default-check_cited.ensures.fit)
    (subst (λ (ids : List Id). are_disjoint c.args.store.now.context (trees_at c.args.store.now ids) (binders_of (thm_row c.args.env.now.file c.args.t).params) ≡ true) c.deref-2.ensures.value (sym c.are_disjoint.ensures ∙ c.if-not-are_disjoint.false))

-- ---- what the calls ask

pub pop_expr-requires : goal.pop_expr-requires
pop_expr-requires c = c.requires.stack

pub pop_operands-requires : goal.pop_operands-requires
pop_operands-requires c = c.in-Ok.ensures.ids.1

pub check_cited-requires-clause-over : goal.check_cited-requires-clause-over
check_cited-requires-clause-over c = c.requires.over

pub are_disjoint-requires-clause-over : goal.are_disjoint-requires-clause-over
are_disjoint-requires-clause-over c = c.requires.over

pub are_disjoint-requires-clause-mode : goal.are_disjoint-requires-clause-mode
are_disjoint-requires-clause-mode c = c.requires.mode

pub returns-clause-ids : goal.returns-clause-ids
returns-clause-ids c = (c.in-Ok.ensures.ids.0, c.in_default.ensures.ids.0, c.in_default.ensures.ids.1, omega (arith, c.thms.ensures.rows, c.if-t-thms.false))
