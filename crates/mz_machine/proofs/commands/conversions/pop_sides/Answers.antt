use Rattle.std.proofs.Common.{◌∙◌, ◌∷◌, ap, sym, refl}
use Rattle.std.proofs.lemmas.Result.{err_from_is_err_and}
use Rattle.mz_machine_theory.specs.Premises.{pop_sides}
use Rattle.mz_machine_theory.specs.Profile.{strict}
use Rattle.mz_unify.specs.Stored.{items_at, item_at}
use Rattle.mz_machine.proofs.Converting.{no-item, pop-is, sides-none, sides-same, sides-other, true-false}
use Rattle.mz_machine.proofs.commands.conversions.pop_sides.Goals as goal

pub returns-then-same-clause-taken : goal.returns-then-same-clause-taken
returns-then-same-clause-taken c =
    sides-same _ _ _ _ _ _
    (pop-is _ _ _ c.in_ok-middle.ensures.taken ∙ ap (λ x. item_at c.args.store.now x ∷ items_at c.args.store.now c.pop.new.stack.items) c.in-Expr.is)
    c.in_ok-left-in-Expr.ensures.taken (c.if-same.ensures.trees.0 refl)

pub returns-else-same-clause-taken : goal.returns-else-same-clause-taken
returns-else-same-clause-taken c =
    sides-other _ _ _ _ _ _
    (pop-is _ _ _ c.in_ok-middle.ensures.taken ∙ ap (λ x. item_at c.args.store.now x ∷ items_at c.args.store.now c.pop.new.stack.items) c.in-Expr.is)
    c.in_ok-left-in-Expr.ensures.taken (λ same. true-false (sym (c.if-same.ensures.trees.1 same)))

pub returns-in_err-middle-clause-taken : goal.returns-in_err-middle-clause-taken
returns-in_err-middle-clause-taken c =
    let p = err_from_is_err_and c.from_residual.result c.from_residual.ensures.1 in
    rw (p.1, p.2) (no-item _ _ c.in_err-middle.ensures.taken)

pub returns-in_err-left-in-Expr-clause-taken : goal.returns-in_err-left-in-Expr-clause-taken
returns-in_err-left-in-Expr-clause-taken c =
    let p = err_from_is_err_and c.from_residual-in_err-left-in-Expr.result c.from_residual-in_err-left-in-Expr.ensures.1 in
    rw (p.1, p.2) (sides-none _ _ _ _
    (pop-is _ _ _ c.in_ok-middle.ensures.taken ∙ ap (λ x. item_at c.args.store.now x ∷ items_at c.args.store.now c.pop.new.stack.items) c.in-Expr.is) c.in_err-left-in-Expr.ensures.taken)

pub returns-in-Obligation-clause-taken : goal.returns-in-Obligation-clause-taken
returns-in-Obligation-clause-taken c =
    ap (pop_sides strict) (pop-is _ _ _ c.in_ok-middle.ensures.taken ∙ ap (λ x. item_at c.args.store.now x ∷ items_at c.args.store.now c.pop.new.stack.items) c.in-Obligation.is)

pub returns-in_err-middle-clause-ids : goal.returns-in_err-middle-clause-ids
returns-in_err-middle-clause-ids c = rw (err_from_is_err_and c.from_residual.result c.from_residual.ensures.1).1 tt

pub returns-in_err-left-in-Expr-clause-ids : goal.returns-in_err-left-in-Expr-clause-ids
returns-in_err-left-in-Expr-clause-ids c = rw (err_from_is_err_and c.from_residual-in_err-left-in-Expr.result c.from_residual-in_err-left-in-Expr.ensures.1).1 tt

-- ---- what the calls ask

pub pop-requires : goal.pop-requires
pop-requires c = c.requires

pub pop_obligation-requires : goal.pop_obligation-requires
pop_obligation-requires c = c.in_ok-middle.ensures.ids.1
