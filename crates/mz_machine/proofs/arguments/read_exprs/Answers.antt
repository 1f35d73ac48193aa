use Rattle.std.proofs.Common.{◌≡◌, ◌≤◌, suc, ◌∷◌, List, Ok, drop, length, sym, ap, ◌∙◌, arith, add-one}
use Rattle.std.proofs.lemmas.List.{append-nil}
use Rattle.std.proofs.lemmas.Option.{slice_get-get_or}
use Rattle.std.proofs.lemmas.Result.{err_from_is_err_and}
use Rattle.mz_base.proofs.Offered.{drop-past}
use Rattle.mz_store.specs.declared.item.Id.{Id}
use Rattle.mz_store.specs.declared.item.Item.{Item as Kept}
use Rattle.mz_store.specs.declared.item.Item.TheVariants.{Expr}
use Rattle.mz_machine_env.proofs.Offered.{next-at}
use Rattle.mz_machine.specs.OverStore.{exprs_of}
use Rattle.mz_machine.proofs.ReadExprs.{after, after-none, after-one, other-item}
use Rattle.mz_machine.proofs.HandedOn.{memory-stops}
use Rattle.mz_machine.proofs.arguments.read_exprs.Goals as goal

pub items-init : goal.items-init
items-init c = rw c.clear.ensures.items (after-none (exprs_of c.args.items.now))

pub returns-in_default : goal.returns-in_default
returns-in_default c =
    sym c.items.invariant
    ∙ ap (λ (xs : List Kept). after c.items.ids.items (exprs_of xs)) (next-at c.args.items.now c.items.item-index _ (slice_get-get_or _ _ _ c.items-test.true))
    ∙ ap (after c.items.ids.items) (other-item _ (drop (suc c.items.item-index) c.args.items.now) c.in_default.not-Expr)

pub items-preserved : goal.items-preserved
items-preserved c =
    let k = c.items.item-index in
    let front : drop k c.args.items.now ≡ Expr c.in-Expr.id ∷ drop (suc k) c.args.items.now =
    next-at c.args.items.now k _ (slice_get-get_or _ _ _ c.items-test.true) ∙ ap (λ (x : Kept). x ∷ drop (suc k) c.args.items.now) c.in-Expr.is in
    rw (add-one k, c.in_ok-push.ensures.ok)
    (after-one c.items.ids.items c.in-Expr.id (exprs_of (drop (suc k) c.args.items.now))
    ∙ ap (λ (xs : List Kept). after c.items.ids.items (exprs_of xs)) (sym front) ∙ c.items.invariant)

pub returns : goal.returns
returns c =
    let past : length c.args.items.now ≤ c.items.item-index = omega (arith, c.items-test.false) in
    sym c.items.invariant
    ∙ ap (λ (xs : List Kept). after c.items.ids.items (exprs_of xs)) (drop-past c.args.items.now c.items.item-index past)
    ∙ ap (λ (is : List Id). Ok is) (append-nil c.items.ids.items)

pub returns-in_err-push : goal.returns-in_err-push
returns-in_err-push c =
    let p = err_from_is_err_and c.from_residual.result c.from_residual.ensures.1 in
    rw (p.1, p.2) (memory-stops _ _ c.in_err-push.ensures.err)
