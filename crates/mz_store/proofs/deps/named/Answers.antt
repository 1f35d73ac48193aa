use Rattle.std.proofs.Common.{◌<◌, ◌+◌, Contains, get_or, length, drop, refl, arith, sym, subst}
use Rattle.std.proofs.lemmas.List.{drop_all, drop_more, get_or_default}
use Rattle.mz_store.specs.Bits.{Tells, bound_vars}
use Rattle.mz_store.specs.Sharing.{deps_of, trees_of, DependsOn}
use Rattle.mz_store.specs.Kept.{shared_by}
use Rattle.mz_store.proofs.BoundOperands.{take-place, bits-over, places-over}
use Rattle.mz_store.proofs.Params.{nothing, in-at, operand-at}
use Rattle.mz_store.proofs.deps.named.Goals as goal

pub returns-then-left-eq0 : goal.returns-then-left-eq0
returns-then-left-eq0 c sigs params over fits bound =
    bits-over (shared_by c.args.store.now).context (trees_of (shared_by c.args.store.now) c.args.args.now) params (drop c.loop-place.place-index c.args.places.now) c.loop-place.left c.loop-place.word c.if-left-eq0.true _
    (c.loop-place.invariant sigs params over fits bound)

pub bounds-args-place : goal.bounds-args-place
bounds-args-place c = c.requires.within _ (c.loop-place.place-index, omega arith, get_or_default c.args.places.now c.loop-place.place-index _ _ (omega arith))

pub chosen-word-requires-clause-inside : goal.chosen-word-requires-clause-inside
chosen-word-requires-clause-inside c = in-at (shared_by c.args.store.now) c.args.args.now _ c.requires.ids
    (c.requires.within _ (c.loop-place.place-index, omega arith, get_or_default c.args.places.now c.loop-place.place-index _ _ (omega arith)))

pub loop-place-preserved : goal.loop-place-preserved
loop-place-preserved c sigs params over fits bound =
    let here : c.loop-place.place-index < length c.args.places.now = omega arith in
    let has : Contains c.args.places.now (get_or c.args.places.now c.loop-place.place-index 0) =
    (c.loop-place.place-index, here, get_or_default c.args.places.now c.loop-place.place-index _ _ here) in
    let inside = c.requires.within _ has in
    let place = get_or c.args.places.now c.loop-place.place-index 0 in
    let arg = (get_or c.args.args.now place nothing).0 in
    let tells = subst (λ e. Tells (bound_vars (shared_by c.args.store.now).context) (deps_of (shared_by c.args.store.now) arg) (DependsOn (shared_by c.args.store.now).mode sigs (shared_by c.args.store.now).context e)) (sym (operand-at (shared_by c.args.store.now) c.args.args.now place inside)) (over arg (in-at (shared_by c.args.store.now) c.args.args.now place c.requires.ids inside)).1 in
    take-place (shared_by c.args.store.now).context (trees_of (shared_by c.args.store.now) c.args.args.now) (shared_by c.args.store.now).mode sigs params fits place (drop c.loop-place.place-index c.args.places.now)
    (drop (c.loop-place.place-index + 1) c.args.places.now) c.loop-place.left _ c.loop-place.word (deps_of (shared_by c.args.store.now) arg) c.chosen-word.result (bound _ has)
    (drop_more c.args.places.now c.loop-place.place-index 0 here) refl tells c.chosen-word.ensures _
    (c.loop-place.invariant sigs params over fits bound)

pub returns : goal.returns
returns c sigs params over fits bound =
    places-over (shared_by c.args.store.now).context (trees_of (shared_by c.args.store.now) c.args.args.now) params (drop c.loop-place.place-index c.args.places.now) c.loop-place.left c.loop-place.word (drop_all c.loop-place.place-index c.args.places.now (omega arith)) _
    (c.loop-place.invariant sigs params over fits bound)
