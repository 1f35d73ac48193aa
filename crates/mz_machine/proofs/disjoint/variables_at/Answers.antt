use Rattle.std.proofs.Common.{arith, add-one}
use Rattle.std.proofs.lemmas.Option.{slice_get-get_or}
use Rattle.mz_store.specs.declared.item.Id.{Id}
use Rattle.mz_store.specs.Sharing.{deps_of}
use Rattle.mz_unify.proofs.Offered.{is-in-at}
use Rattle.mz_machine_env.proofs.Offered.{among-none, among-next, among-all}
use Rattle.mz_machine.proofs.disjoint.variables_at.Goals as goal

pub places-init : goal.places-init
places-init c = among-none (λ (id : Id). deps_of c.args.store.now id.0) c.args.operands.now c.args.places.now 0

pub bounds-operands-place : goal.bounds-operands-place
bounds-operands-place c = c.requires.within c.places.place-index _ (slice_get-get_or _ _ 0 c.places-test.true)

pub deps-word-requires : goal.deps-word-requires
deps-word-requires c =
    is-in-at c.args.store.now c.args.operands.now _ _ c.requires.ids
    (slice_get-get_or _ _ _ (c.requires.within c.places.place-index _ (slice_get-get_or _ _ 0 c.places-test.true)))

pub places-preserved : goal.places-preserved
places-preserved c =
    let at = slice_get-get_or c.args.places.now c.places.place-index 0 c.places-test.true in
    rw (add-one c.places.place-index)
    (among-next (λ (id : Id). deps_of c.args.store.now id.0) c.args.operands.now c.args.places.now c.places.place-index c.places.word c.deps-word.result _ _ at
    (slice_get-get_or _ _ _ (c.requires.within c.places.place-index _ at)) c.deps-word.ensures.kept c.places.invariant)

pub returns : goal.returns
returns c =
    among-all (λ (id : Id). deps_of c.args.store.now id.0) c.args.operands.now c.args.places.now c.places.place-index c.places.word (omega (arith, c.places-test.false)) c.places.invariant
