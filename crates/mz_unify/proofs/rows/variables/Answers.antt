use Rattle.std.proofs.Common.{◌≡◌, [], ◌∙◌, ap, take, arith, subst}
use Rattle.std.proofs.lemmas.Option.{slice_get-get_or}
use Rattle.std.proofs.Math.Seq.{take-length}
use Rattle.mz_store.specs.Bits.{bound_vars}
use Rattle.mz_unify.specs.Rows.{InAnyV, TellsAny}
use Rattle.mz_unify.specs.Stored.{trees_at}
use Rattle.mz_unify.proofs.StoredIds.{is-in-at}
use Rattle.mz_unify.proofs.VariableWords.{tells-none, tells-next}
use Rattle.mz_unify.proofs.rows.variables.Goals as goal

pub deps-word-requires : goal.deps-word-requires
deps-word-requires c = is-in-at c.args.store.now c.args.ids.now c.loop-id.id-index _ c.requires.ids (slice_get-get_or _ _ _ c.loop-id-test.true)

pub loop-id-init : goal.loop-id-init
loop-id-init c sigs over = tells-none (bound_vars c.args.store.now.context) (InAnyV c.args.store.now.context []) (λ x h. h)

pub loop-id-preserved : goal.loop-id-preserved
loop-id-preserved c sigs over =
    tells-next c.args.store.now sigs c.args.ids.now c.loop-id.id-index _ c.loop-id.word c.deps-word.result c.requires.told (slice_get-get_or _ _ _ c.loop-id-test.true) (c.loop-id.invariant sigs over) (c.deps-word.ensures.variables sigs over)

pub returns : goal.returns
returns c sigs over =
    let whole : take c.loop-id.id-index c.args.ids.now ≡ c.args.ids.now = ap (λ k. take k c.args.ids.now) (omega arith) ∙ take-length c.args.ids.now in
    subst (λ is. TellsAny c.args.store.now.context c.loop-id.word (trees_at c.args.store.now is)) whole (c.loop-id.invariant sigs over)
