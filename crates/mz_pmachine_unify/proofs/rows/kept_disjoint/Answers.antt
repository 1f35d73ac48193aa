use Rattle.std.proofs.Common.{◌≡◌, [], ◌∙◌, ap, map, take, arith, subst}
use Rattle.std.proofs.lemmas.Option.{slice_get-get_or}
use Rattle.std.proofs.Math.Seq.{take-length}
use Rattle.mz_store.specs.Bits.{bound_vars}
use Rattle.mz_unify.specs.Rows.{InAnyV, TellsAny}
use Rattle.mz_unify.proofs.Offered.{tells-none}
use Rattle.mz_pmachine_theory.specs.NodeIdentity.{tree_of}
use Rattle.mz_pmachine_unify.specs.Stored.{exprs_at}
use Rattle.mz_pmachine_unify.proofs.StoredIds.{is-in-at}
use Rattle.mz_pmachine_unify.proofs.VariableWords.{tells-next}
use Rattle.mz_pmachine_unify.proofs.rows.kept_disjoint.Goals as goal

pub vars-word-requires : goal.vars-word-requires
vars-word-requires c = is-in-at c.args.nodes.now c.args.ids.now c.loop-id.id-index _ c.requires.ids (slice_get-get_or _ _ _ c.loop-id-test.true)

pub loop-id-init : goal.loop-id-init
loop-id-init c sigs over = tells-none (bound_vars c.args.nodes.now.context) (InAnyV c.args.nodes.now.context []) (λ x h. h)

pub loop-id-preserved : goal.loop-id-preserved
loop-id-preserved c sigs over =
    tells-next c.args.nodes.now c.args.ids.now c.loop-id.id-index _ c.loop-id.word c.vars-word.result (slice_get-get_or _ _ _ c.loop-id-test.true) (c.loop-id.invariant sigs over) (c.vars-word.ensures.variables sigs over)

pub returns : goal.returns
returns c sigs over =
    let whole : take c.loop-id.id-index c.args.ids.now ≡ c.args.ids.now = ap (λ k. take k c.args.ids.now) (omega arith) ∙ take-length c.args.ids.now in
    subst (λ is. TellsAny c.args.nodes.now.context c.loop-id.word (map tree_of (exprs_at c.args.nodes.now is))) whole (c.loop-id.invariant sigs over)
