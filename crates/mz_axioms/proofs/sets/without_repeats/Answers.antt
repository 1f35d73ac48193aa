use Rattle.std.proofs.Common.{refl, slice_index_or}
use Rattle.mz_axioms.proofs.Halving.{once-next}
use Rattle.mz_axioms.proofs.sets.without_repeats.Goals as goal

pub ids-preserved : goal.ids-preserved
ids-preserved c =
    let ids = c.args.ids.now in
    let i = c.ids.id-index in
    record { so_far = once-next ids c.ids.kept.items c.push_other.new.kept.items i c.ids.last (slice_index_or ids i 0) c.ids-test.true refl c.in_ok-push_other.ensures c.ids.invariant.so_far }
