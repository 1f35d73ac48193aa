use Rattle.std.proofs.Common.{◌≡◌, ◌++◌, List, reverse}
use Rattle.mz_logic_theory.specs.declared.binder.Binder.{Binder}
use Rattle.mz_store.specs.Sharing.{trees_of}
use Rattle.mz_store.specs.declared.item.Id.{Id}
use Rattle.mz_emit_theory.specs.StreamWriting.{Writing}
use Rattle.mz_emit.specs.Going.{CanSpellAll, HasWritten, IsReady, hyps_written}
use Rattle.mz_emit.proofs.stream.Stream.spell_hyps.Given as goal

abbrev pub invariant-loop-hyp : goal.invariant-loop-hyp
invariant-loop-hyp l = (done : List Id) × (l.hyps ≡ l.hyp-iterator.iter.rest.now ++ done)
    × ((ps ds : List Binder) (w : Writing) → IsReady ps ds l.store l.initial.self w → CanSpellAll ps ds w (trees_of l.store l.hyps)
    → HasWritten ps ds l.store l.initial.self l.self (hyps_written ps ds l.store w (reverse done)))
