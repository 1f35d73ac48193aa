use Rattle.std.proofs.Common.{◌≡◌, length, take}
use Rattle.mz_logic_theory.specs.WordsWritten.{bound_from, words_of}
use Rattle.mz_emit_bodies.specs.Bits.{place_bits}
use Rattle.mz_emit_bodies.proofs.words.BinderWords.of.Given as goal

abbrev pub invariant-loop-binder : goal.invariant-loop-binder
invariant-loop-binder l = (l.params.items ≡ words_of (take l.binder-index l.binders))
    × (l.bits.items ≡ place_bits 0 (take l.binder-index l.binders))
    × (l.bound ≡ length (bound_from 0 (take l.binder-index l.binders)))
