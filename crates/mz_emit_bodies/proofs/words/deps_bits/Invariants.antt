use Rattle.std.proofs.Common.{◌≡◌, List, take}
use Rattle.mz_logic_theory.specs.WordsWritten.{bits_of, bound_from}
use Rattle.mz_logic_theory.specs.declared.binder.Binder.{Binder}
use Rattle.mz_emit_bodies.specs.Bits.{place_bits}
use Rattle.mz_emit_bodies.proofs.words.deps_bits.Given as goal

abbrev pub invariant-loop-place : goal.invariant-loop-place
invariant-loop-place l = (bs : List Binder) → l.bits ≡ place_bits 0 bs → l.deps ≡ bits_of (bound_from 0 bs) (take l.place-index l.place-items)
