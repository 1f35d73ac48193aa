use Rattle.std.proofs.Common.{ℕ, List, get_or, slice_index_or, take, ap, sym, ◌∙◌, bit_or}
use Rattle.std.proofs.lemmas.List.{take_more}
use Rattle.mz_logic_theory.specs.WordsWritten.{bits_of, bound_from}
use Rattle.mz_emit_bodies.proofs.Bits.{bits_none, bits_push, bit_at_place}
use Rattle.mz_emit_bodies.proofs.words.deps_bits.Goals as goal

pub loop-place-init : goal.loop-place-init
loop-place-init c = λ bs is. sym (bits_none (bound_from 0 bs))

pub loop-place-preserved : goal.loop-place-preserved
loop-place-preserved c = λ bs is.
    let places = c.as_slice-place-items.result.now in
    let d = slice_index_or places c.loop-place.place-index 0 in
    let bit = ap (λ (xs : List ℕ). get_or xs d 0) is ∙ bit_at_place bs d in
    ap (λ (n : ℕ). bit_or n (slice_index_or c.args.bits.now d 0)) (c.loop-place.invariant bs is) ∙ ap (bit_or (bits_of (bound_from 0 bs) (take c.loop-place.place-index places))) bit
    ∙ sym (bits_push (bound_from 0 bs) (take c.loop-place.place-index places) d)
    ∙ ap (bits_of (bound_from 0 bs)) (sym (take_more places c.loop-place.place-index 0 c.loop-place-test.true))
