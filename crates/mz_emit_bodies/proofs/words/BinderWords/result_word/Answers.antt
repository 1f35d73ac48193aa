use Rattle.std.proofs.Common.{ℕ, ◌≡◌, ◌+◌, ◌*◌, ◌^◌, length, ap, ◌∙◌, arith}
use Rattle.mz_logic_theory.specs.WordsWritten.{bound_from}
use Rattle.mz_emit_bodies.proofs.Bits.{place_bits_long, bits_below}
use Rattle.mz_emit_bodies.proofs.words.BinderWords.result_word.Goals as goal

pub deps_bits-requires : goal.deps_bits-requires
deps_bits-requires c = λ k d lt.
    let less = c.requires.words.2 k d lt in
    let long = ap length (c.deref.ensures.value ∙ c.requires.words.1.bits) ∙ place_bits_long 0 c.requires.words.0 in
    omega (arith, less, long)

pub word-requires-clause-deps : goal.word-requires-clause-deps
word-requires-clause-deps c =
    let is = c.deps_bits.ensures c.requires.words.0 (c.deref.ensures.value ∙ c.requires.words.1.bits) in
    let small = bits_below (bound_from 0 c.requires.words.0) c.args.result_type.now.deps c.requires.words.1.few in
    omega (arith, is, small)

pub returns : goal.returns
returns c = λ bs of.
    let zero_more : 0 + c.args.result_type.now.sort * 2 ^ 56 + c.deps_bits.result ≡ c.args.result_type.now.sort * 2 ^ 56 + c.deps_bits.result = omega arith in
    ap (λ (n : ℕ). record { 0 = n }) (c.word.ensures ∙ zero_more ∙ ap (λ (n : ℕ). c.args.result_type.now.sort * 2 ^ 56 + n) (c.deps_bits.ensures bs (c.deref.ensures.value ∙ of.bits)))
