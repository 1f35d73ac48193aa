use Rattle.std.proofs.Common.{◌≡◌, ◌<◌, ◌+◌, ◌^◌, drop}
use Rattle.mz_decompile_text.specs.ByNumber.{phrases_at}
use Rattle.mz_decompile_text.specs.Measures.{capped, words_of_all}
use Rattle.mz_decompile.proofs.weight.weight_said.Given as goal

abbrev pub invariant-hypotheses : goal.invariant-hypotheses
invariant-hypotheses l = record {
  so_far : capped (l.weight + words_of_all (phrases_at l.phrases (drop l.hypothesis-index l.said.hypotheses.items))) ≡ capped (1 + l.params + words_of_all (phrases_at l.phrases
      l.said.hypotheses.items));
  small : l.weight < 2 ^ 128;
}
