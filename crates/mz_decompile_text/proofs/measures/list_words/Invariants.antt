use Rattle.std.proofs.Common.{◌≡◌, ◌<◌, ◌+◌, ◌^◌, drop}
use Rattle.mz_decompile_text.specs.Phrases.{a_list}
use Rattle.mz_decompile_text.specs.ByNumber.{phrases_at}
use Rattle.mz_decompile_text.specs.Measures.{capped, word_count, words_of_all}
use Rattle.mz_decompile_text.proofs.measures.list_words.Given as goal

abbrev pub invariant-loop-part : goal.invariant-loop-part
invariant-loop-part l = (capped (l.words + words_of_all (phrases_at l.phrases (drop l.part-index l.parts))) ≡ capped (word_count (a_list (phrases_at l.phrases l.parts)))) × (l.words < 2 ^ 128)
