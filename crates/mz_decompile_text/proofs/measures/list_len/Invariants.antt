use Rattle.std.proofs.Common.{◌≡◌, ◌<◌, ◌+◌, ◌^◌, length, drop}
use Rattle.mz_decompile_text.specs.Phrases.{a_list, written}
use Rattle.mz_decompile_text.specs.ByNumber.{phrases_at}
use Rattle.mz_decompile_text.specs.Measures.{capped}
use Rattle.mz_decompile_text.proofs.Measuring.{spaced}
use Rattle.mz_decompile_text.proofs.measures.list_len.Given as goal

-- what is counted so far, with the parts that are left, is the whole
abbrev pub invariant-loop-part : goal.invariant-loop-part
invariant-loop-part l = (capped (l.len + spaced (phrases_at l.phrases (drop l.part-index l.parts))) ≡ capped (length (written (a_list (phrases_at l.phrases l.parts))))) × (l.len < 2 ^ 128)
