use Rattle.std.proofs.Common.{◌≡◌, ◌≤◌, max, length, drop}
use Rattle.mz_decompile_text.specs.Phrases.{depth_of_all}
use Rattle.mz_decompile_text.specs.ByNumber.{phrases_at}
use Rattle.mz_decompile_text.proofs.measures.deepest.Given as goal

abbrev pub invariant-loop-part : goal.invariant-loop-part
invariant-loop-part l = (max l.depth (depth_of_all (phrases_at l.phrases (drop l.part-index l.parts))) ≡ depth_of_all (phrases_at l.phrases l.parts)) × (l.depth ≤ length l.phrases)
