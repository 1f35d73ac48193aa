use Rattle.mz_decompile_text.specs.Naming.{vocabulary_by}
use Rattle.mz_decompile_text.specs.Numbers.{AreVariables}
use Rattle.mz_decompile_text.specs.ByNumber.{Grows}
use Rattle.mz_decompile_text.proofs.reading.push_params.Given as goal

abbrev pub invariant-loop-i : goal.invariant-loop-i
invariant-loop-i l = record { grows : Grows l.initial.phrases l.phrases; words : AreVariables (vocabulary_by l.names) l.phrases l.words.items l.i }
