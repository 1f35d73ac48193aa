use Rattle.std.proofs.Common.{drop}
use Rattle.mz_decompile_text.specs.Naming.{vocabulary_by}
use Rattle.mz_decompile_text.specs.ByNumber.{phrases_at}
use Rattle.mz_decompile.specs.Adding.{AreAdded}
use Rattle.mz_decompile.specs.Hypotheses.{named}
use Rattle.mz_decompile.proofs.hypotheses.put_hypotheses.Given as goal

abbrev pub invariant-hypotheses : goal.invariant-hypotheses
invariant-hypotheses l = AreAdded l.initial.phrases l.phrases l.inner.items (named (vocabulary_by l.names) 0 (phrases_at l.initial.phrases l.hypotheses))
    (named (vocabulary_by l.names) l.number (phrases_at l.initial.phrases (drop l.number l.hypotheses)))
