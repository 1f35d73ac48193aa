use Rattle.std.proofs.Common.{List, length}
use Rattle.mz_logic_theory.specs.Tree.{Tree}
use Rattle.mz_decompile_text.specs.Naming.{vocabulary_by}
use Rattle.mz_machine_theory.specs.Spells.{Marks, SpellsHyps}
use Rattle.mz_machine_theory.specs.Streams.{UnifyCommand}
use Rattle.mz_decompile_text.specs.Reading.{AreRead, IsBetween, Over}
use Rattle.mz_decompile_text.specs.ByNumber.{Grows}
use Rattle.mz_decompile_text.proofs.reading.Reading.hypotheses.Given as goal

abbrev pub invariant-hyps : goal.invariant-hyps
invariant-hyps l = record {
  grows : Grows l.initial.phrases l.phrases;
  does : (o : Over l.mmb) (m : Marks) (us : List UnifyCommand) (hs : List Tree) (last : Marks) → IsBetween l.mmb o (vocabulary_by l.names) l.initial.phrases l.initial.self m us
      → SpellsHyps o.params o.sigs m us hs last → AreRead l.mmb o (vocabulary_by l.names) l.phrases l.self l.numbers.items hs last;
}

abbrev pub decreases-hyps : goal.decreases-hyps
decreases-hyps l = length l.self.stream.now
