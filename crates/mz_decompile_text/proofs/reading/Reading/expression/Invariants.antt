use Rattle.std.proofs.Common.{◌≤◌, ◌+◌, ◌*◌, length}
use Rattle.mz_decompile_text.specs.Naming.{vocabulary_by}
use Rattle.mz_decompile_text.specs.Frames.{Target}
use Rattle.mz_decompile_text.specs.Reading.{IsGoing, Over}
use Rattle.mz_decompile_text.specs.ByNumber.{Grows}
use Rattle.mz_decompile_text.proofs.reading.Reading.expression.Given as goal

abbrev pub invariant-pending : goal.invariant-pending
invariant-pending l = record {
  grows : Grows l.initial.phrases l.phrases;
  does : (o : Over l.mmb) (t : Target) → IsGoing l.mmb o (vocabulary_by l.names) l.initial.phrases l.initial.self t → IsGoing l.mmb o (vocabulary_by l.names) l.phrases l.self t;
  less : 2 * length l.self.stream.now + length l.self.pending.items ≤ 2 * length l.initial.self.stream.now + length l.initial.self.pending.items;
}

abbrev pub decreases-pending : goal.decreases-pending
decreases-pending l = 2 * length l.self.stream.now + length l.self.pending.items
