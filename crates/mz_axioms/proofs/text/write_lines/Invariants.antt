use Rattle.std.proofs.Common.{[], Ok, take}
use Rattle.mz_io.specs.declared.folder.Failed.{Failed}
use Rattle.mz_axioms.specs.Kept.{supports_told}
use Rattle.mz_axioms.specs.Pieces.{Adds}
use Rattle.mz_axioms.specs.Text.{supports_text}
use Rattle.mz_axioms.proofs.text.write_lines.Given as goal

abbrev pub invariant-supports : goal.invariant-supports
invariant-supports g l = record {
  so_far : Adds {T = Unit {0}} {E = Failed} (Ok tt) (g.O.Sink.is_clear l.fn.out) (g.O.Sink.is_clear l.out) (g.O.Sink.room l.fn.out) (g.O.Sink.room l.out) (g.O.Sink.faults l.fn.out) (g.O.Sink.faults l.out)
      (g.O.Sink.calls l.fn.out) (g.O.Sink.calls l.out) [] l.held.items (supports_text l.spec.text.now l.spec.declared (supports_told l.table (take l.support-index l.supports)));
}
