use Rattle.std.proofs.Common.{List, ℕ, Ok, map}
use Rattle.mz_io.specs.declared.folder.Failed.{Failed}
use Rattle.mz_axioms.specs.Kept.{number_of}
use Rattle.mz_axioms.specs.Members.{bits}
use Rattle.mz_axioms.specs.Pieces.{Adds}
use Rattle.mz_axioms.specs.Text.{axiom_names}
use Rattle.mz_axioms.proofs.Writing.{Left}
use Rattle.mz_axioms.proofs.names.put_word.Given as goal

-- the names so far stand before those of the bits that are left
abbrev pub invariant-bits : goal.invariant-bits
invariant-bits g l = record {
  some : (numbers : List ℕ) × Left l.rows.items l.base l.rest l.i numbers (map (number_of l.rows.items) (bits 64 l.base l.word))
      × Adds {T = Unit {0}} {E = Failed} (Ok tt) (g.O.Sink.is_clear l.fn.out) (g.O.Sink.is_clear l.out) (g.O.Sink.room l.fn.out) (g.O.Sink.room l.out) (g.O.Sink.faults l.fn.out) (g.O.Sink.faults l.out)
      (g.O.Sink.calls l.fn.out) (g.O.Sink.calls l.out) l.initial.held.items l.held.items (axiom_names l.spec.text.now l.spec.declared numbers);
}
