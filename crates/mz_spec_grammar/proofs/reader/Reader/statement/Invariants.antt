use Rattle.mz_spec_theory.specs.StatementCode.{modifiers}
use Rattle.mz_spec_theory.specs.Progress.{moves, opening_rows, start}
use Rattle.mz_spec_grammar.specs.Standing.{Reads, before, left}
use Rattle.mz_spec_grammar.proofs.reader.Reader.statement.Given as goal

abbrev pub invariant-modifiers : goal.invariant-modifiers
invariant-modifiers l = Reads (before (moves start)) (before (opening_rows (modifiers l.read))) l.fn.self l.self

abbrev pub decreases-modifiers : goal.decreases-modifiers
decreases-modifiers l = left l.self
