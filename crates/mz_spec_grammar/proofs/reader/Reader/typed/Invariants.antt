use Rattle.std.proofs.Common.{◌≤◌, map}
use Rattle.mz_spec_theory.specs.StatementCode.{lexeme}
use Rattle.mz_spec_theory.specs.Progress.{Slot, moves, typed, without_deps}
use Rattle.mz_spec_grammar.specs.Standing.{Reads, at_hand, before, behind, left}
use Rattle.mz_spec_grammar.proofs.reader.Reader.typed.Given as goal

abbrev pub invariant-deps : goal.invariant-deps
invariant-deps l = record {
  reads : (slot : Slot) → Reads (behind (typed slot (without_deps (at_hand l.fn.self.hand)))) (before (moves (typed slot (record { sort = lexeme l.sort; deps = map lexeme l.deps.items })))) l.fn.self l.self;
  shrinks : left l.self ≤ left l.fn.self;
}

abbrev pub decreases-deps : goal.decreases-deps
decreases-deps l = left l.self
