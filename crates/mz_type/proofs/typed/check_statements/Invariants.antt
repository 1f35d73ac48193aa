use Rattle.std.proofs.Common.{◌≡◌, ◌+◌, ◌++◌, length, map, reverse}
use Rattle.mz_mmu.specs.EntryView.{entry}
use Rattle.mz_type.specs.StatedView.{statements_of}
use Rattle.mz_type.proofs.StatedSteps.{IsAsFar}
use Rattle.mz_type.proofs.typed.check_statements.Given as goal

abbrev pub invariant-loop-entry : goal.invariant-loop-entry
invariant-loop-entry l = record {
  split : statements_of l.env l.beside.items ++ map entry (reverse l.entries.items) ≡ map entry l.fn.entries.items;
  count : l.number + length l.entries.items ≡ length l.fn.entries.items;
  far : IsAsFar l.nodes (map entry l.fn.entries.items) (statements_of l.env l.beside.items) (map entry (reverse l.entries.items)) l.env l.beside.items l.number l.weight l.left;
}

abbrev pub decreases-loop-entry : goal.decreases-loop-entry
decreases-loop-entry l = length l.entries.items
