use Rattle.std.proofs.Common.{◌≡◌, ◌≤◌, ◌-◌, length}
use Rattle.mz_binary_walk.specs.Walk.{IsPlaced}
use Rattle.mz_layout_tables.specs.Tables.{thm_count}
use Rattle.mz_axioms.specs.Kept.{IsKept, told}
use Rattle.mz_axioms.proofs.Telling.{Walked}
use Rattle.mz_axioms.proofs.walk.rows_of.Given as goal

abbrev pub invariant-statements : goal.invariant-statements
invariant-statements l = record {
  so_far : Walked l.mmb l.passed (told l.table);
  placed : IsPlaced l.mmb l.passed;
  kept : IsKept l.table;
  many : length (told l.table) ≡ l.passed.rows.thms;
  enough : thm_count l.mmb ≤ l.table.size.span;
}

abbrev pub decreases-statements : goal.decreases-statements
decreases-statements l = length l.mmb - l.passed.at
