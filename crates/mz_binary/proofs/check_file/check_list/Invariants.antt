use Rattle.std.proofs.Common.{◌≡◌, ◌≤◌, ◌+◌, ◌-◌, List, length}
use Rattle.mz_logic_theory.specs.Declaration.{Declaration}
use Rattle.mz_logic_theory.specs.LegalLists.{Statement as Declared}
use Rattle.mz_layout_tables.specs.Layout.{Layout}
use Rattle.mz_binary.specs.Progress.{HasPassed, most_left, steps_left, under}
use Rattle.mz_binary.proofs.check_file.check_list.Given as goal

abbrev pub invariant-statements : goal.invariant-statements
invariant-statements g l = record {
  so_far : (ss : List Declared) × (env : List Declaration) × HasPassed (under g.B.Bodies.STANDARD l.checker) ss env;
  same_file : l.checker.file ≡ l.fn.first.file;
  layout : Layout l.checker.file;
  left : l.steps + steps_left (under g.B.Bodies.STANDARD l.checker) ≡ l.fn.steps + steps_left (under g.B.Bodies.STANDARD l.fn.first);
  most : l.steps + most_left (under g.B.Bodies.STANDARD l.checker) ≤ l.fn.steps + most_left (under g.B.Bodies.STANDARD l.fn.first);
}

abbrev pub decreases-statements : goal.decreases-statements
decreases-statements g l = length l.checker.file - l.checker.at
