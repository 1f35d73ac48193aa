use Rattle.std.proofs.Common.{◌≡◌, ◌≤◌, ◌+◌, ◌-◌, ◌*◌, length, true, List}
use Rattle.mz_logic_theory.specs.Declaration.{Declaration}
use Rattle.mz_logic_theory.specs.LegalLists.{Statement}
use Rattle.mz_binary_theory.specs.FileRun.{file_steps}
use Rattle.mz_binary.specs.Progress.{steps_left, most_left, under}
use Rattle.mz_spec_theory.specs.State.{env_of}
use Rattle.mz_match.specs.Drafts.{ListsGapsOf}
use Rattle.mz_match.specs.Reported.{IsMatched}
use Rattle.mz_match.proofs.verify.check_list.Given as goal
use Rattle.mz_binary_theory.specs.Standards.{lets_gaps}

abbrev pub invariant-statements : goal.invariant-statements
invariant-statements g l = record {
  so_far : (ss : List Statement) × (env : List Declaration) × IsMatched (under g.B.Bodies.STANDARD l.checker) (env_of l.fn.spec) l.matching ss env × (lets_gaps g.B.Bodies.STANDARD ≡ true → ListsGapsOf l.checker.file ss l.places.items);
  same_file : l.checker.file ≡ l.fn.mmb;
  counted : l.steps + steps_left (under g.B.Bodies.STANDARD l.checker) ≡ l.fn.steps + file_steps g.B.Bodies.STANDARD l.fn.mmb;
  most : l.steps + most_left (under g.B.Bodies.STANDARD l.checker) ≤ l.fn.steps + (length l.fn.mmb * length l.fn.mmb + length l.fn.mmb);
}

abbrev pub decreases-statements : goal.decreases-statements
decreases-statements g l = length l.checker.file - l.checker.at
