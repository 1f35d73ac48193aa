use Rattle.std.specs.Prelude.{◌↔◌}
use Rattle.std.proofs.Common.{◌≤◌, ◌-◌, length, drop}
use Rattle.mz_binary_theory.specs.Gapped.{CitesMarked}
use Rattle.mz_binary.proofs.gaps.cites_marked.Given as goal

abbrev pub invariant-commands : goal.invariant-commands
invariant-commands l = record {
  in_range : l.at ≤ length l.bytes;
  same : CitesMarked l.bytes l.marks ↔ CitesMarked (drop l.at l.bytes) l.marks;
}

abbrev pub decreases-commands : goal.decreases-commands
decreases-commands l = length l.bytes - l.at
