use Rattle.std.specs.Prelude.{◌↔◌}
use Rattle.std.proofs.Common.{◌≡◌, ◌≤◌, ◌⊎◌, ◌+◌, ◌*◌, ◌-◌, true, length, drop}
use Rattle.mz_base.specs.Gaps.{gaps_of}
use Rattle.mz_machine_theory.specs.Profile.{plain}
use Rattle.mz_machine_theory.specs.Sound.{HasGap}
use Rattle.mz_machine.specs.Steps.{tables_for, heading_for}
use Rattle.mz_machine.specs.Running.{IsRunning, machine_of}
use Rattle.mz_machine_env.proofs.Offered.{IsUnderway}
use Rattle.mz_machine.proofs.BodyRunning.{IsSameBody, OneSoFar}
use Rattle.mz_machine.proofs.body.run.Given as goal

abbrev pub invariant-commands : goal.invariant-commands
invariant-commands g l = record {
  in_range : l.at ≤ length l.bytes;
  running : IsRunning l.setting l.parts;
  same : IsSameBody (machine_of l.setting l.fn.parts) (machine_of l.setting l.parts);
  underway : IsUnderway (plain (gaps_of l.setting.mode)) (tables_for (machine_of l.setting l.fn.parts)) (heading_for (machine_of l.setting l.fn.parts)) l.from l.bytes (machine_of l.setting l.fn.parts).state l.fn.steps l.at (machine_of l.setting l.parts).state l.steps;
  gap : HasGap l.bytes ↔ ((l.parts.sorry ≡ true) ⊎ HasGap (drop l.at l.bytes));
  most : l.steps ≤ l.fn.steps + l.at * (length l.setting.env.file + 1);
  nodes : OneSoFar (length l.fn.parts.store.entries) l.bytes l.at (length l.parts.store.entries);
}

abbrev pub decreases-commands : goal.decreases-commands
decreases-commands g l = length l.bytes - l.at
