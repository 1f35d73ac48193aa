use Rattle.std.proofs.Common.{◌≤◌, ◌+◌, ◌*◌, ◌-◌, length}
use Rattle.mz_pmachine.specs.Steps.{tables_for, heading_for}
use Rattle.mz_pmachine.specs.Running.{IsRunning, machine_of}
use Rattle.mz_pmachine_theory.specs.NodeIdentity.{portable}
use Rattle.mz_machine_env.proofs.Offered.{IsUnderway}
use Rattle.mz_machine.proofs.Offered.{OneSoFar}
use Rattle.mz_pmachine.proofs.BodyRunning.{IsSameBody}
use Rattle.mz_pmachine.proofs.body.run.Given as goal

abbrev pub invariant-commands : goal.invariant-commands
invariant-commands g l = record {
  in_range : l.at ≤ length l.bytes;
  running : IsRunning l.setting l.parts;
  same : IsSameBody (machine_of l.setting l.fn.parts) (machine_of l.setting l.parts);
  underway : IsUnderway portable (tables_for (machine_of l.setting l.fn.parts)) (heading_for (machine_of l.setting l.fn.parts)) l.from l.bytes (machine_of l.setting l.fn.parts).state l.fn.steps l.at (machine_of l.setting l.parts).state l.steps;
  first : (machine_of l.setting l.parts).next ≤ l.from + l.at;
  most : l.steps ≤ l.fn.steps + l.at * (length l.setting.env.file + 1);
  nodes : OneSoFar (length l.fn.parts.nodes.entries) l.bytes l.at (length l.parts.nodes.entries);
}

abbrev pub decreases-commands : goal.decreases-commands
decreases-commands g l = length l.bytes - l.at
