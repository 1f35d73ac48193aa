use Rattle.std.proofs.Common.{◌≤◌, ◌-◌, length}
use Rattle.mz_show.proofs.Appending.{Listed}
use Rattle.mz_show.proofs.stream.list_commands.Given as goal

abbrev pub invariant-loop-cmd : goal.invariant-loop-cmd
invariant-loop-cmd l = record {
  within : l.at ≤ length l.bytes;
  listed : Listed l.stream l.bytes l.from l.at l.fn.text.items l.text.items;
}

abbrev pub decreases-loop-cmd : goal.decreases-loop-cmd
decreases-loop-cmd l = length l.bytes - l.at
