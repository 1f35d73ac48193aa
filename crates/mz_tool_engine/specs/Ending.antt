-- How the process says how a run ended (this project's own statuses).
use Rattle.std.specs.Prelude.{ℕ, List, Option, None, Some, codes}
use Rattle.mz_tool_engine.specs.declared.status.Status.{Status}
use Rattle.mz_tool_engine.specs.declared.status.Status.TheVariants as statuses

-- the exit status
abbrev pub number_of : Status → ℕ
number_of statuses.Done = 0
number_of statuses.Refused = 1
number_of statuses.Usage = 2
number_of statuses.ReadFault = 3
number_of statuses.Memory = 4
number_of statuses.WriteFault = 5
number_of statuses.OutFault = 6
number_of statuses.TooLong = 7

-- the name on standard error, where the answer is neither yes nor no
abbrev pub printed_name : Status → Option (List ℕ)
printed_name statuses.Done = None
printed_name statuses.Refused = None
printed_name statuses.Usage = Some (codes "Usage")
printed_name statuses.ReadFault = Some (codes "ReadFault")
printed_name statuses.Memory = Some (codes "Memory")
printed_name statuses.WriteFault = Some (codes "WriteFault")
printed_name statuses.OutFault = Some (codes "OutFault")
printed_name statuses.TooLong = Some (codes "TooLong")
