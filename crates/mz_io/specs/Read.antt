-- What `read_bounded` answers, case by case (this project's own).
use Rattle.std.specs.Prelude.{◌<◌, ℕ, List, length, Option, Some, None}
use Rattle.mz_io.specs.Calls.{Call, IsBegun, IsRead, IsOver, IsUnread}
use Rattle.mz_io.specs.declared.read.Read.{Read}
use Rattle.mz_io.specs.declared.read.Read.TheVariants.{Bytes, TooLong, Fault, Mem}

-- a fact of the bytes that were read
abbrev pub IfBytes : Read → (List ℕ → Type 0) → Type 0
IfBytes (Bytes bytes) P = P bytes.items
IfBytes TooLong P = Unit {0}
IfBytes Fault P = Unit {0}
IfBytes Mem P = Unit {0}

-- a fact, where a call on the folder failed
abbrev pub OnFault : Read → Type 0 → Type 0
OnFault (Bytes bytes) P = Unit {0}
OnFault TooLong P = Unit {0}
OnFault Fault P = P
OnFault Mem P = Unit {0}

-- there is a file, and it has more bytes than the limit
abbrev pub IsLonger : ℕ → Option (List ℕ) → Type 0
IsLonger limit None = ⊥
IsLonger limit (Some bytes) = limit < length bytes

-- what reading a file of this name up to a limit asked of the folder, and was given, by what came of it
abbrev pub IsReading : ℕ → List ℕ → Read → List Call → Type 0
IsReading limit name (Bytes bytes) calls = IsRead name bytes.items calls
IsReading limit name TooLong calls = IsOver limit name calls
IsReading limit name Fault calls = IsUnread name calls
IsReading limit name Mem calls = (bytes : List ℕ) × IsBegun name bytes calls
