-- Text that is written in pieces, a few of which are held back to be written together (this project's own).
use Rattle.std.specs.Prelude.{◌≡◌, ◌≤◌, ◌+◌, ◌++◌, ℕ, List, length, Result, Ok, Err, OnOk}
use Rattle.mz_io.specs.Calls.{Call, Grows, IsWritten, IsCut}
use Rattle.mz_io.specs.Outside.{HasCause}

-- what was held back and a text after it: the first part is written, and the rest is held back now; or they are cut short
abbrev pub IsAdded : {T E : Type 0} → Result T E → (held held' text : List ℕ) → List Call → Type 0
IsAdded (Ok u) held held' text calls = (front : List ℕ) × IsWritten front calls × (front ++ held' ≡ held ++ text)
IsAdded (Err e) held held' text calls = IsCut (held ++ text) calls

-- what adding a text asks of a sink, whose states before and after are these
pub record Adds {T E : Type 0} (result : Result T E) (clear clear' : Type 0) (room room' faults faults' : ℕ) (calls calls' : List Call) (held held' text : List ℕ) : Type 0 where
  pub log : Grows calls calls' (IsAdded result held held' text)
  pub cause : HasCause faults faults' result
  pub stays_clear : clear → clear'
  -- what is written takes its own length of the room
  pub lessens : clear → OnOk result (room' + (length held + length text) ≡ room + length held')
  pub only_full : clear → length held + length text ≤ room → faults' ≡ faults
