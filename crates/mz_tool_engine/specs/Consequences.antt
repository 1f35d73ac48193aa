-- What follows of a run, for any folder and any sink: what its status says of the files that the calls gave, and what was
-- put and written (this project's own). All of it is a law, whatever the program: of `IsRun`, of `Gives` (the files are those
-- that the folder's calls gave), and of what every program keeps: its arguments ask for one request at the most, and what a yes
-- promises of all the files gives what it promises of the specification. `Said` has what is said of a command, `Run` what a
-- run is, `Given` what stands out among calls; to be read before.
use Rattle.std.specs.Prelude.{◌≡◌, ◌++◌, ◌⊎◌, ⊤, ℕ, Bool, true, false, List, [], ◌∷◌, Option, Some, None}
use Rattle.mz_io.specs.Calls.{Call, starts, pulls, pull_fails, puts, writes, write_fails, taken}
use Rattle.mz_tool_engine.specs.Said.{Said, Files}
use Rattle.mz_tool_engine.specs.Files.{AreReadable, HasLonger}
use Rattle.mz_tool_engine.specs.Given.{puts_among, names_started, failures}
use Rattle.mz_tool_engine.specs.Run.{longest, AreRead, IsPutting, IsYes, IsNo, IsProved, IsAnswerOver, IsBegunOver, Asks, SomeAsked, EachAsked}
use Rattle.mz_tool_engine.specs.declared.status.Status.{Status}
use Rattle.mz_tool_engine.specs.declared.status.Status.TheVariants as statuses

-- the list begins with these
abbrev pub IsFront : List ℕ → List ℕ → Type 0
IsFront front text = (rest : List ℕ) × (text ≡ front ++ rest)

-- of the last call this holds, and no call before it failed
abbrev pub EndsWith : (Call → Type 0) → List Call → Type 0
EndsWith P calls = (before : List Call) × (last : Call) × (calls ≡ before ++ last ∷ []) × P last × (failures before ≡ 0)

-- a file couldn't be started, or not be read on
abbrev pub IsReadFailure : Call → Type 0
IsReadFailure (starts name true) = ⊥
IsReadFailure (starts name false) = ⊤
IsReadFailure (pulls asked bytes) = ⊥
IsReadFailure pull_fails = ⊤
IsReadFailure (puts name bytes done) = ⊥
IsReadFailure (writes bytes) = ⊥
IsReadFailure (write_fails piece) = ⊥

-- the files of the command were read whole, and then this one was put, or was to be: the answer is yes, and these are its bytes
abbrev pub IsPutLast : Files → Said → List ℕ → List ℕ → Bool → List Call → Type 0
IsPutLast file said out bytes done calls = (said.puts ≡ Some out) × ((text : List ℕ) × IsYes file said (Some bytes) text)
    × ((contents : List (List ℕ)) × (reads : List Call) × AreRead said.reads contents reads × (calls ≡ reads ++ puts out bytes done ∷ []))
    × (puts_among calls ≡ puts out bytes done ∷ [])

-- the statuses with which nothing is written
abbrev pub IsQuiet : Status → Type 0
IsQuiet statuses.Done = ⊥
IsQuiet statuses.Refused = ⊥
IsQuiet statuses.OutFault = ⊥
IsQuiet statuses.Memory = ⊥
IsQuiet statuses.Usage = ⊤
IsQuiet statuses.ReadFault = ⊤
IsQuiet statuses.WriteFault = ⊤
IsQuiet statuses.TooLong = ⊤

-- the statuses at which a file may have been put, or spoilt
abbrev pub MayPut : Status → Type 0
MayPut statuses.Done = ⊤
MayPut statuses.OutFault = ⊤
MayPut statuses.WriteFault = ⊤
MayPut statuses.Refused = ⊥
MayPut statuses.Usage = ⊥
MayPut statuses.ReadFault = ⊥
MayPut statuses.TooLong = ⊥
MayPut statuses.Memory = ⊥

-- The run had these arguments (`words`), ended with this status, and made these calls on the folder and those on the sink. Of what `file`
-- holds this is so where the folder's calls gave it (`Gives`, a premise outside).
pub record Consequences {R : Type 0} (said_of : R → Said) (words : List (List ℕ)) (file : Files) (status : Status) (calls written : List Call) : Type 0 where
  -- the arguments ask for one request at the most
  pub one : (asked other : R) → Asks (said_of asked) words → Asks (said_of other) words → asked ≡ other
  -- ---- the answer
  -- Done: the answer is yes, its file was put, where it has one, and its text was taken
  pub done : status ≡ statuses.Done → SomeAsked said_of words (λ said. (put : Option (List ℕ)) × (text : List ℕ)
      × IsYes file said put text × IsPutting true said.puts put (puts_among calls) × (taken written ≡ text))
  -- Refused: the answer is no, nothing was put, and its text was taken
  pub refused : status ≡ statuses.Refused → SomeAsked said_of words (λ said. (text : List ℕ)
      × IsNo file said text × (puts_among calls ≡ []) × (taken written ≡ text))
  -- Done: what a yes of the command promises without speaking of binaries; of some commands that is nothing
  pub headline : status ≡ statuses.Done → EachAsked said_of words (λ said. said.promise file)
  -- Done: what a yes promises of all the files
  pub sound : status ≡ statuses.Done → EachAsked said_of words (λ said. IsProved file said)
  -- where the files are there, none of them is too long, and no call failed, an answer comes, or the run is out of memory
  pub answers : EachAsked said_of words (λ said. AreReadable file said.reads → failures calls ≡ 0 → failures written ≡ 0
      → (status ≡ statuses.Done) ⊎ ((status ≡ statuses.Refused) ⊎ (status ≡ statuses.Memory)))
  -- Refused comes nowhere where the answer is yes, and Done nowhere where it is no
  pub yes : status ≡ statuses.Refused → EachAsked said_of words (λ said. (put : Option (List ℕ)) (text : List ℕ) → IsYes file said put text → ⊥)
  pub no : status ≡ statuses.Done → EachAsked said_of words (λ said. (text : List ℕ) → IsNo file said text → ⊥)
  -- ---- each other status has its cause
  -- Usage comes just where the arguments ask for nothing
  pub usage : status ≡ statuses.Usage → EachAsked said_of words (λ said. ⊥)
  pub only_usage : EachAsked said_of words (λ said. ⊥) → status ≡ statuses.Usage
  -- ReadFault: a start or a pull failed, the last call on the folder, and no other
  pub read_fault : status ≡ statuses.ReadFault → EndsWith IsReadFailure calls
  -- WriteFault: the answer is yes, and the put of its file failed, the last call, and no other
  pub write_fault : status ≡ statuses.WriteFault → SomeAsked said_of words (λ said. (out : List ℕ) × (bytes : List ℕ)
      × IsPutLast file said out bytes false calls × (failures calls ≡ 1))
  -- OutFault: a write failed, the last call on the sink, and no other, nor one on the folder
  pub out_fault : status ≡ statuses.OutFault → EndsWith (λ last. (piece : List ℕ) × (last ≡ write_fails piece)) written × (failures calls ≡ 0)
  -- TooLong: one of the files is longer than any that is read
  pub too_long : status ≡ statuses.TooLong → SomeAsked said_of words (λ said. HasLonger longest file said.reads)
  -- ---- what was written
  -- OutFault: the file of the answer was put, where it has one, and a prefix of its text was taken
  pub front : status ≡ statuses.OutFault → SomeAsked said_of words (λ said. (put : Option (List ℕ)) × (text : List ℕ)
      × IsAnswerOver file said put text × IsPutting true said.puts put (puts_among calls) × IsFront (taken written) text)
  -- where the status is neither an answer, nor OutFault, nor Memory, nothing was written,
  pub quiet : IsQuiet status → written ≡ []
  -- nor where it was out of memory, unless the command writes as it goes: then a prefix of that was taken
  pub memory : status ≡ statuses.Memory → EachAsked said_of words (λ said. (text : List ℕ) → IsBegunOver file said text → ⊥) → written ≡ []
  pub memory_front : status ≡ statuses.Memory → (written ≡ []) ⊎ SomeAsked said_of words (λ said. (text : List ℕ)
      × IsBegunOver file said text × IsFront (taken written) text)
  -- ---- what was put, and what was looked for
  -- one file at the most was put, under the name that the command has for it, with the bytes of a yes, and after all reading;
  pub put : (puts_among calls ≡ []) ⊎ SomeAsked said_of words (λ said. (out : List ℕ) × (bytes : List ℕ) × (done : Bool) × IsPutLast file said out bytes done calls)
  -- none where the answer is no, whatever the status,
  pub not_put : EachAsked said_of words (λ said. (text : List ℕ) → IsNo file said text → puts_among calls ≡ [])
  -- and none where the status is none of Done, OutFault and WriteFault
  pub kept : (MayPut status → ⊥) → puts_among calls ≡ []
  -- after a file that couldn't be read, or is too long, none was looked for: those that were started are the first ones, up to it
  pub unread : (status ≡ statuses.ReadFault) ⊎ (status ≡ statuses.TooLong) → SomeAsked said_of words (λ said. (front : List (List ℕ)) × (name : List ℕ) × (rest : List (List ℕ))
      × (said.reads ≡ front ++ name ∷ rest) × (names_started calls ≡ front ++ name ∷ []))
  -- no call on the folder where nothing is read or put
  pub apart : EachAsked said_of words (λ said. (said.reads ≡ []) × (said.puts ≡ None)) → calls ≡ []
