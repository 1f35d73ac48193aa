-- What a command answers the engine, and what its parts ask of the folder and the sink (this project's own).
use Rattle.std.specs.Prelude.{◌≡◌, ◌≤◌, ◌++◌, ◌⊎◌, ⊤, ℕ, List, [], length, Option, Some, None, Result, Ok, Err}
use Rattle.mz_io.specs.Calls.{Call, IsOver, IsUnread, IsWritten, IsCut}
use Rattle.mz_io.specs.declared.folder.Failed.{Failed}
use Rattle.mz_tool_engine.specs.Said.{Said}
use Rattle.mz_tool_engine.specs.Inputs.{bytes_of, contents_of}
use Rattle.mz_tool_engine.specs.Run.{AreRead, StopAt, IsPartly, Affirms, Refuses, IsAnswer, IsBegunText, longest}
use Rattle.mz_tool_engine.specs.declared.inputs.ReadAll.{ReadAll}
use Rattle.mz_tool_engine.specs.declared.inputs.ReadAll.TheVariants as reads
use Rattle.mz_tool_engine.specs.declared.outcome.Outcome.{Outcome}
use Rattle.mz_tool_engine.specs.declared.outcome.Outcome.TheVariants as outcomes
use Rattle.mz_tool_engine.specs.declared.status.Status.{Status}
use Rattle.mz_tool_engine.specs.declared.status.Status.TheVariants as statuses

-- what is put, where anything is, is no longer than a file that is read
abbrev pub IsShort : Option (List ℕ) → Type 0
IsShort put = (bytes : List ℕ) → put ≡ Some bytes → length bytes ≤ longest

-- what a command answers at once over these bytes
abbrev pub Answers : Said → List (List ℕ) → Outcome → Type 0
Answers said contents (outcomes.Yes put text) = Affirms said contents (bytes_of put) text.items × said.sound contents × IsShort (bytes_of put)
Answers said contents (outcomes.No text) = Refuses said contents text.items
Answers said contents outcomes.Mem = ⊤

-- a fact of the text that is left to be written
abbrev pub IfLeft : Result Outcome Failed → (List ℕ → Type 0) → Type 0
IfLeft (Ok (outcomes.Yes put text)) P = P text.items
IfLeft (Ok (outcomes.No text)) P = P text.items
IfLeft (Ok outcomes.Mem) P = ⊤
IfLeft (Err e) P = ⊤

-- what a command answers over these bytes, and what it asked of the sink: a prefix of the text may be written before
abbrev pub IsAnswering : Said → List (List ℕ) → Result Outcome Failed → List Call → Type 0
IsAnswering said contents (Ok (outcomes.Yes put text)) written = (front : List ℕ) × IsWritten front written × ((bytes_of put ≡ None) ⊎ (written ≡ []))
    × Affirms said contents (bytes_of put) (front ++ text.items) × said.sound contents × IsShort (bytes_of put)
IsAnswering said contents (Ok (outcomes.No text)) written = (front : List ℕ) × IsWritten front written × Refuses said contents (front ++ text.items)
IsAnswering said contents (Ok outcomes.Mem) written = (written ≡ []) ⊎ ((text : List ℕ) × said.begun contents text × IsBegunText text written)
IsAnswering said contents (Err e) written = (text : List ℕ) × IsAnswer said contents None text × IsCut text written

-- what reading files of these names, each up to a limit, asked of the folder, by what came of it
abbrev pub IsReadingAll : ℕ → List (List ℕ) → ReadAll → List Call → Type 0
IsReadingAll limit names (reads.Contents read) calls = AreRead names (contents_of read) calls
IsReadingAll limit names reads.TooLong calls = StopAt (IsOver limit) names calls
IsReadingAll limit names reads.Fault calls = StopAt IsUnread names calls
IsReadingAll limit names reads.Mem calls = StopAt IsPartly names calls

-- a put fails only where there are a name and bytes
abbrev pub IsPutFault : {T E : Type 0} → Result T E → Option (List ℕ) → Option (List ℕ) → Type 0
IsPutFault (Ok u) name put = ⊤
IsPutFault (Err e) name put = (out : List ℕ) × (bytes : List ℕ) × (name ≡ Some out) × (put ≡ Some bytes)

-- what writing an answer's text asked of the sink: it was written, and the run ends with this status, or it was cut short
abbrev pub IsWritingAnswer : Status → Status → List ℕ → List Call → Type 0
IsWritingAnswer status result text written = ((result ≡ status) × IsWritten text written) ⊎ ((result ≡ statuses.OutFault) × IsCut text written)
