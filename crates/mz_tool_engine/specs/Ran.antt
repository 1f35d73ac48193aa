-- What a run of a program has done: over any folder and any sink, with what these tell (this project's own). All programs
-- promise this, each over its own requests.
use Rattle.std.specs.Prelude.{◌≡◌, ◌≤◌, ◌++◌, ℕ, List, [], length, Option, Some, None}
use Rattle.mz_io.specs.Calls.{Call, Since, taken}
use Rattle.mz_io.specs.Outside.{HasRoom, Rooms, Rose}
use Rattle.mz_tool_engine.specs.Files.{AreThere, BeginsLonger}
use Rattle.mz_tool_engine.specs.Consequences.{Consequences}
use Rattle.mz_tool_engine.specs.Given.{Gives, Tells}
use Rattle.mz_tool_engine.specs.Run.{EachAsked, IsAnswerOver, IsRun, longest}
use Rattle.mz_tool_engine.specs.Said.{Said, Files}
use Rattle.mz_tool_engine.specs.declared.status.Status.{Status}
use Rattle.mz_tool_engine.specs.declared.status.Status.TheVariants as statuses

-- what a folder says of itself: those members of the trait `Folder` of which the promise speaks, by their names
pub record Folder (F : Type 0) : Type 1 where
  pub calls : F → List Call
  pub told : Type 0
  pub file : F → Files
  pub faults : F → ℕ
  pub put_faults : F → ℕ
  pub is_clear : F → Type 0
  pub rooms : F → Rooms

-- what a sink says of itself: the same of the trait `Sink`
pub record Sink (O : Type 0) : Type 1 where
  pub calls : O → List Call
  pub told : Type 0
  pub written : O → List ℕ
  pub faults : O → ℕ
  pub is_clear : O → Type 0
  pub room : O → ℕ

-- A run with these arguments (`words`), of a program of whose requests `said_of` says all, ended with this status; it found the
-- folder and the sink so (`old`, `out_old`), and left them so (`new`, `out_new`).
pub record Ran {R F O : Type 0} (said_of : R → Said) (words : List (List ℕ)) (status : Status) (folder : Folder F) (old new : F) (sink : Sink O) (out_old out_new : O) : Type 0 where
  -- all calls that the run makes on both, with what these answered, and what it answers over the bytes that came
  pub log : (calls : List Call) × (written : List Call) × (folder.calls new ≡ folder.calls old ++ calls) × (sink.calls out_new ≡ sink.calls out_old ++ written)
      × IsRun said_of words status calls written
  -- what follows of them, for whatever files the folder's calls gave: what is accepted is proved
  pub follows : (file : Files) (calls written : List Call) → folder.calls new ≡ folder.calls old ++ calls → sink.calls out_new ≡ sink.calls out_old ++ written
      → Gives file calls → Consequences said_of words file status calls written
  -- a folder that tells its files gave what they held at first, and holds afterwards what was put; a sink that tells what was
  -- written holds what its calls took
  pub files : folder.told → Since (folder.calls old) (folder.calls new) (Tells (folder.file old) (folder.file new))
  pub text : sink.told → Since (sink.calls out_old) (sink.calls out_new) (λ written. sink.written out_new ≡ sink.written out_old ++ taken written)
  -- each call that failed was counted, and the folder stays as it was where nothing is read or put
  pub read_fault : status ≡ statuses.ReadFault → Rose (folder.faults old) (folder.faults new)
  pub write_fault : status ≡ statuses.WriteFault → Rose (folder.put_faults old) (folder.put_faults new)
  pub out_fault : status ≡ statuses.OutFault → Rose (sink.faults out_old) (sink.faults out_new)
  pub put_faults : EachAsked said_of words (λ said. said.puts ≡ None) → folder.put_faults new ≡ folder.put_faults old
  pub apart : EachAsked said_of words (λ said. (said.reads ≡ []) × (said.puts ≡ None)) → new ≡ old
  -- where no coming call is listed to fail, only a missing file, a want of room and a full sink are faults; after a file that is
  -- too long none is looked for
  pub only_missing : folder.is_clear old → EachAsked said_of words (λ said. AreThere (folder.file old) said.reads) → folder.faults new ≡ folder.faults old
  pub unread : folder.is_clear old → EachAsked said_of words (λ said. BeginsLonger longest (folder.file old) said.reads) → folder.faults new ≡ folder.faults old
  pub only_room : folder.is_clear old → EachAsked said_of words (λ said. (name : List ℕ) → said.puts ≡ Some name → HasRoom (folder.rooms old) name longest)
      → folder.put_faults new ≡ folder.put_faults old
  pub only_full : (file : Files) → Since (folder.calls old) (folder.calls new) (Gives file) → sink.is_clear out_old
      → EachAsked said_of words (λ said. (put : Option (List ℕ)) (text : List ℕ) → IsAnswerOver file said put text → length text ≤ sink.room out_old)
      → sink.faults out_new ≡ sink.faults out_old
