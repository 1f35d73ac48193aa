-- What a run of a command is: every call that it makes on a folder and a sink, what these answered, and how it ends
-- (this project's own). The calls are those of mz_io's `Calls`; what is said of a command stands in `Said`, which each
-- command fills in a file of its own.
use Rattle.std.specs.Prelude.{◌≡◌, ◌++◌, ◌⊎◌, ℕ, Bool, true, false, List, [], ◌∷◌, Option, Some, None, refl}
use Rattle.mz_io.specs.Calls.{Call, puts, IsBegun, IsRead, IsUnread, IsOver, IsWritten, IsCut, Hold}
use Rattle.mz_tool_engine.specs.Said.{Said, Files}
use Rattle.mz_tool_engine.specs.declared.status.Status.{Status}
use Rattle.mz_tool_engine.specs.declared.status.Status.TheVariants as statuses

-- the bytes of the longest file that is read or written
abbrev pub longest : ℕ
longest = 4294967295

-- ---- the calls: files are read, and one may be put

-- files of these names were read one after another, each to its end, and these are their bytes
abbrev pub AreRead : List (List ℕ) → List (List ℕ) → List Call → Type 0
AreRead [] [] calls = calls ≡ []
AreRead [] (bytes ∷ rest) calls = ⊥
AreRead (name ∷ names) [] calls = ⊥
AreRead (name ∷ names) (bytes ∷ rest) calls = (first : List Call) × (later : List Call) × (calls ≡ first ++ later) × IsRead name bytes first × AreRead names rest later

-- the files before one of these were read, and of the calls for that one P holds; no further one was looked for
abbrev pub StopAt : (List ℕ → List Call → Type 0) → List (List ℕ) → List Call → Type 0
StopAt P [] calls = ⊥
StopAt P (name ∷ names) calls = P name calls
    ⊎ ((bytes : List ℕ) × (first : List Call) × (later : List Call) × (calls ≡ first ++ later) × IsRead name bytes first × StopAt P names later)

-- a file was read in part
abbrev pub IsPartly : List ℕ → List Call → Type 0
IsPartly name calls = (bytes : List ℕ) × IsBegun name bytes calls

-- the files were read, or only a prefix of them
abbrev pub AreReadOrLeft : List (List ℕ) → List Call → Type 0
AreReadOrLeft names calls = ((contents : List (List ℕ)) × AreRead names contents calls) ⊎ StopAt IsPartly names calls

-- where there are a name and bytes, the file was put once, and `done` is whether this succeeded; else none was put
abbrev pub IsPutting : Bool → Option (List ℕ) → Option (List ℕ) → List Call → Type 0
IsPutting done None put calls = calls ≡ []
IsPutting done (Some name) None calls = calls ≡ []
IsPutting done (Some name) (Some bytes) calls = calls ≡ puts name bytes done ∷ []

-- files were read whole, and then one was put, where one is
abbrev pub AreReadAndPut : List (List ℕ) → List (List ℕ) → Option (List ℕ) → Option (List ℕ) → List Call → Type 0
AreReadAndPut names contents name put calls = (reads : List Call) × (puts : List Call) × (calls ≡ reads ++ puts) × AreRead names contents reads × IsPutting true name put puts

-- files were read whole, and then one was to be put, and this failed
abbrev pub AreReadNotPut : List (List ℕ) → List (List ℕ) → Option (List ℕ) → Option (List ℕ) → List Call → Type 0
AreReadNotPut names contents name put calls = (out : List ℕ) × (bytes : List ℕ) × (reads : List Call) × (name ≡ Some out) × (put ≡ Some bytes)
    × (calls ≡ reads ++ puts out bytes false ∷ []) × AreRead names contents reads

-- a prefix of the text was handed over and taken, in pieces, and nothing more was
pub record IsBegunText (text : List ℕ) (calls : List Call) : Type 0 where
  pub front : List ℕ
  pub rest : List ℕ
  pub text_is : text ≡ front ++ rest
  pub written : IsWritten front calls

-- ---- the answer, over the bytes of the files that were read

-- it is yes, and not no
abbrev pub Affirms : Said → List (List ℕ) → Option (List ℕ) → List ℕ → Type 0
Affirms said contents put text = said.yes contents put text × ((other : List ℕ) → said.no contents other → ⊥)

-- it is no, and not yes
abbrev pub Refuses : Said → List (List ℕ) → List ℕ → Type 0
Refuses said contents text = said.no contents text × ((put : Option (List ℕ)) (other : List ℕ) → said.yes contents put other → ⊥)

-- it is one of them; a refusal puts nothing
abbrev pub IsAnswer : Said → List (List ℕ) → Option (List ℕ) → List ℕ → Type 0
IsAnswer said contents put text = Affirms said contents put text ⊎ ((put ≡ None) × Refuses said contents text)

-- ---- the run, by the status with which it ends

-- The calls on the folder, and those on the sink, in a run of the command with files of at most `limit` bytes.
abbrev pub IsRunOf : ℕ → Said → Status → List Call → List Call → Type 0
-- the files were read, the file of the answer was put, where one is put, and the text was written; no call failed. What a yes promises of these bytes holds
IsRunOf limit said statuses.Done calls written = (contents : List (List ℕ)) × (put : Option (List ℕ)) × (text : List ℕ)
    × Affirms said contents put text × said.sound contents
    × AreReadAndPut said.reads contents said.puts put calls × IsWritten text written
-- the files were read, none was put, and the refusal was written; no call failed
IsRunOf limit said statuses.Refused calls written = (contents : List (List ℕ)) × (text : List ℕ)
    × Refuses said contents text × AreRead said.reads contents calls × IsWritten text written
-- this can't be, since here a command is asked for
IsRunOf limit said statuses.Usage calls written = ⊥
-- the last call failed, and no other; nothing was put or written
IsRunOf limit said statuses.ReadFault calls written = StopAt IsUnread said.reads calls × (written ≡ [])
-- the same, of the call that was to put the answer's file: the answer is yes
IsRunOf limit said statuses.WriteFault calls written = (contents : List (List ℕ)) × (put : Option (List ℕ)) × (text : List ℕ)
    × Affirms said contents put text × AreReadNotPut said.reads contents said.puts put calls × (written ≡ [])
-- a write failed, the last call on the sink: before it the file of the answer was put, where one is put, and the text up to
-- there was taken
IsRunOf limit said statuses.OutFault calls written = (contents : List (List ℕ)) × (put : Option (List ℕ)) × (text : List ℕ)
    × IsAnswer said contents put text × AreReadAndPut said.reads contents said.puts put calls × IsCut text written
-- one of the files gave more bytes than the limit; nothing was put or written
IsRunOf limit said statuses.TooLong calls written = StopAt (IsOver limit) said.reads calls × (written ≡ [])
-- no call failed, and nothing was put; nothing was written either, or a prefix of what the command writes as it goes
IsRunOf limit said statuses.Memory calls written =
    (AreReadOrLeft said.reads calls × (written ≡ []))
    ⊎ ((contents : List (List ℕ)) × (text : List ℕ) × AreRead said.reads contents calls × said.begun contents text × IsBegunText text written)

-- ---- the run of a program whose arguments ask for a request, of which this is said

-- the arguments ask for it
abbrev pub Asks : Said → List (List ℕ) → Type 0
Asks said words = (words ≡ said.words) × said.is_in_range

-- something of a request that the arguments ask for; something of each that they ask for
abbrev pub SomeAsked : {R : Type 0} → (R → Said) → List (List ℕ) → (Said → Type 0) → Type 0
SomeAsked {R} said_of words P = (asked : R) × Asks (said_of asked) words × P (said_of asked)

abbrev pub EachAsked : {R : Type 0} → (R → Said) → List (List ℕ) → (Said → Type 0) → Type 0
EachAsked {R} said_of words P = (asked : R) → Asks (said_of asked) words → P (said_of asked)

-- The calls in a run with these arguments: none where they ask for nothing.
abbrev pub IsRun : {R : Type 0} → (R → Said) → List (List ℕ) → Status → List Call → List Call → Type 0
IsRun {R} said_of words status calls written =
    ((asked : R) × Asks (said_of asked) words × IsRunOf longest (said_of asked) status calls written)
    ⊎ (((asked : R) → Asks (said_of asked) words → ⊥) × (status ≡ statuses.Usage) × (calls ≡ []) × (written ≡ []))

-- ---- the same over files

-- the answer is yes; it is no; what a yes promises of all of them
abbrev pub IsYes : Files → Said → Option (List ℕ) → List ℕ → Type 0
IsYes file said put text = (contents : List (List ℕ)) × Hold file said.reads contents × said.yes contents put text

abbrev pub IsNo : Files → Said → List ℕ → Type 0
IsNo file said text = (contents : List (List ℕ)) × Hold file said.reads contents × said.no contents text

abbrev pub IsProved : Files → Said → Type 0
IsProved file said = (contents : List (List ℕ)) × Hold file said.reads contents × said.sound contents

-- the answer; what is written as it is made
abbrev pub IsAnswerOver : Files → Said → Option (List ℕ) → List ℕ → Type 0
IsAnswerOver file said put text = (contents : List (List ℕ)) × Hold file said.reads contents × IsAnswer said contents put text

abbrev pub IsBegunOver : Files → Said → List ℕ → Type 0
IsBegunOver file said text = (contents : List (List ℕ)) × Hold file said.reads contents × said.begun contents text

-- ---- what is said of a command is said of the request that it answers

-- the files that it reads and puts are the same; a run as the one has it is a run as the other has it, and so are answers
pub record IsSaidOf (said other : Said) : Type 0 where
  pub reads : said.reads ≡ other.reads
  pub puts : said.puts ≡ other.puts
  pub ran : (limit : ℕ) (status : Status) (calls written : List Call) → IsRunOf limit said status calls written → IsRunOf limit other status calls written
  pub answer : (contents : List (List ℕ)) (put : Option (List ℕ)) (text : List ℕ) → IsAnswer said contents put text → IsAnswer other contents put text

-- it is so of any by itself
pub said-itself : (said : Said) → IsSaidOf said said
said-itself said = record { reads = refl; puts = refl; ran = λ limit status calls written ran. ran; answer = λ contents put text answer. answer }
