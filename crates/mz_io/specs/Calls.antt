-- The calls on a folder or a sink, each with its answer, and what rows of them say (this project's own).
use Rattle.std.specs.Prelude.{◌≡◌, ◌<◌, ◌++◌, ◌⊎◌, ⊤, ℕ, Bool, true, false, List, [], ◌∷◌, length, take, map, Option, Some, Result, Ok, Err}
use Rattle.std.specs.List.{concat, All}

-- one call, with its answer
pub data Call : Type 0 where
  -- the file of a name was to be started: whether it was
  starts : (name : List ℕ) (done : Bool) → Call
  -- so many bytes were asked for, and these came
  pulls : (asked : ℕ) (bytes : List ℕ) → Call
  -- bytes were asked for, and the call failed
  pull_fails : Call
  -- a file of a name was to be put with these bytes: whether it was
  puts : (name bytes : List ℕ) (done : Bool) → Call
  -- a piece was handed over, and these first bytes of it were taken
  writes : (bytes : List ℕ) → Call
  -- this piece was handed over, and the call failed
  write_fails : (piece : List ℕ) → Call

-- a pull into a buffer, by its answer
abbrev pub pulled : {E : Type 0} → Result ℕ E → List ℕ → Call
pulled (Ok n) buf = pulls (length buf) (take n buf)
pulled (Err e) buf = pull_fails

-- a piece handed over, by the answer
abbrev pub written : {E : Type 0} → Result ℕ E → List ℕ → Call
written (Ok n) piece = writes (take n piece)
written (Err e) piece = write_fails piece

-- the log has grown by calls of which P holds
abbrev pub Grows : List Call → List Call → (List Call → Type 0) → Type 0
Grows old new P = (more : List Call) × (new ≡ old ++ more) × P more

-- P holds of the calls by which the log has grown, where it has
abbrev pub Since : List Call → List Call → (List Call → Type 0) → Type 0
Since old new P = (calls : List Call) → new ≡ old ++ calls → P calls

-- ---- reading

-- pulls that gave these pieces, of so many bytes asked for
abbrev pub pulls_of : List (ℕ × List ℕ) → List Call
pulls_of pieces = map (λ p. pulls p.0 p.1) pieces

-- the bytes of the pieces, one after another
abbrev pub bytes_of : List (ℕ × List ℕ) → List ℕ
bytes_of [] = []
bytes_of (p ∷ pieces) = p.1 ++ bytes_of pieces

-- the file of this name was started, and gave these bytes, in pieces none of which is empty
pub record IsBegun (name bytes : List ℕ) (calls : List Call) : Type 0 where
  pub pieces : List (ℕ × List ℕ)
  pub some : All (λ p. 0 < length p.1) pieces
  pub bytes_are : bytes ≡ bytes_of pieces
  pub calls_are : calls ≡ starts name true ∷ pulls_of pieces

-- it was read to its end, and these are its bytes: bytes were asked for once more, and none came
pub record IsRead (name bytes : List ℕ) (calls : List Call) : Type 0 where
  pub front : List Call
  pub begun : IsBegun name bytes front
  pub asked : ℕ
  pub some : 0 < asked
  pub calls_are : calls ≡ front ++ pulls asked [] ∷ []

-- it gave these bytes, and then a pull failed
pub record IsBroken (name bytes : List ℕ) (calls : List Call) : Type 0 where
  pub front : List Call
  pub begun : IsBegun name bytes front
  pub calls_are : calls ≡ front ++ pull_fails ∷ []

-- its start failed, or a pull
abbrev pub IsUnread : List ℕ → List Call → Type 0
IsUnread name calls = (calls ≡ starts name false ∷ []) ⊎ ((bytes : List ℕ) × IsBroken name bytes calls)

-- more bytes than the limit came
abbrev pub IsOver : ℕ → List ℕ → List Call → Type 0
IsOver limit name calls = (bytes : List ℕ) × IsBegun name bytes calls × (limit < length bytes)

-- ---- writing

-- the text was handed over and taken, in pieces
pub record IsWritten (text : List ℕ) (calls : List Call) : Type 0 where
  pub pieces : List (List ℕ)
  pub text_is : text ≡ concat pieces
  pub calls_are : calls ≡ map writes pieces

-- the bytes that were taken, one piece after another
abbrev pub taken : List Call → List ℕ
taken [] = []
taken (writes bytes ∷ calls) = bytes ++ taken calls
taken (starts name done ∷ calls) = taken calls
taken (pulls asked bytes ∷ calls) = taken calls
taken (pull_fails ∷ calls) = taken calls
taken (puts name bytes done ∷ calls) = taken calls
taken (write_fails piece ∷ calls) = taken calls

-- a prefix of the text was taken, in pieces, and then a call failed that was handed what follows there
pub record IsCut (text : List ℕ) (calls : List Call) : Type 0 where
  pub front : List ℕ
  pub taken : List Call
  pub written : IsWritten front taken
  pub piece : List ℕ
  pub rest : List ℕ
  pub text_is : text ≡ front ++ (piece ++ rest)
  pub calls_are : calls ≡ taken ++ write_fails piece ∷ []

-- what writing a text asked of the sink, by its answer
abbrev pub IsWriting : {T E : Type 0} → Result T E → List ℕ → List Call → Type 0
IsWriting (Ok u) text calls = IsWritten text calls
IsWriting (Err e) text calls = IsCut text calls

-- ---- what the calls say of files

-- Reading calls that are answered from these files: of the started one this is left before them, and that after them. A
-- start that is done leaves the whole file; a pull gives the next bytes, none of so many asked for only at the end; after a
-- failure nothing is started.
abbrev pub AreAnswered : (List ℕ → Option (List ℕ)) → List ℕ → List Call → List ℕ → Type 0
AreAnswered file left [] after = after ≡ left
AreAnswered file left (starts name true ∷ calls) after = (bytes : List ℕ) × (file name ≡ Some bytes) × AreAnswered file bytes calls after
AreAnswered file left (starts name false ∷ calls) after = AreAnswered file [] calls after
AreAnswered file left (pulls asked bytes ∷ calls) after = (rest : List ℕ) × (left ≡ bytes ++ rest) × (bytes ≡ [] → 0 < asked → rest ≡ []) × AreAnswered file rest calls after
AreAnswered file left (pull_fails ∷ calls) after = AreAnswered file [] calls after
AreAnswered file left (puts name bytes done ∷ calls) after = ⊥
AreAnswered file left (writes bytes ∷ calls) after = ⊥
AreAnswered file left (write_fails piece ∷ calls) after = ⊥

-- the files of these names hold these bytes, in order
abbrev pub Hold : (List ℕ → Option (List ℕ)) → List (List ℕ) → List (List ℕ) → Type 0
Hold file [] [] = ⊤
Hold file [] (bytes ∷ rest) = ⊥
Hold file (name ∷ names) [] = ⊥
Hold file (name ∷ names) (bytes ∷ rest) = (file name ≡ Some bytes) × Hold file names rest
