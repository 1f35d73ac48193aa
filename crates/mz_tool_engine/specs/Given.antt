-- What the calls of a run say of files and of a sink (this project's own).
use Rattle.std.specs.Prelude.{◌≡◌, ◌++◌, ◌+◌, ℕ, Bool, true, false, not, cond, List, [], ◌∷◌, Some}
use Rattle.mz_io.specs.Calls.{Call, starts, pulls, pull_fails, puts, writes, write_fails, IsBegun, IsRead}
use Rattle.mz_io.specs.Outside.{SameFiles, SameOthers}
use Rattle.mz_tool_engine.specs.Said.{Files}

-- what was read whole under a name is what stands under it, and what was read in part is a prefix of that: the bytes are
-- those that the folder gave
pub record Gives (file : Files) (calls : List Call) : Type 0 where
  pub whole : (name bytes : List ℕ) (before part after : List Call) → calls ≡ before ++ (part ++ after) → IsRead name bytes part → file name ≡ Some bytes
  pub front : (name bytes : List ℕ) (before part after : List Call) → calls ≡ before ++ (part ++ after) → IsBegun name bytes part
      → (rest : List ℕ) × (file name ≡ Some (bytes ++ rest))

-- ---- what stands out among the calls

-- those that put a file, or were to
abbrev pub puts_among : List Call → List Call
puts_among [] = []
puts_among (puts name bytes done ∷ calls) = puts name bytes done ∷ puts_among calls
puts_among (starts name done ∷ calls) = puts_among calls
puts_among (pulls asked bytes ∷ calls) = puts_among calls
puts_among (pull_fails ∷ calls) = puts_among calls
puts_among (writes bytes ∷ calls) = puts_among calls
puts_among (write_fails piece ∷ calls) = puts_among calls

-- the names of the files that were started, or were to be
abbrev pub names_started : List Call → List (List ℕ)
names_started [] = []
names_started (starts name done ∷ calls) = name ∷ names_started calls
names_started (pulls asked bytes ∷ calls) = names_started calls
names_started (pull_fails ∷ calls) = names_started calls
names_started (puts name bytes done ∷ calls) = names_started calls
names_started (writes bytes ∷ calls) = names_started calls
names_started (write_fails piece ∷ calls) = names_started calls

-- the call failed
abbrev pub has_failed : Call → Bool
has_failed (starts name done) = not done
has_failed (pulls asked bytes) = false
has_failed pull_fails = true
has_failed (puts name bytes done) = not done
has_failed (writes bytes) = false
has_failed (write_fails piece) = true

-- how many of the calls failed
abbrev pub failures : List Call → ℕ
failures [] = 0
failures (call ∷ calls) = cond (has_failed call) 1 0 + failures calls

-- ---- what is said by a folder that tells its files

-- what stands under the names after these puts, one after another: a put changes what stands under its own name alone, to
-- its bytes where it is done
abbrev pub Leaves : List Call → Files → Files → Type 0
Leaves [] old new = SameFiles old new
Leaves (puts name bytes true ∷ calls) old new = (between : Files) × (between name ≡ Some bytes) × SameOthers name old between × Leaves calls between new
Leaves (puts name bytes false ∷ calls) old new = (between : Files) × SameOthers name old between × Leaves calls between new
Leaves (starts name done ∷ calls) old new = Leaves calls old new
Leaves (pulls asked bytes ∷ calls) old new = Leaves calls old new
Leaves (pull_fails ∷ calls) old new = Leaves calls old new
Leaves (writes bytes ∷ calls) old new = Leaves calls old new
Leaves (write_fails piece ∷ calls) old new = Leaves calls old new

-- its calls gave what its files held at first, and what it puts is what they hold afterwards
pub record Tells (old new : Files) (calls : List Call) : Type 0 where
  pub gives : Gives old calls
  pub leaves : Leaves (puts_among calls) old new
