-- What a folder in memory holds, and what a call on it leaves as it was.
use Rattle.std.specs.Prelude.{◌≡◌, ℕ, List, Option}
use Rattle.mz_io.specs.Outside.{Rooms, SameFiles}
use Rattle.mz_io.specs.Memory.{file_of, left_at, rooms_of}
use Rattle.mz_io.specs.Plan.{IsListed, SamePlan}
use Rattle.mz_io.specs.declared.memory_folder.MemFolder.{MemFolder}

-- the file of a name, where there is one
abbrev pub file : MemFolder → List ℕ → Option (List ℕ)
file folder = file_of folder.files.items

-- what is left of the started file, and nothing where none is
abbrev pub left : MemFolder → List ℕ
left folder = left_at folder.files.items folder.started folder.offset

-- the rooms made for files to come
abbrev pub rooms : MemFolder → Rooms
rooms folder = rooms_of folder.rooms.items

-- the next trait call is listed to fail
abbrev pub NextIsListed : MemFolder → Type 0
NextIsListed folder = IsListed folder.plan

-- what is held stays
pub record SameContents (old new : MemFolder) : Type 0 where
  pub files : SameFiles (file old) (file new)
  pub left : left new ≡ left old
  pub rooms : rooms new ≡ rooms old

-- what models the trait calls stays
pub record SameCalls (old new : MemFolder) : Type 0 where
  pub log : new.log ≡ old.log
  pub plan : SamePlan old.plan new.plan
  pub faults : new.faults ≡ old.faults
  pub put_faults : new.put_faults ≡ old.put_faults

-- a call of its own that found no memory changed nothing
pub record IsUnchanged (old new : MemFolder) : Type 0 where
  pub contents : SameContents old new
  pub calls : SameCalls old new
