-- What a call on a folder or a sink leaves, and what may make it fail (this project's own).
use Rattle.std.specs.Prelude.{◌≡◌, ◌≢◌, ◌≤◌, ◌<◌, ◌+◌, ◌-◌, ◌^◌, ◌&&◌, ◌++◌, ℕ, min, List, [], ◌∷◌, length, take, Bool, Option, Result, Ok, Err, OnErr, IsTrue, bytes_eq, nat_le, if◌then◌else◌}
use Rattle.std.specs.List.{list_any}

-- the count has risen, or stands at the end of its type
abbrev pub Rose : ℕ → ℕ → Type 0
Rose before now = min (before + 1) (2 ^ 64 - 1) ≤ now

-- a count of faults doesn't fall, and the call failed only where it rose
pub record HasCause {T E : Type 0} (before now : ℕ) (result : Result T E) : Type 0 where
  pub later : before ≤ now
  pub failed : OnErr result (Rose before now)

-- each name stands for the file that it stood for
abbrev pub SameFiles : (List ℕ → Option (List ℕ)) → (List ℕ → Option (List ℕ)) → Type 0
SameFiles old new = (name : List ℕ) → new name ≡ old name

-- each other name stands for the file that it stood for
abbrev pub SameOthers : List ℕ → (List ℕ → Option (List ℕ)) → (List ℕ → Option (List ℕ)) → Type 0
SameOthers name old new = (other : List ℕ) → other ≢ name → new other ≡ old other

-- the next bytes of what is left stand at the front of the buffer, none of them only at the end
abbrev pub Pulls : {E : Type 0} → List ℕ → List ℕ → Result ℕ E → List ℕ → Type 0
Pulls old new (Ok n) buf = (old ≡ take n buf ++ new) × (n ≡ 0 → 0 < length buf → new ≡ [])
Pulls old new (Err e) buf = new ≡ []

-- the first n bytes of the piece are appended, and nothing after a failure
abbrev pub Appends : {E : Type 0} → List ℕ → List ℕ → Result ℕ E → List ℕ → Type 0
Appends old new (Ok n) piece = new ≡ old ++ take n piece
Appends old new (Err e) piece = new ≡ old

-- a place made for one later file: its name, and how many bytes it holds at most
abbrev pub Rooms : Type 0
Rooms = List (List ℕ × ℕ)

-- the room has this name and holds so many bytes
abbrev pub serves : List ℕ → ℕ → List ℕ × ℕ → Bool
serves name size room = bytes_eq room.0 name && nat_le size room.1

-- one of the rooms has this name and holds so many bytes
abbrev pub HasRoom : Rooms → List ℕ → ℕ → Type 0
HasRoom rooms name size = IsTrue (list_any (serves name size) rooms)

-- the list without its first element that passes
abbrev pub without_first : {X : Type 0} → (X → Bool) → List X → List X
without_first p [] = []
without_first p (x ∷ xs) = if p x then xs else (x ∷ without_first p xs)
