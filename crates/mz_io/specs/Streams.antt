-- What a call leaves of a file or a stream of the system, where std says what these hold (this project's own).
use Rattle.std.specs.Prelude.{◌≡◌, ◌<◌, ℕ, List, [], Option, Some, None, Result, Ok, Err, length, take}
use Rattle.std.specs.Io.KnownBytes.{Appends, Consumes, IsAtEnd}

-- the stream was given the first n bytes of the piece; where a call failed, some first bytes of it
abbrev pub IsTaken : Option (List ℕ) → Option (List ℕ) → Option ℕ → List ℕ → Type 0
IsTaken old new (Some n) piece = Appends old new (take n piece)
IsTaken old new None piece = (n : ℕ) × Appends old new (take n piece)

-- what is left of the started file; nothing where none is
abbrev pub left_of : {F : Type 0} → (F → Option (List ℕ)) → Option F → Option (List ℕ)
left_of remaining None = Some []
left_of remaining (Some file) = remaining file

-- the buffer begins with the next n bytes of what was left, none of them only at the end; after a failure nothing is left
abbrev pub IsPulled : {E : Type 0} → Option (List ℕ) → Option (List ℕ) → Result ℕ E → List ℕ → Type 0
IsPulled old new (Ok n) buf = Consumes old new (take n buf) × (n ≡ 0 → 0 < length buf → IsAtEnd new)
IsPulled old new (Err e) buf = new ≡ Some []
