-- A room for a longer file serves a shorter one.
use Rattle.std.proofs.Common.{◌≡◌, ◌≤◌, ℕ, List, [], ◌∷◌, true, inl, inr, arith}
use Rattle.std.specs.Prelude.{nat_le, bytes_eq}
use Rattle.std.specs.List.{list_any}
use Rattle.std.proofs.lemmas.Bool.{or_cases, or_left, or_right, and_parts, and_from, le-leb, leb-true}
use Rattle.mz_io.specs.Outside.{Rooms, HasRoom, serves}

-- a room for a longer file serves a shorter one
serves-shorter : (name : List ℕ) (n m : ℕ) → m ≤ n → (room : List ℕ × ℕ) → serves name n room ≡ true → serves name m room ≡ true
serves-shorter name n m le (other, size) is =
    let both = and_parts (bytes_eq other name) (nat_le n size) is in
    let long : n ≤ size = leb-true n size both.1 in
    let short : m ≤ size = omega arith in
    and_from (bytes_eq other name) (nat_le m size) both.0 (le-leb m size short)

pub shorter-serves : (name : List ℕ) (n m : ℕ) → m ≤ n → (rooms : Rooms) → HasRoom rooms name n → HasRoom rooms name m
shorter-serves name n m le [] has = has
shorter-serves name n m le (room ∷ rooms) has = elim (or_cases (serves name n room) (list_any (serves name n) rooms) has) [
  | inl this ↦ or_left (serves name m room) (list_any (serves name m) rooms) (serves-shorter name n m le room this)
  | inr other ↦ or_right (serves name m room) (list_any (serves name m) rooms) (shorter-serves name n m le rooms other)
]
