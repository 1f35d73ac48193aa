-- The places of a unify stream's marks (the .mmb format, unify streams: saved terms and dummies are marked, in order).
use Rattle.std.specs.Prelude.{◌≡◌, ℕ, List, Some, slice_get}
use Rattle.mz_match_rows.specs.declared.stream.Cursor.{Cursor}
use Rattle.mz_match_rows.specs.Streams.{mark_from}

-- the j-th of the places is that of the j-th mark of the stream that begins at a place; the last marks may have none
abbrev pub AreKept : List ℕ → ℕ → List Cursor → Type 0
AreKept file start places = (j : ℕ) (place : Cursor) → slice_get places j ≡ Some place → (n : ℕ) × (mark_from file n start 0 j ≡ Some place)
