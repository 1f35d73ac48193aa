-- Numbers at places of a file (the .mmb format: integers stand lowest byte first).
use Rattle.std.specs.Prelude.{ℕ, List, drop, slice_index}
use Rattle.byteorder.specs.Endian.{little_number}

abbrev pub byte_at : List ℕ → ℕ → ℕ
byte_at file at = slice_index file at

-- the number in the n bytes from a place on, lowest byte first
unfoldable pub number_at : ℕ → List ℕ → ℕ → ℕ
number_at n file at = little_number n (drop at file)
