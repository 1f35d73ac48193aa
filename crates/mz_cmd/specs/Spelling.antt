-- The spellings of commands in bytes (the .mmb format, its list of commands).
use Rattle.std.specs.Prelude.{◌≡◌, ℕ, zero, suc, ◌+◌, ◌*◌, ◌^◌, ◌<◌, IsTrue, List, ◌∷◌, nat_lt, ◌==◌, if◌then◌else◌}
use Rattle.byteorder.specs.Endian.{little_bytes}
use Rattle.mz_cmd.specs.Codes.{is_known}

-- how many bytes the operand of each of the four sizes has
abbrev pub operand_len : ℕ → ℕ
operand_len zero = 0
operand_len (suc zero) = 1
operand_len (suc (suc zero)) = 2
operand_len (suc (suc (suc _))) = 4

-- the first byte, with the size in its two high bits and the code in the others, then the operand, low byte first
abbrev pub spelling : ℕ → ℕ → ℕ → List ℕ
spelling size code value = (64 * size + code) ∷ little_bytes (operand_len size) value

-- the bytes spell the command with this known code and this operand, in one of the sizes that hold it
pub record Spells (bytes : List ℕ) (code value : ℕ) : Type 0 where
  pub size : ℕ
  pub size_fits : size < 4
  pub known : IsTrue (is_known code)
  pub value_fits : value < 256 ^ operand_len size
  pub bytes_are : bytes ≡ spelling size code value

-- the least size that holds the value
abbrev pub shortest_size : ℕ → ℕ
shortest_size value =
    if value == 0 then 0 else (if nat_lt value 256 then 1 else (if nat_lt value 65536 then 2 else 3))

abbrev pub shortest : ℕ → ℕ → List ℕ
shortest code value = spelling (shortest_size value) code value
