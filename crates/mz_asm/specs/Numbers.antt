-- The numbers and words of a listing (this project's own form).
use Rattle.std.specs.Prelude.{◌≡◌, ℕ, Bool, false, IsTrue, ◌&&◌, ◌||◌, not, ◌==◌, min, List, [], ◌∷◌, length, Option, Some, None, Result, Ok, Err, bytes_eq, if◌then◌else◌}
use Rattle.std.specs.Int.{w64, from_be_bytes}
use Rattle.std.specs.List.{list_all}
use Rattle.std.specs.Str.Parse.{digits_value}
use Rattle.hex.specs.Hex.{encode_lower, decode_sized}
use Rattle.hex.specs.declared.error.FromHexError.{FromHexError}
use Rattle.mz_base.specs.Identifiers.{is_digit}
use Rattle.mz_logic_theory.specs.declared.word.Word.{Word}

-- ---- numbers, decimal, without leading zeros

abbrev pub are_digits : List ℕ → Bool
are_digits ds = list_all is_digit ds

abbrev pub is_numeral : List ℕ → Bool
is_numeral [] = false
is_numeral (d ∷ ds) = are_digits (d ∷ ds) && (not (d == 48) || length (d ∷ ds) == 1)

-- the number that digits write; one that is past 4,294,967,295 counts as 4,294,967,296, since all that is said of it is
-- that it is too large
abbrev pub number_of : List ℕ → ℕ
number_of ds = min (digits_value 10 ds) 4294967296

-- the digits are such a number
pub record IsNumber (ds : List ℕ) (n : ℕ) : Type 0 where
  pub numeral : IsTrue (is_numeral ds)
  pub value : n ≡ number_of ds

-- ---- the same, computed

abbrev pub number_in : List ℕ → Option ℕ
number_in ds = if is_numeral ds then Some (number_of ds) else None

-- the word whose digits, low letters alone, these are
abbrev pub word_from : List ℕ → Result (List ℕ) FromHexError → Option Word
word_from text (Err _) = None
word_from text (Ok bytes) = if bytes_eq (encode_lower bytes) text then Some (record { 0 = from_be_bytes w64 bytes }) else None

abbrev pub word_in : List ℕ → Option Word
word_in text = word_from text (decode_sized text 8)
