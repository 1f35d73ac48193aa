-- Definitions for the parts of the lexer.
use Rattle.std.specs.Prelude.{◌≡◌, ◌<◌, ◌≤◌, ◌⊎◌, ◌+◌, ℕ, List, length, Bool, false, IsTrue, slice_index, slice_range}
use Rattle.std.specs.List.{list_all}
use Rattle.mz_lex.specs.declared.bytes.Class.{Class}
use Rattle.mz_lex.specs.declared.bytes.Class.TheVariants as classes
use Rattle.mz_base.specs.Identifiers.{is_name_start, is_name_byte, is_digit}
use Rattle.mz_lex.specs.Kinds.{is_comment_byte, is_math_byte}
use Rattle.mz_lex.specs.Lexemes.{IsGap, InComment}

-- the bytes of a class
abbrev pub is_in : Class → ℕ → Bool
is_in classes.Name c = is_name_byte c
is_in classes.Digit c = is_digit c
is_in classes.Comment c = is_comment_byte c
is_in classes.Math c = is_math_byte c

-- bytes that pass a test stand from a place to another, and no further
pub record IsRun (p : ℕ → Bool) (text : List ℕ) (from to : ℕ) : Type 0 where
  pub later : from ≤ to
  pub within : to ≤ length text
  pub all : IsTrue (list_all p (slice_range text from to))
  pub stops : to < length text → p (slice_index text to) ≡ false

-- nothing is skipped, or one space or comment
abbrev pub SkipsOne : List ℕ → ℕ → ℕ → Type 0
SkipsOne text from to = (to ≡ from) ⊎ IsGap text from to

-- neither whitespace nor a comment begins at a place, be the comment whole or cut
pub record IsStart (text : List ℕ) (at : ℕ) : Type 0 where
  pub no_gap : (to : ℕ) → IsGap text at to → ⊥
  pub no_comment : (to : ℕ) → to < length text → InComment text at to → ⊥

-- no name begins at a place
abbrev pub IsNoName : List ℕ → ℕ → Type 0
IsNoName text at = (is_name_start (slice_index text at) ≡ false) ⊎ ((slice_index text at ≡ 95) × (at + 1 < length text → is_name_byte (slice_index text (at + 1)) ≡ false))

-- a name begins at a place, and ends where the bytes of a name do
pub record IsNameTo (text : List ℕ) (at to : ℕ) : Type 0 where
  pub start : IsTrue (is_name_start (slice_index text at))
  pub run : IsRun is_name_byte text (at + 1) to
  pub other : slice_index text at ≡ 95 → at + 1 < to
