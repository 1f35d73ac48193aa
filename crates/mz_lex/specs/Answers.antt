-- What the calls on tokens answer.
use Rattle.std.specs.Prelude.{◌≡◌, ◌≤◌, ◌<◌, ◌+◌, ◌-◌, ◌⊎◌, ℕ, List, false, Contains, length, IsTrue, slice_index}
use Rattle.mz_lex.specs.Kinds.{is_space}
use Rattle.mz_lex.specs.MathTokens.{Delimiters, MathToken, IsSpaces, IsMathToken}

-- the next token from a place on
abbrev pub IsNext : Delimiters → List ℕ → ℕ → MathToken → Type 0
IsNext d text from p = IsSpaces text from p.from × IsMathToken d text p

-- a token that goes up to a place ends there
abbrev pub EndsAt : Delimiters → List ℕ → ℕ → Type 0
EndsAt d text at = IsTrue (is_space (slice_index text at)) ⊎ (Contains d.left (slice_index text (at - 1)) ⊎ Contains d.right (slice_index text at))

-- the bytes between two places are within one token
pub record IsWhole (d : Delimiters) (text : List ℕ) (from to : ℕ) : Type 0 where
  pub later : from < to
  pub within : to ≤ length text
  pub solid : (i : ℕ) → from ≤ i → i < to → is_space (slice_index text i) ≡ false
  pub no_left : (i : ℕ) → from ≤ i → i + 1 < to → Contains d.left (slice_index text i) → ⊥
  pub no_right : (i : ℕ) → from < i → i < to → Contains d.right (slice_index text i) → ⊥
