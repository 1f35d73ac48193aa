-- The tokens of a math string (mm0.md, section on math strings and delimiters).
use Rattle.std.specs.Prelude.{◌≡◌, ◌≢◌, ◌<◌, ◌≤◌, ◌⊎◌, ◌+◌, ◌-◌, ◌++◌, ℕ, List, [], ◌∷◌, length, false, IsTrue, slice_index, slice_range, Contains, map, Option, Some, None, codes}
use Rattle.mz_lex.specs.Kinds.{is_space}
-- the characters behind which (`left`), and those before which (`right`) a token ends
pub use Rattle.mz_lex.specs.declared.tokens.Delimiters.{Delimiters}
pub use Rattle.mz_lex.specs.declared.tokens.MathToken.{MathToken}

abbrev pub no_delimiters : Delimiters
no_delimiters = record { left = []; right = [] }

-- all bytes between two places are whitespace
abbrev pub IsSpaces : List ℕ → ℕ → ℕ → Type 0
IsSpaces text from to = (from ≤ to) × ((i : ℕ) → from ≤ i → i < to → IsTrue (is_space (slice_index text i)))

-- a token holds no whitespace; a left delimiter is only its last byte, a right delimiter only its
-- first; it ends at the end, before whitespace, after a left delimiter or before a right one
pub record IsMathToken (d : Delimiters) (text : List ℕ) (p : MathToken) : Type 0 where
  pub some : p.from < p.to
  pub within : p.to ≤ length text
  pub solid : (i : ℕ) → p.from ≤ i → i < p.to → is_space (slice_index text i) ≡ false
  pub no_left : (i : ℕ) → p.from ≤ i → i + 1 < p.to → Contains d.left (slice_index text i) → ⊥
  pub no_right : (i : ℕ) → p.from < i → i < p.to → Contains d.right (slice_index text i) → ⊥
  pub cut : (p.to ≡ length text) ⊎ (IsTrue (is_space (slice_index text p.to)) ⊎ (Contains d.left (slice_index text (p.to - 1)) ⊎ Contains d.right (slice_index text p.to)))

-- the tokens from a place on: between them stands nothing but whitespace
abbrev pub MathTokensFrom : Delimiters → List ℕ → ℕ → List MathToken → Type 0
MathTokensFrom d text from [] = IsSpaces text from (length text)
MathTokensFrom d text from (p ∷ ps) = IsSpaces text from p.from × IsMathToken d text p × MathTokensFrom d text p.to ps

abbrev pub MathTokens : Delimiters → List ℕ → List MathToken → Type 0
MathTokens d text ps = MathTokensFrom d text 0 ps

-- what they are
abbrev pub token_text : List ℕ → MathToken → List ℕ
token_text text p = slice_range text p.from p.to

abbrev pub token_texts : List ℕ → List MathToken → List (List ℕ)
token_texts text ps = map (token_text text) ps

-- ---- constants

-- a string that is one token, and no parenthesis
abbrev pub IsConstant : Delimiters → List ℕ → List ℕ → Type 0
IsConstant d text w = (p : MathToken) × MathTokens d text (p ∷ []) × (w ≡ token_text text p) × (w ≢ codes "(") × (w ≢ codes ")")

-- ---- declarations of delimiters

-- the text is these characters, with whitespace between them
abbrev pub AreCharacters : List ℕ → List ℕ → Type 0
AreCharacters text cs = (ps : List MathToken) × MathTokens no_delimiters text ps × (token_texts text ps ≡ map (λ c. c ∷ []) cs)

-- two strings declare left and right delimiters, one alone delimiters that are both
abbrev pub AreDelimiters : List ℕ → Option (List ℕ) → Delimiters → Type 0
AreDelimiters left (Some right) d = AreCharacters left d.left × AreCharacters right d.right
AreDelimiters left None d = AreCharacters left d.left × AreCharacters left d.right

abbrev pub both : Delimiters → Delimiters → Delimiters
both d e = record { left = d.left ++ e.left; right = d.right ++ e.right }
