-- Bytes, and which of them make a lexeme of each kind (mm0.md, section on the lexical structure).
use Rattle.std.specs.Prelude.{ℕ, ◌-◌, List, [], ◌∷◌, length, slice_range, Bool, false, ◌==◌, ◌&&◌, ◌||◌, not, bytes_eq, codes}
use Rattle.std.specs.List.{list_all, list_any}
use Rattle.mz_base.specs.Identifiers.{is_between, is_digit, is_name}
use Rattle.mz_lex.specs.declared.token.TokenKind.{TokenKind}
use Rattle.mz_lex.specs.declared.token.TokenKind.TheVariants as kinds

-- whitespace: a space or a newline
abbrev pub is_space : ℕ → Bool
is_space c = (c == 32) || (c == 10)

-- a byte that may stand in a comment
abbrev pub is_comment_byte : ℕ → Bool
is_comment_byte c = is_between 32 126 c

-- a byte that may stand in a text
abbrev pub is_allowed : ℕ → Bool
is_allowed c = is_comment_byte c || (c == 10)

abbrev pub is_symbol_byte : ℕ → Bool
is_symbol_byte c = list_any (λ s. c == s) (codes "*.:;()>{}=_")

abbrev pub is_symbol : List ℕ → Bool
is_symbol [] = false
is_symbol (c ∷ []) = is_symbol_byte c
is_symbol (c ∷ d ∷ cs) = false

-- a digit other than 0
abbrev pub is_number_start : ℕ → Bool
is_number_start c = is_between 49 57 c

-- 0, or a digit other than 0 and further digits
abbrev pub is_number : List ℕ → Bool
is_number [] = false
is_number (c ∷ cs) = bytes_eq (c ∷ cs) (codes "0") || (is_number_start c && list_all is_digit cs)

-- a byte that may stand between the `$` of a math string
abbrev pub is_math_byte : ℕ → Bool
is_math_byte c = is_allowed c && not (c == 36)

-- such bytes, and then a `$`
abbrev pub ends_math : List ℕ → Bool
ends_math [] = false
ends_math (c ∷ []) = c == 36
ends_math (c ∷ d ∷ cs) = is_math_byte c && ends_math (d ∷ cs)

-- a math string: from a `$` to the next one
abbrev pub is_math : List ℕ → Bool
is_math [] = false
is_math (c ∷ cs) = (c == 36) && ends_math cs

-- what stands between the two `$` of a math string
abbrev pub inside_of : List ℕ → List ℕ
inside_of bytes = slice_range bytes 1 (length bytes - 1)

abbrev pub is_of_kind : TokenKind → List ℕ → Bool
is_of_kind kinds.Symbol bytes = is_symbol bytes
is_of_kind kinds.Name bytes = is_name bytes
is_of_kind kinds.Number bytes = is_number bytes
is_of_kind kinds.Math bytes = is_math bytes
