-- The lexemes of a text, with their places (mm0.md, section on the lexical structure).
use Rattle.std.specs.Prelude.{◌≡◌, ◌<◌, ◌≤◌, ◌⊎◌, ◌+◌, ◌++◌, ℕ, List, [], ◌∷◌, length, false, IsTrue, slice_index, slice_range, Option, Some, None}
use Rattle.std.proofs.Common.{Result, Ok, Err}
use Rattle.std.specs.List.{list_all}
use Rattle.mz_lex.specs.declared.token.TokenKind.{TokenKind}
use Rattle.mz_lex.specs.declared.token.Token.{Token}
use Rattle.mz_lex.specs.declared.token.LexFault.{LexFault}
use Rattle.mz_lex.specs.declared.token.LexFault.TheVariants as faults
use Rattle.mz_lex.specs.Kinds.{is_space, is_comment_byte, is_allowed, is_math_byte, is_of_kind}

-- ---- whitespace and comments

-- a space or a newline
pub record IsSpace (text : List ℕ) (from to : ℕ) : Type 0 where
  pub one : to ≡ from + 1
  pub within : from < length text
  pub byte : IsTrue (is_space (slice_index text from))

-- two dashes, and behind them bytes of a comment up to a place
pub record InComment (text : List ℕ) (from to : ℕ) : Type 0 where
  pub first : slice_index text from ≡ 45
  pub second : slice_index text (from + 1) ≡ 45
  pub longer : from + 2 ≤ to
  pub bytes : IsTrue (list_all is_comment_byte (slice_range text (from + 2) to))

-- a comment: up to the end of its line or of the text
pub record IsComment (text : List ℕ) (from to : ℕ) : Type 0 where
  pub begun : InComment text from to
  pub within : to ≤ length text
  pub line_ends : (to ≡ length text) ⊎ (slice_index text to ≡ 10)

abbrev pub IsGap : List ℕ → ℕ → ℕ → Type 0
IsGap text from to = IsSpace text from to ⊎ IsComment text from to

-- whitespace and comments, by where each of them ends
abbrev pub BlankVia : List ℕ → ℕ → List ℕ → ℕ → Type 0
BlankVia text from [] to = to ≡ from
BlankVia text from (stop ∷ stops) to = IsGap text from stop × BlankVia text stop stops to

-- only whitespace and comments stand from a place to another
abbrev pub IsBlank : List ℕ → ℕ → ℕ → Type 0
IsBlank text from to = (stops : List ℕ) × BlankVia text from stops to

-- ---- the next lexeme

-- a lexeme: its kind, its bytes, where it begins, and the place behind it
pub record Lexeme : Type 0 where
  pub kind : TokenKind
  pub text : List ℕ
  pub from : ℕ
  pub to : ℕ

-- the lexeme that a token stands for
abbrev pub lexeme : List ℕ → Token → Lexeme
lexeme text token = record { kind = token.kind; text = slice_range text token.from token.to; from = token.from; to = token.to }

-- the next lexeme from a place on: behind whitespace and comments, of its kind, and such that with
-- the byte that follows it it would be a lexeme of no kind
pub record IsNext (text : List ℕ) (from : ℕ) (l : Lexeme) : Type 0 where
  pub blank : IsBlank text from l.from
  pub some : l.from < l.to
  pub within : l.to ≤ length text
  pub spelled : l.text ≡ slice_range text l.from l.to
  pub kind : IsTrue (is_of_kind l.kind (slice_range text l.from l.to))
  pub longest : (kind : TokenKind) → l.to < length text → is_of_kind kind (slice_range text l.from l.to ++ slice_index text l.to ∷ []) ≡ false

-- ---- where there is no next lexeme

-- a `$`, and behind it bytes of a math string up to a place
pub record InMath (text : List ℕ) (from to : ℕ) : Type 0 where
  pub first : slice_index text from ≡ 36
  pub longer : from + 1 ≤ to
  pub bytes : IsTrue (list_all is_math_byte (slice_range text (from + 1) to))

-- a byte that may not stand in a text, at a place or where a comment or a math string begun there goes on
pub record IsBadByte (text : List ℕ) (from at : ℕ) : Type 0 where
  pub within : at < length text
  pub byte : is_allowed (slice_index text at) ≡ false
  pub reached : (at ≡ from) ⊎ (InComment text from at ⊎ InMath text from at)

-- behind whitespace and comments such a byte is met
abbrev pub HasBadByte : List ℕ → ℕ → ℕ → Type 0
HasBadByte text from at = (start : ℕ) × IsBlank text from start × IsBadByte text start at

-- behind whitespace and comments no more of them and no lexeme begins, and no bad byte is met
pub record HasNoLexeme (text : List ℕ) (from at : ℕ) : Type 0 where
  pub blank : IsBlank text from at
  pub within : at < length text
  pub no_gap : (to : ℕ) → IsGap text at to → ⊥
  pub no_lexeme : (to : ℕ) (kind : TokenKind) → at < to → to ≤ length text → IsTrue (is_of_kind kind (slice_range text at to)) → ⊥
  pub no_bad_byte : (q : ℕ) → IsBadByte text at q → ⊥

-- why there is no next lexeme from a place on
abbrev pub IsLexFault : List ℕ → ℕ → LexFault → Type 0
IsLexFault text from (faults.Char at) = HasBadByte text from at
IsLexFault text from (faults.Token at) = HasNoLexeme text from at

-- ---- what comes next

abbrev pub Answer : Type 0
Answer = Result (Option Token) LexFault

-- from a place on comes a lexeme, nothing but whitespace and comments, or a fault
abbrev pub ComesNext : List ℕ → ℕ → Answer → Type 0
ComesNext text from (Ok (Some token)) = IsNext text from (lexeme text token)
ComesNext text from (Ok None) = IsBlank text from (length text)
ComesNext text from (Err fault) = IsLexFault text from fault

-- ---- all lexemes

-- how the lexemes from a place on end: with the text, or by a fault
abbrev pub EndsBy : List ℕ → ℕ → Option LexFault → Type 0
EndsBy text from None = IsBlank text from (length text)
EndsBy text from (Some fault) = IsLexFault text from fault

-- from a place on stand these lexemes, one after the other, and then they end so
abbrev pub LexesFrom : List ℕ → ℕ → List Lexeme → Option LexFault → Type 0
LexesFrom text from [] ending = EndsBy text from ending
LexesFrom text from (l ∷ ls) ending = IsNext text from l × LexesFrom text l.to ls ending

-- the lexemes of a text
abbrev pub Lexes : List ℕ → List Lexeme → Type 0
Lexes text ls = LexesFrom text 0 ls None

-- the first lexemes from a place on, up to the place behind the last of them
abbrev pub LexemesTo : List ℕ → ℕ → List Lexeme → ℕ → Type 0
LexemesTo text from [] to = to ≡ from
LexemesTo text from (l ∷ ls) to = IsNext text from l × LexemesTo text l.to ls to

-- the answer adds a lexeme to the first ones, or says that they are all, and how they end
abbrev pub GoesAfter : List ℕ → ℕ → List Lexeme → Answer → Type 0
GoesAfter text from ls (Ok (Some token)) = LexemesTo text from (ls ++ lexeme text token ∷ []) token.to
GoesAfter text from ls (Ok None) = LexesFrom text from ls None
GoesAfter text from ls (Err fault) = LexesFrom text from ls (Some fault)

-- the answer is what comes first of these lexemes and their ending
abbrev pub IsFirstOf : List ℕ → List Lexeme → Option LexFault → Answer → Type 0
IsFirstOf text ls ending (Ok (Some token)) = (rest : List Lexeme) × (ls ≡ lexeme text token ∷ rest) × LexesFrom text token.to rest ending
IsFirstOf text ls ending (Ok None) = (ls ≡ []) × (ending ≡ None)
IsFirstOf text ls ending (Err fault) = (ls ≡ []) × (ending ≡ Some fault)
