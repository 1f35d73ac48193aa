-- What can be read again of what is written (mm0.md, section on the lexical structure, and on math strings).
use Rattle.std.specs.Prelude.{◌≢◌, ◌+◌, ◌++◌, ◌&&◌, ⊤, ℕ, List, [], ◌∷◌, length, Bool, not, Option, Some, None, IsTrue}
use Rattle.std.specs.List.{list_all}
use Rattle.mz_base.specs.Identifiers.{is_name}
use Rattle.mz_lex.specs.Kinds.{is_space, is_math_byte}
use Rattle.mz_lex.specs.Lexemes.{Lexeme}
use Rattle.mz_lex.specs.declared.tokens.MathToken.{MathToken}
use Rattle.mz_prefix.specs.Tokens.{lexemes_at}
use Rattle.mz_prefix.specs.Lines.{PlainType, PlainBinder, Tokens, Line, sort_line, term_line, assert_line, definition_line, line_words, next_line}

-- ---- names and tokens

-- each is an identifier
abbrev pub AreNames : List (List ℕ) → Type 0
AreNames [] = ⊤
AreNames (n ∷ ns) = IsTrue (is_name n) × AreNames ns

-- a byte that may stand in a token
abbrev pub is_token_byte : ℕ → Bool
is_token_byte c = is_math_byte c && not (is_space c)

abbrev pub IsToken : List ℕ → Type 0
IsToken t = (t ≢ []) × IsTrue (list_all is_token_byte t)

abbrev pub AreTokens : Tokens → Type 0
AreTokens [] = ⊤
AreTokens (t ∷ ts) = IsToken t × AreTokens ts

-- ---- lines

abbrev pub IsPlainType : PlainType → Type 0
IsPlainType t = IsTrue (is_name t.sort) × AreNames t.deps

abbrev pub IsPlainBinder : PlainBinder → Type 0
IsPlainBinder b = IsTrue (is_name b.name) × IsPlainType b.type

abbrev pub ArePlainBinders : List PlainBinder → Type 0
ArePlainBinders [] = ⊤
ArePlainBinders (b ∷ bs) = IsPlainBinder b × ArePlainBinders bs

abbrev pub AreFormulas : List Tokens → Type 0
AreFormulas [] = ⊤
AreFormulas (h ∷ hs) = AreTokens h × AreFormulas hs

abbrev pub IsPlainBody : Option Tokens → Type 0
IsPlainBody None = ⊤
IsPlainBody (Some ts) = AreTokens ts

-- all names are identifiers, and all tokens have their bytes
abbrev pub IsPlain : Line → Type 0
IsPlain (sort_line m name) = IsTrue (is_name name)
IsPlain (term_line name bs t) = IsTrue (is_name name) × ArePlainBinders bs × IsPlainType t
IsPlain (assert_line kind name bs hyps conclusion) = IsTrue (is_name name) × ArePlainBinders bs × AreFormulas hyps × AreTokens conclusion
IsPlain (definition_line name bs t body) = IsTrue (is_name name) × ArePlainBinders bs × IsPlainType t × IsPlainBody body

abbrev pub ArePlain : List Line → Type 0
ArePlain [] = ⊤
ArePlain (l ∷ ls) = IsPlain l × ArePlain ls

-- ---- what is read

-- the lexemes of lines, of which the first begins at a place
abbrev pub lines_lexemes : ℕ → List Line → List Lexeme
lines_lexemes p [] = []
lines_lexemes p (l ∷ ls) = lexemes_at p (line_words l) ++ lines_lexemes (next_line p l) ls

-- the tokens, where the first begins at a place and between each two stands one byte
abbrev pub tokens_at : ℕ → Tokens → List MathToken
tokens_at p [] = []
tokens_at p (t ∷ ts) = record { from = p; to = p + length t } ∷ tokens_at (p + length t + 1) ts
