-- Texts as tokens with the whitespace between them (mm0.md, section on the lexical structure).
use Rattle.std.specs.Prelude.{◌≡◌, ◌+◌, ◌++◌, ◌||◌, ⊤, ℕ, List, [], ◌∷◌, length, Bool, true, false, not, ◌&&◌, ◌==◌, IsTrue, bytes_eq, codes}
use Rattle.std.specs.List.{list_all}
use Rattle.mz_lex.specs.Kinds.{is_space, is_symbol_byte, is_of_kind}
use Rattle.mz_lex.specs.Lexemes.{Lexeme}
use Rattle.mz_lex.specs.declared.token.TokenKind.{TokenKind}
use Rattle.mz_lex.specs.declared.token.TokenKind.TheVariants as kinds

-- a token, and the whitespace before it
pub record Word : Type 0 where
  pub gap : List ℕ
  pub kind : TokenKind
  pub text : List ℕ

-- the bytes of tokens, one after the other
abbrev pub written : List Word → List ℕ
written [] = []
written (w ∷ ws) = w.gap ++ (w.text ++ written ws)

-- the lexeme that a token makes, where its gap begins at a place
abbrev pub lexeme_at : ℕ → Word → Lexeme
lexeme_at p w = record { kind = w.kind; text = w.text; from = p + length w.gap; to = p + length w.gap + length w.text }

-- the place behind tokens, of which the first one's gap begins at a place
abbrev pub stop : ℕ → List Word → ℕ
stop p [] = p
stop p (w ∷ ws) = stop (p + length w.gap + length w.text) ws

-- the lexemes of tokens, of which the first one's gap begins at a place
abbrev pub lexemes_at : ℕ → List Word → List Lexeme
lexemes_at p [] = []
lexemes_at p (w ∷ ws) = lexeme_at p w ∷ lexemes_at (p + length w.gap + length w.text) ws

-- ---- which tokens may stand side by side

-- a byte that is whitespace or a symbol other than `_` ends a name or a number; nothing makes a symbol or a math string longer
abbrev pub ends : TokenKind → ℕ → Bool
ends kinds.Symbol c = true
ends kinds.Math c = true
ends kinds.Name c = is_space c || (is_symbol_byte c && not (c == 95))
ends kinds.Number c = is_space c || (is_symbol_byte c && not (c == 95))

-- what stands behind a token ends it
abbrev pub EndsBefore : TokenKind → List ℕ → Type 0
EndsBefore kind [] = ⊤
EndsBefore kind (c ∷ cs) = ends kind c ≡ true

-- it is of its kind, not a `_` alone, and what stands before it is whitespace
abbrev pub IsWord : Word → Type 0
IsWord w = IsTrue (list_all is_space w.gap) × IsTrue (is_of_kind w.kind w.text) × (bytes_eq w.text (codes "_") ≡ false)

-- tokens, each of which ends before what stands behind it; behind all of them stands a rest
abbrev pub AreWords : List Word → List ℕ → Type 0
AreWords [] rest = ⊤
AreWords (w ∷ ws) rest = IsWord w × EndsBefore w.kind (written ws ++ rest) × AreWords ws rest
