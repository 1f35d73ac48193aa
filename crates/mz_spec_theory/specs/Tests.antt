-- Tests on a lexeme (mm0.md, section on the grammar: its keywords, symbols and precedences).
use Rattle.std.specs.Prelude.{ℕ, List, Bool, true, false, ◌&&◌, ◌||◌, bytes_eq, codes}
use Rattle.mz_lex.specs.declared.token.TokenKind.{TokenKind}
use Rattle.mz_lex.specs.declared.token.TokenKind.TheVariants as kinds
use Rattle.mz_lex.specs.Lexemes.{Lexeme}

abbrev pub is_name : TokenKind → Bool
is_name kinds.Name = true
is_name kinds.Symbol = false
is_name kinds.Number = false
is_name kinds.Math = false

abbrev pub is_symbol : TokenKind → Bool
is_symbol kinds.Name = false
is_symbol kinds.Symbol = true
is_symbol kinds.Number = false
is_symbol kinds.Math = false

abbrev pub is_number : TokenKind → Bool
is_number kinds.Name = false
is_number kinds.Symbol = false
is_number kinds.Number = true
is_number kinds.Math = false

abbrev pub is_formula : TokenKind → Bool
is_formula kinds.Name = false
is_formula kinds.Symbol = false
is_formula kinds.Number = false
is_formula kinds.Math = true

-- what a lexeme is asked: to be a keyword, a symbol, a name, a name or `_`, a math string, a number,
-- or something of these under a condition
pub data Test : Type 0 where
  the_keyword : List ℕ → Test
  the_symbol : List ℕ → Test
  a_name : Test
  a_name_or_blank : Test
  a_formula : Test
  a_number : Test
  only : Bool → Test → Test

abbrev pub fits : Test → TokenKind → List ℕ → Bool
fits (the_keyword text) kind bytes = is_name kind && bytes_eq bytes text
fits (the_symbol text) kind bytes = is_symbol kind && bytes_eq bytes text
fits a_name kind bytes = is_name kind
fits a_name_or_blank kind bytes = is_name kind || (is_symbol kind && bytes_eq bytes (codes "_"))
fits a_formula kind bytes = is_formula kind
fits a_number kind bytes = is_number kind
fits (only b test) kind bytes = fits test kind bytes && b

abbrev pub is_keyword : List ℕ → Lexeme → Bool
is_keyword text l = fits (the_keyword text) l.kind l.text
