-- What is read of a text that is written as tokens, and of lines.
use Rattle.std.specs.Prelude.{◌≡◌, ◌+◌, ◌++◌, ℕ, List, length, Option}
use Rattle.mz_lex.specs.Lexemes.{Lexeme, LexesFrom, Lexes}
use Rattle.mz_lex.specs.declared.token.LexFault.{LexFault}
use Rattle.mz_spec_theory.specs.Statement.{Spells}
use Rattle.mz_prefix.specs.Tokens.{Word, written, lexemes_at, AreWords}
use Rattle.mz_prefix.specs.Lines.{Line, Tokens, line_words, lines_text, math_text, statement_at, HasItsDummies}
use Rattle.mz_prefix.specs.Plain.{ArePlain, AreTokens, lines_lexemes, tokens_at}
use Rattle.mz_lex.specs.Kinds.{inside_of}
use Rattle.mz_logic_theory.specs.Tree.{Tree}
use Rattle.mz_logic_theory.specs.Declaration.{signatures}
use Rattle.mz_logic_theory.specs.Sorts.{HasSort}
use Rattle.mz_logic_theory.specs.Legality.{InRange}
use Rattle.mz_math_theory.specs.Grammar.{Words, Exp}
use Rattle.mz_math_theory.specs.declared.wanted.Wanted.{Wanted}
use Rattle.mz_math_theory.specs.Formula.{Reader, words, IsFormula}
use Rattle.mz_prefix.specs.Prefix.{tokens_of, IsSpoken, HasNoNotation, IsOfWanted, IsShort}
use Rattle.mz_lex.specs.MathTokens.{MathTokens, no_delimiters, token_texts}

-- behind other bytes and before a rest, tokens are the next lexemes, and then comes what comes behind them
abbrev pub WordsAreLexemes : Type 0
WordsAreLexemes = (before rest : List ℕ) (ws : List Word) (ls : List Lexeme) (e : Option LexFault)
    → AreWords ws rest
    → LexesFrom (before ++ (written ws ++ rest)) (length before + length (written ws)) ls e
    → LexesFrom (before ++ (written ws ++ rest)) (length before) (lexemes_at (length before) ws ++ ls) e

-- the tokens of a line spell its statement
abbrev pub LinesSpellStatements : Type 0
LinesSpellStatements = (p : ℕ) (l : Line) → HasItsDummies l → Spells (statement_at p l) (lexemes_at p (line_words l))

-- plain lines have these lexemes
abbrev pub LinesLex : Type 0
LinesLex = (ls : List Line) → ArePlain ls → Lexes (lines_text ls) (lines_lexemes 0 ls)

-- between the two `$` of a math string that is written stand its math tokens
abbrev pub TokensAreMathTokens : Type 0
TokensAreMathTokens = (ts : Tokens) → AreTokens ts → MathTokens no_delimiters (inside_of (math_text ts)) (tokens_at 1 ts) × (token_texts (inside_of (math_text ts)) (tokens_at 1 ts) ≡ ts)

-- where names are found, the prefix form of an expression is read as it
abbrev pub PrefixFormsAreRead : Type 0
PrefixFormsAreRead = (ws : Words) (term variable : ℕ → List ℕ) (e : Tree) → IsSpoken ws term variable → InRange ws.signatures (length ws.variables) e
    → Exp ws 0 e (tokens_of term variable e)

-- and the math string that is written of it means it
abbrev pub PrefixFormsAreMeant : Type 0
PrefixFormsAreMeant = (r : Reader) (wanted : Wanted) (term variable : ℕ → List ℕ) (e : Tree) (s : ℕ) → HasNoNotation r → IsSpoken (words r) term variable
    → length r.scope.names ≡ length r.scope.binders → HasSort (signatures r.env) r.scope.binders e s → IsOfWanted r wanted s
    → AreTokens (tokens_of term variable e) → IsShort (tokens_of term variable e) e
    → IsFormula r wanted (inside_of (math_text (tokens_of term variable e))) e
