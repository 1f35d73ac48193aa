-- What holds of the lexemes of every text.
use Rattle.std.specs.Prelude.{◌≡◌, ◌<◌, ◌≤◌, ◌⊎◌, ◌++◌, ◌+◌, ◌-◌, ℕ, List, [], ◌∷◌, length, IsTrue, codes, slice_range, Option}
use Rattle.std.specs.List.{list_all}
use Rattle.mz_lex.specs.declared.token.LexFault.{LexFault}
use Rattle.mz_lex.specs.Kinds.{is_math, is_math_byte, inside_of}
use Rattle.mz_lex.specs.declared.token.TokenKind.TheVariants as kinds
use Rattle.mz_lex.specs.Lexemes.{Lexeme, IsNext, Answer, ComesNext, EndsBy, LexesFrom, LexemesTo}

-- ---- one step

-- of a lexeme, the end and the two faults at their places, at most one comes next
abbrev pub AtMostOneNext : Type 0
AtMostOneNext = (text : List ℕ) (from : ℕ) (a b : Answer) → ComesNext text from a → ComesNext text from b → a ≡ b

-- and one of them does
abbrev pub AlwaysANext : Type 0
AlwaysANext = (text : List ℕ) (from : ℕ) → from ≤ length text → (a : Answer) × ComesNext text from a

-- at most one lexeme comes next
abbrev pub AtMostOneLexeme : Type 0
AtMostOneLexeme = (text : List ℕ) (from : ℕ) (l m : Lexeme) → IsNext text from l → IsNext text from m → l ≡ m

-- spans are in order, within the text, and never empty
abbrev pub SpansInOrder : Type 0
SpansInOrder = (text : List ℕ) (from : ℕ) (l : Lexeme) → IsNext text from l → (from ≤ l.from) × (l.from < l.to) × (l.to ≤ length text)

-- ---- all lexemes

-- a text has at most one list of lexemes, with one ending
abbrev pub AtMostOneLexing : Type 0
AtMostOneLexing = (text : List ℕ) (from : ℕ) (ls ms : List Lexeme) (e f : Option LexFault) → LexesFrom text from ls e → LexesFrom text from ms f → (ls ≡ ms) × (e ≡ f)

-- and it has one
abbrev pub AlwaysALexing : Type 0
AlwaysALexing = (text : List ℕ) (from : ℕ) → from ≤ length text → (ls : List Lexeme) × (e : Option LexFault) × LexesFrom text from ls e

-- ---- first lexemes

-- with the next lexeme they are again the first lexemes
abbrev pub OneMore : Type 0
OneMore = (text : List ℕ) (from at : ℕ) (ls : List Lexeme) (l : Lexeme) → LexemesTo text from ls at → IsNext text at l → LexemesTo text from (ls ++ l ∷ []) l.to

-- with what follows them, be it further lexemes, the end or a fault, they are all
abbrev pub Completed : Type 0
Completed = (text : List ℕ) (from at : ℕ) (ls ms : List Lexeme) (e : Option LexFault) → LexemesTo text from ls at → LexesFrom text at ms e → LexesFrom text from (ls ++ ms) e

-- where the end or a fault comes next, they are all
abbrev pub Ended : Type 0
Ended = (text : List ℕ) (from at : ℕ) (ls : List Lexeme) (e : Option LexFault) → LexemesTo text from ls at → EndsBy text at e → LexesFrom text from ls e

-- all lexemes begin with them, and go on where they end
abbrev pub Begun : Type 0
Begun = (text : List ℕ) (from at : ℕ) (ls all : List Lexeme) (e : Option LexFault) → LexemesTo text from ls at → LexesFrom text from all e
    → (rest : List Lexeme) × (all ≡ ls ++ rest) × LexesFrom text at rest e

-- a prefix of all lexemes is the first lexemes up to a place, from which the others stand
abbrev pub Parted : Type 0
Parted = (text : List ℕ) (from : ℕ) (ls ms : List Lexeme) (e : Option LexFault) → LexesFrom text from (ls ++ ms) e → (at : ℕ) × LexemesTo text from ls at × LexesFrom text at ms e

-- the list goes on from one place to another
abbrev pub GoesOn : List ℕ → List Lexeme → ℕ → List Lexeme → ℕ → Type 0
GoesOn text ls at ms to = (rest : List Lexeme) × (ms ≡ ls ++ rest) × LexemesTo text at rest to

-- of two lists of first lexemes one begins the other
abbrev pub Comparable : Type 0
Comparable = (text : List ℕ) (from a b : ℕ) (ls ms : List Lexeme) → LexemesTo text from ls a → LexemesTo text from ms b → GoesOn text ls a ms b ⊎ GoesOn text ms b ls a

-- ---- math strings

-- a math string is what stands inside it, between two `$`
abbrev pub HasInside : Type 0
HasInside = (bytes : List ℕ) → IsTrue (is_math bytes) → (bytes ≡ codes "$" ++ inside_of bytes ++ codes "$") × IsTrue (list_all is_math_byte (inside_of bytes))

-- and in the text that stands from the byte behind the first `$` to the second one
abbrev pub InsideStands : Type 0
InsideStands = (text : List ℕ) (from : ℕ) (l : Lexeme) → IsNext text from l → l.kind ≡ kinds.Math → (l.from + 2 ≤ l.to) × (slice_range text (l.from + 1) (l.to - 1) ≡ inside_of l.text)
