-- What holds of all lexemes.
use Rattle.std.specs.Prelude.{◌≡◌, ◌≤◌, ◌⊎◌, ◌+◌, ◌++◌, ℕ, List, [], length, Option, None}
use Rattle.mz_lex.specs.declared.token.LexFault.{LexFault}
use Rattle.mz_lex.specs.Lexemes.{Lexeme, IsBlank}
use Rattle.mz_spec_theory.specs.declared.refusal.Fault.{Fault}
use Rattle.mz_spec_theory.specs.declared.read.StatementRead.{StatementRead}
use Rattle.mz_spec_theory.specs.StatementCode.{statement}
use Rattle.mz_spec_theory.specs.Reading.{IsRead, StopsFrom}
use Rattle.mz_spec_theory.specs.Statement.{SpecStatement, Spells, statement_signs}
use Rattle.mz_spec_theory.specs.Stops.{Stops}

-- lexemes spell one statement at most
abbrev pub OneStatement : Type 0
OneStatement = (s r : SpecStatement) (ls : List Lexeme) → Spells s ls → Spells r ls → s ≡ r

-- no statement begins another one: what lexemes begin with is one statement
abbrev pub OneFront : Type 0
OneFront = (s r : SpecStatement) (front back other rest : List Lexeme) → Spells s front → Spells r other → front ++ back ≡ other ++ rest → (s ≡ r) × (front ≡ other) × (back ≡ rest)

-- no statement is empty
abbrev pub NoneEmpty : Type 0
NoneEmpty = (s : SpecStatement) → Spells s [] → ⊥

-- lexemes stop with one fault at most
abbrev pub OneStop : Type 0
OneStop = (n : ℕ) (ls : List Lexeme) (ending : Option LexFault) (f g : Fault) → Stops n ls ending f → Stops n ls ending g → f ≡ g

-- those that begin with a statement don't stop
abbrev pub NotBoth : Type 0
NotBoth = (n : ℕ) (s : SpecStatement) (front back : List Lexeme) (ending : Option LexFault) (fault : Fault) → Spells s front → Stops n (front ++ back) ending fault → ⊥

-- lexemes begin with a statement
abbrev pub Begins : List Lexeme → Type 0
Begins ls = (s : SpecStatement) × (front : List Lexeme) × (back : List Lexeme) × (ls ≡ front ++ back) × Spells s front

-- lexemes begin with a statement, or stop, or there are none and no fault
abbrev pub OneOfAll : Type 0
OneOfAll = (n : ℕ) (ls : List Lexeme) (ending : Option LexFault) → Begins ls ⊎ (((fault : Fault) × Stops n ls ending fault) ⊎ ((ls ≡ []) × (ending ≡ None)))

-- ---- from a place of a text on

-- one statement stands at most, with one end
abbrev pub OneRead : Type 0
OneRead = (text : List ℕ) (from : ℕ) (a b : StatementRead) → IsRead text from a → IsRead text from b → (statement a.statement ≡ statement b.statement) × (a.place ≡ b.place) × (a.end ≡ b.end)

-- the lexemes stop with one fault at most
abbrev pub OneFault : Type 0
OneFault = (text : List ℕ) (from : ℕ) (f g : Fault) → from ≤ length text → StopsFrom text from f → StopsFrom text from g → f ≡ g

-- not where a statement stands
abbrev pub ReadOrFault : Type 0
ReadOrFault = (text : List ℕ) (from : ℕ) (read : StatementRead) (fault : Fault) → from ≤ length text → IsRead text from read → StopsFrom text from fault → ⊥

-- and neither of them where nothing stands
abbrev pub ReadOrBlank : Type 0
ReadOrBlank = (text : List ℕ) (from : ℕ) (read : StatementRead) → IsRead text from read → IsBlank text from (length text) → ⊥

abbrev pub FaultOrBlank : Type 0
FaultOrBlank = (text : List ℕ) (from : ℕ) (fault : Fault) → StopsFrom text from fault → IsBlank text from (length text) → ⊥

-- a statement takes a byte for each of its signs at least
abbrev pub TakesBytes : Type 0
TakesBytes = (text : List ℕ) (from : ℕ) (read : StatementRead) → IsRead text from read → from + length (statement_signs (statement read.statement)) ≤ read.end
