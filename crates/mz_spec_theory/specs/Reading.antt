-- What reading a statement answers (mm0.md, section on the grammar; where a fault is reported is this project's own).
use Rattle.std.specs.Prelude.{◌≡◌, ⊤, ℕ, List, [], ◌∷◌, length, Option}
use Rattle.std.proofs.Common.{Result, Ok, Err, Some, None}
use Rattle.mz_lex.specs.Lexemes.{Lexeme, LexemesTo, LexesFrom, EndsBy}
use Rattle.mz_lex.specs.declared.token.LexFault.{LexFault}
use Rattle.mz_lex.specs.declared.rule.S.TheVariants as rules
use Rattle.mz_lex.specs.RuleText.{place_of, rule_of}
use Rattle.mz_spec_theory.specs.declared.refusal.Fault.{Fault}
use Rattle.mz_spec_theory.specs.declared.refusal.Halt.{Halt}
use Rattle.mz_spec_theory.specs.declared.refusal.Halt.TheVariants as halts
use Rattle.mz_spec_theory.specs.declared.read.StatementRead.{StatementRead}
use Rattle.mz_spec_theory.specs.StatementCode.{statement}
use Rattle.mz_spec_theory.specs.Statement.{Spells}
use Rattle.mz_spec_theory.specs.Progress.{Progress, start, Leads}
use Rattle.mz_spec_theory.specs.Stops.{Stops}

abbrev pub place_of_first : List Lexeme → ℕ
place_of_first [] = 0
place_of_first (l ∷ ls) = l.from

-- the lexemes from a place to another lead there; the first of them begins the statement
abbrev pub IsReadTo : List ℕ → ℕ → ℕ → Progress → ℕ → Type 0
IsReadTo text from place p to = (first : Lexeme) × (more : List Lexeme) × LexemesTo text from (first ∷ more) to × (first.from ≡ place) × Leads start (first ∷ more) p

-- from a place on stands a statement; its first byte, and the place behind it
abbrev pub IsRead : List ℕ → ℕ → StatementRead → Type 0
IsRead text from read = (front : List Lexeme) × LexemesTo text from front read.end × Spells (statement read.statement) front × (place_of_first front ≡ read.place)

-- the lexemes from a place on stop with this fault
abbrev pub StopsFrom : List ℕ → ℕ → Fault → Type 0
StopsFrom text from fault = (ls : List Lexeme) (ending : Option LexFault) → LexesFrom text from ls ending → Stops (length text) ls ending fault

-- the fault where no lexeme comes within a statement: the end of the text, or of what stands there
abbrev pub ending_fault : ℕ → Option LexFault → Fault
ending_fault size None = record { at = size; rule = rules.Statement }
ending_fault size (Some fault) = record { at = place_of fault; rule = rule_of fault }

-- no lexeme comes from a place on, with this fault within a statement
abbrev pub EndsAt : List ℕ → ℕ → Fault → Type 0
EndsAt text at fault = (e : Option LexFault) × EndsBy text at e × (fault ≡ ending_fault (length text) e)

-- a fault has the property; out of memory says nothing
abbrev pub OnFault : Halt → (Fault → Type 0) → Type 0
OnFault (halts.Fault fault) P = P fault
OnFault halts.Mem P = ⊤

-- the fault, where there is one, has the property
abbrev pub IfFault : {A : Type 0} → Result A Halt → (Fault → Type 0) → Type 0
IfFault (Ok _) P = ⊤
IfFault (Err halt) P = OnFault halt P
