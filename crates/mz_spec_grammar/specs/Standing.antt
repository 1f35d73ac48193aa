-- Where a reader stands in a statement, and what its calls do.
use Rattle.std.specs.Prelude.{◌≡◌, ◌-◌, ◌+◌, ◌++◌, ⊤, ℕ, List, [], ◌∷◌, drop, length, Bool, false, not, ◌||◌, Option, Some, None, codes, if◌then◌else◌}
use Rattle.std.proofs.Common.{Result, Ok, Err}
use Rattle.mz_lex.specs.declared.rule.S.{S}
use Rattle.mz_lex.specs.declared.token.TokenKind.TheVariants as kinds
use Rattle.mz_lex.specs.Lexemes.{Lexeme, IsNext, LexemesTo}
use Rattle.mz_spec_theory.specs.declared.kind.Kind.{Kind}
use Rattle.mz_spec_theory.specs.declared.lexeme.Lexeme.{Lexeme as LexemeRead}
use Rattle.mz_spec_theory.specs.declared.refusal.Halt.{Halt}
use Rattle.mz_spec_theory.specs.StatementCode.{lexeme}
use Rattle.mz_spec_theory.specs.Statement.{Head, Level, LiteralText, Modifiers, SpecStatement, closing_of, takes_dummies, takes_formulas}
use Rattle.mz_spec_theory.specs.Tests.{Test, the_keyword, the_symbol, a_name, a_name_or_blank, a_formula, a_number, only, fits}
use Rattle.mz_spec_theory.specs.Progress.{OpenNotation, Progress, Row, beginnings, choose, group_opened, is_bare, level_rows, literal_read, moves, notation_of, open_group, opening, slot_of, sort_opened, start, tail_opened, wanted, whole, Leads}
use Rattle.mz_spec_theory.specs.Progress as progress
use Rattle.mz_spec_theory.specs.Stops.{misfit_rule}
use Rattle.mz_spec_theory.specs.Reading.{EndsAt, IsReadTo, OnFault, StopsFrom, place_of_first}
use Rattle.mz_spec_grammar.specs.declared.reader.Reader.{Reader}
use Rattle.mz_spec_grammar.specs.declared.test.Test.{Test as TestRead}
use Rattle.mz_spec_grammar.specs.declared.test.Test.TheVariants as tests

abbrev pub test : TestRead → Test
test (tests.Keyword text) = the_keyword text.now
test (tests.Symbol text) = the_symbol text.now
test tests.Name = a_name
test tests.NameOrBlank = a_name_or_blank
test tests.Formula = a_formula
test tests.Number = a_number
test (tests.Closing is_bound) = the_symbol (closing_of is_bound)
test (tests.Pure m) = only (not (m.is_pure || m.is_strict || m.is_provable || m.is_free)) (the_keyword (codes "pure"))
test (tests.Strict m) = only (not (m.is_strict || m.is_provable || m.is_free)) (the_keyword (codes "strict"))
test (tests.Provable m) = only (not (m.is_provable || m.is_free)) (the_keyword (codes "provable"))
test (tests.Free m) = only (not m.is_free) (the_keyword (codes "free"))
test (tests.Dot kind) = only (takes_dummies kind) (the_symbol (codes "."))
test (tests.Hypothesis kind is_bound) = only (takes_formulas kind is_bound) a_formula

-- ---- what is at hand

abbrev pub Hand : Type 0
Hand = Result LexemeRead Halt

abbrev pub holds : Test → Hand → Bool
holds t (Ok l) = fits t l.kind l.bytes.now
holds t (Err halt) = false

abbrev pub at_hand : Hand → Lexeme
at_hand (Ok l) = lexeme l
at_hand (Err halt) = record { kind = kinds.Symbol; text = []; from = 0; to = 0 }

-- how many bytes may follow, and one for the lexeme
abbrev pub left_by : ℕ → Hand → ℕ
left_by size (Ok l) = size - l.to + 1
left_by size (Err halt) = 0

abbrev pub left : Reader → ℕ
left r = left_by (length r.text.now) r.hand

-- what comes from a place on
abbrev pub IsNow : List ℕ → ℕ → Hand → Type 0
IsNow text at (Ok l) = IsNext text at (lexeme l)
IsNow text at (Err halt) = OnFault halt (EndsAt text at)

-- ---- where a reader stands

-- where reading began: the text, a place, and that of the statement's first byte
pub record Begun : Type 0 where
  pub text : List ℕ
  pub from : ℕ
  pub place : ℕ

-- behind lexemes that lead to a progress; before a lexeme that one of the rows awaits
pub data Place : Type 0 where
  behind : Progress → Place
  before : List Row → Place

-- the lexemes so far lead to a progress that goes on with the rows; this lexeme comes
pub record IsAwaited (s : Begun) (rows : List Row) (l : Lexeme) (rule : S) : Type 0 where
  pub so_far : List Lexeme
  pub at : ℕ
  pub reached : Progress
  pub lexes : LexemesTo s.text s.from so_far at
  pub leads : Leads start so_far reached
  pub is_open : (r : SpecStatement) → reached ≡ whole r → ⊥
  pub comes : IsNext s.text at l
  pub chosen : progress.next reached l ≡ choose rows l.kind l.text l
  pub first : place_of_first (so_far ++ l ∷ []) ≡ s.place
  pub breaks : rule ≡ misfit_rule so_far l

abbrev pub IsAt : Begun → Place → S → LexemeRead → Type 0
IsAt s (behind p) rule l = IsReadTo s.text s.from s.place p l.to
IsAt s (before rows) rule l = IsAwaited s rows (lexeme l) rule

-- there, or the statement stops with the fault that is kept
abbrev pub StandsBy : Begun → Place → List ℕ → S → Hand → Type 0
StandsBy s at text rule (Ok l) = (text ≡ s.text) × IsAt s at rule l
StandsBy s at text rule (Err halt) = OnFault halt (StopsFrom s.text s.from)

pub record Stands (s : Begun) (at : Place) (r : Reader) : Type 0 where
  pub is : StandsBy s at r.text.now r.rule r.hand

-- ---- what calls do

-- from there to there
abbrev pub Reads : Place → Place → Reader → Reader → Type 0
Reads a b old new = (s : Begun) → Stands s a old → Stands s b new

abbrev pub GoesOn : List Row → Type 0
GoesOn [] = ⊥
GoesOn (row ∷ rows) = ⊤

abbrev pub Advances : Reader → Reader → Type 0
Advances old new = (p : Progress) → GoesOn (moves p) → Reads (behind p) (before (moves p)) old new

-- no row is left: it stands anywhere, as it stops
abbrev pub Stops : Reader → Reader → Type 0
Stops old new = (at : Place) → Reads (before []) at old new

abbrev pub Needs : Test → Reader → Reader → Type 0
Needs t old new = (f : Lexeme → Progress) → Reads (before ((t, f) ∷ [])) (behind (f (at_hand new.hand))) old new

abbrev pub Takes : Test → Lexeme → Reader → Reader → Type 0
Takes t l old new = (p : Progress) (f : Lexeme → Progress) → moves p ≡ (t, f) ∷ [] → Reads (behind p) (behind (f l)) old new

abbrev pub Gives : Level → Reader → Reader → Type 0
Gives level old new = (p : Progress) (f : Level → Progress) → moves p ≡ level_rows f → Reads (behind p) (behind (f level)) old new

-- where it stands by the longer list, it stands by the one that is kept
abbrev pub Adds : {A : Type 0} → List A → List A → Reader → Reader → Type 0
Adds {A} longer kept old new = (at : List A → Place) → Reads (at longer) (at kept) old new

-- ---- where some calls lead

-- behind the bracket of a group, or the colon
abbrev pub opened : Kind → Head → Option Bool → Progress
opened kind h None = wanted (slot_of kind h)
opened kind h (Some is_bound) = group_opened (open_group kind h is_bound)

-- behind a literal, or before what else may stand there
abbrev pub past_literal : OpenNotation → List Row → Option LiteralText → Place
past_literal n rows None = before rows
past_literal n rows (Some x) = behind (literal_read n x)

-- what ends the literals
abbrev pub tail_rows : OpenNotation → LiteralText → List Row
tail_rows n x = (the_symbol (codes ":"), λ l. tail_opened n x) ∷ (the_symbol (codes ";"), λ l. notation_of n x None) ∷ []

-- the last of the keywords that begin a statement
abbrev pub simple_beginnings : List Row
simple_beginnings = drop 5 beginnings

-- behind one modifier more, or before what else may stand there
abbrev pub past_modifier : Modifiers → Option Modifiers → Place
past_modifier m None = before ((the_keyword (codes "sort"), λ l. sort_opened m) ∷ (if is_bare m then beginnings else []))
past_modifier m (Some n) = behind (opening n)
