-- What holds of every table that the calls make.
use Rattle.std.specs.Prelude.{◌≡◌, ◌≢◌, ◌⊎◌, ℕ, List, [], ◌∷◌, ◌++◌, Option, Bool, Contains, IsTrue}
use Rattle.mz_base.specs.Checks.{AllHold, FailsFirst}
use Rattle.mz_base.specs.Identifiers.{is_name}
use Rattle.mz_logic_theory.specs.Tree.{Tree}
use Rattle.mz_logic_theory.specs.Signature.{Signature}
use Rattle.mz_lex.specs.MathTokens.{MathTokens}
use Rattle.mz_lex.specs.declared.tokens.Delimiters.{Delimiters}
use Rattle.mz_lex.specs.declared.tokens.MathToken.{MathToken}
use Rattle.mz_math_theory.specs.Notation.{Table, empty_table, with_notation, with_name, with_coercion, with_delimiters, TermName}
use Rattle.mz_math_theory.specs.declared.notation.Notation.{Notation}
use Rattle.mz_math_theory.specs.declared.coercion.Coercion.{Coercion}
use Rattle.mz_math_theory.specs.Clear.{IsClear}
use Rattle.mz_math_theory.specs.Coercions.{OnePath}
use Rattle.mz_math_theory.specs.Grammar.{words_of, Exp}
use Rattle.mz_math_theory.specs.Kept.{IsTable, AreVariables}
use Rattle.mz_math_theory.specs.Meaning.{Wanted}
use Rattle.mz_math_theory.specs.Formula.{Reader, Misreading, IsFormula, Misreads}
use Rattle.mz_math_theory.specs.Forms.{notation_checks, coercion_checks, delimiter_checks, IsInfix, IsPrefix, IsGeneral, General}
use Rattle.mz_math_theory.specs.declared.fault.NoteFault.{NoteFault}

-- ---- tables

abbrev pub EmptyIsTable : Type 0
EmptyIsTable = IsTable empty_table

-- what `infixl`, `infixr`, `prefix` or `notation` makes
abbrev pub IsNoted : List Signature → Delimiters → Notation → Type 0
IsNoted sigs d k = ((term : ℕ) × (text : List ℕ) × (level : Option ℕ) × (right : Bool) × IsInfix sigs d term text level right k)
    ⊎ (((term : ℕ) × (text : List ℕ) × (level : Option ℕ) × IsPrefix sigs d term text level k) ⊎ ((g : General) × IsGeneral sigs d g k))

abbrev pub NotationsKeepTables : Type 0
NotationsKeepTables = (t : Table) (sigs : List Signature) (k : Notation) → IsTable t → IsNoted sigs t.delimiters k
    → IsClear (with_notation t k).leading (with_notation t k).infixes → IsTable (with_notation t k)

abbrev pub CoercionsKeepTables : Type 0
CoercionsKeepTables = (t : Table) (c : Coercion) → IsTable t → OnePath (t.coercions ++ c ∷ []) → IsTable (with_coercion t c)

abbrev pub DelimitersKeepTables : Type 0
DelimitersKeepTables = (t : Table) (d : Delimiters) → IsTable t → IsTable (with_delimiters t d)

-- a name is an identifier that names no other term
abbrev pub NamesKeepTables : Type 0
NamesKeepTables = (t : Table) (n : TermName) → IsTable t → IsTrue (is_name n.name) → ((m : TermName) → Contains t.names m → m.name ≡ n.name → ⊥) → IsTable (with_name t n)

abbrev pub VariablesStay : Type 0
VariablesStay = (names : List (List ℕ)) (w : List ℕ) → AreVariables names → (w ≡ []) ⊎ IsTrue (is_name w) → (w ≢ [] → Contains names w → ⊥) → AreVariables (names ++ w ∷ [])

-- ---- trees

abbrev pub OneTree : Type 0
OneTree = (t : Table) (sigs : List Signature) (variables : List (List ℕ)) → IsTable t → AreVariables variables
    → (tokens : List (List ℕ)) (e f : Tree) → Exp (words_of t sigs variables) 0 e tokens → Exp (words_of t sigs variables) 0 f tokens → e ≡ f

-- ---- strings

abbrev pub OneTokens : Type 0
OneTokens = (d : Delimiters) (text : List ℕ) (ps qs : List MathToken) → MathTokens d text ps → MathTokens d text qs → ps ≡ qs

abbrev pub OneMeaning : Type 0
OneMeaning = (r : Reader) (w : Wanted) (text : List ℕ) → IsTable r.table → AreVariables r.scope.names → (e f : Tree) → IsFormula r w text e → IsFormula r w text f → e ≡ f

abbrev pub OneMisreading : Type 0
OneMisreading = (r : Reader) (w : Wanted) (text : List ℕ) (m n : Misreading) → Misreads r w text m → Misreads r w text n → m ≡ n

abbrev pub OneReading : Type 0
OneReading = (r : Reader) (w : Wanted) (text : List ℕ) (e : Tree) (m : Misreading) → IsFormula r w text e → Misreads r w text m → ⊥

abbrev pub SomeReading : Type 0
SomeReading = (r : Reader) (w : Wanted) (text : List ℕ) → IsTable r.table → AreVariables r.scope.names → ((e : Tree) × IsFormula r w text e) ⊎ ((m : Misreading) × Misreads r w text m)

-- ---- statements

abbrev pub DelimitersAreJudged : Type 0
DelimitersAreJudged = (left : List ℕ) (right : Option (List ℕ)) → AllHold (delimiter_checks left right) ⊎ ((f : NoteFault) × FailsFirst (delimiter_checks left right) f)

abbrev pub CoercionsAreJudged : Type 0
CoercionsAreJudged = (sigs : List Signature) (t : Table) (c : Coercion) → IsTable t → AllHold (coercion_checks sigs t c) ⊎ ((f : NoteFault) × FailsFirst (coercion_checks sigs t c) f)

abbrev pub InfixesAreJudged : Type 0
InfixesAreJudged = (sigs : List Signature) (t : Table) (term : ℕ) (text : List ℕ) (level : Option ℕ) (right : Bool) → IsTable t
    → AllHold (notation_checks t (IsInfix sigs t.delimiters term text level right)) ⊎ ((f : NoteFault) × FailsFirst (notation_checks t (IsInfix sigs t.delimiters term text level right)) f)

abbrev pub PrefixesAreJudged : Type 0
PrefixesAreJudged = (sigs : List Signature) (t : Table) (term : ℕ) (text : List ℕ) (level : Option ℕ) → IsTable t
    → AllHold (notation_checks t (IsPrefix sigs t.delimiters term text level)) ⊎ ((f : NoteFault) × FailsFirst (notation_checks t (IsPrefix sigs t.delimiters term text level)) f)

-- whether they begin with a constant or with a parameter
abbrev pub GeneralsAreJudged : Type 0
GeneralsAreJudged = (sigs : List Signature) (t : Table) (g : General) → IsTable t
    → AllHold (notation_checks t (IsGeneral sigs t.delimiters g)) ⊎ ((f : NoteFault) × FailsFirst (notation_checks t (IsGeneral sigs t.delimiters g)) f)
