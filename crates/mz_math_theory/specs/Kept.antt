-- What holds of each table that the calls make, and of the variables of each statement.
use Rattle.std.specs.Prelude.{◌≡◌, ◌≢◌, ◌⊎◌, ℕ, List, [], Some, slice_get, Contains, codes, IsTrue}
use Rattle.mz_base.specs.Identifiers.{is_name}
use Rattle.mz_math_theory.specs.Notation.{Notation, TermName, Table}
use Rattle.mz_math_theory.specs.Clear.{IsClear, HasConstant, LedBy, JoinedBy}
use Rattle.mz_math_theory.specs.Coercions.{OnePath}

-- no two places of a list have one name
abbrev pub AreDistinct : List (List ℕ) → Type 0
AreDistinct names = (i j : ℕ) (w : List ℕ) → w ≢ [] → slice_get names i ≡ Some w → slice_get names j ≡ Some w → i ≡ j

-- a name stands for one term
abbrev pub OneTermEach : List TermName → Type 0
OneTermEach names = (a b : TermName) → Contains names a → Contains names b → a.name ≡ b.name → a.term ≡ b.term

-- ---- tables and variables

pub record IsTable (t : Table) : Type 0 where
  pub clear : IsClear t.leading t.infixes
  pub led : (k : Notation) → Contains t.leading k → (w : List ℕ) × LedBy k w
  pub joined : (k : Notation) → Contains t.infixes k → (w : List ℕ) × JoinedBy k w
  pub no_parentheses : (w : List ℕ) (q : ℕ) → HasConstant t.leading w q ⊎ HasConstant t.infixes w q → (w ≢ codes "(") × (w ≢ codes ")")
  pub one_term_each : OneTermEach t.names
  pub identifiers : (a : TermName) → Contains t.names a → IsTrue (is_name a.name)
  pub one_path : OnePath t.coercions

-- a name is empty, or an identifier that no other variable has
pub record AreVariables (names : List (List ℕ)) : Type 0 where
  pub distinct : AreDistinct names
  pub identifiers : (w : List ℕ) → w ≢ [] → Contains names w → IsTrue (is_name w)
