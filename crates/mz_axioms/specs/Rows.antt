-- What is known of the axioms and theorems of a binary, row by row of its table of theorems (the .mmb format: axioms and
-- theorems are numbered together in the order of their statements, and are cited by these numbers).
use Rattle.std.specs.Prelude.{◌≡◌, ◌≤◌, ◌<◌, ◌⊎◌, ◌↔◌, ℕ, true, false, if◌then◌else◌, MatchBool, List, [], ◌∷◌, ◌++◌, map, flat_map, length, All, Contains, slice_get, Option, Some, None}
use Rattle.std.specs.List.Sorted.{IsStrictlyIncreasing}
use Rattle.mz_logic_theory.specs.LegalLists.{Statement}
use Rattle.mz_binary_theory.specs.Good.{Good}
use Rattle.mz_binary_theory.specs.Gapped.{AssertionBody, bodies_of}
use Rattle.mz_axioms.specs.Supports.{IsKind, InSupport}
use Rattle.mz_axioms.specs.Commands.{IsCitedIn}
use Rattle.mz_axioms.specs.Places.{places_from, is_listed}
use Rattle.mz_axioms.specs.Lists.{TheoremSupport}
use Rattle.mz_axioms.specs.declared.rows.Place.{Place}
use Rattle.mz_binary_theory.specs.Standards.{strict_standard}

-- what is known of one: its place, and the rows of the axioms to which a citation of it comes
pub record RowTold : Type 0 where
  pub place : Place
  pub axioms : List ℕ

-- a citation of the U-th comes to axiom A: it is A, or a theorem in whose support A is
abbrev pub ComesTo : List AssertionBody → ℕ → ℕ → Type 0
ComesTo bodies U A = (IsKind bodies true U × (A ≡ U)) ⊎ (IsKind bodies false U × InSupport bodies U A)

-- these are the axioms to which a citation of the row comes, in order
pub record Tells (bodies : List AssertionBody) (U : ℕ) (row : RowTold) : Type 0 where
  pub in_order : IsStrictlyIncreasing row.axioms
  pub axioms : (A : ℕ) → Contains row.axioms A ↔ ComesTo bodies U A

-- the rows of all axioms and theorems among the statements, each at its place
pub record TellsAll (file : List ℕ) (ss : List Statement) (rows : List RowTold) : Type 0 where
  pub places : map (λ r. r.place) rows ≡ places_from 0 ss
  pub each : (U : ℕ) (row : RowTold) → slice_get rows U ≡ Some row → Tells (bodies_of file ss) U row

abbrev pub TellsFile : List ℕ → List RowTold → Type 0
TellsFile file rows = (ss : List Statement) × Good strict_standard file ss × TellsAll file ss rows

-- the axioms of each row are among the rows
abbrev pub AreWithin : List RowTold → Type 0
AreWithin rows = (U : ℕ) (row : RowTold) → slice_get rows U ≡ Some row → All (λ A. A < length rows) row.axioms

-- ---- one more row

-- a citation of the row, of which this is known, comes to axiom A
abbrev pub Gives : List RowTold → ℕ → ℕ → Type 0
Gives rows U A = (row : RowTold) × (slice_get rows U ≡ Some row) × Contains row.axioms A

-- a command of these bytes cites a row that comes to axiom A
abbrev pub Reaches : List RowTold → List ℕ → ℕ → Type 0
Reaches rows bytes A = (U : ℕ) × IsCitedIn bytes U × Gives rows U A

-- of an axiom or theorem that stands at a place, whose body has these bytes: an axiom comes to itself, a theorem to what
-- its body reaches
pub record IsNew (rows : List RowTold) (place : Place) (bytes : List ℕ) (row : RowTold) : Type 0 where
  pub place_is : row.place ≡ place
  pub in_order : IsStrictlyIncreasing row.axioms
  pub axioms : (A : ℕ) → Contains row.axioms A ↔ MatchBool place.is_axiom (A ≡ length rows) (Reaches rows bytes A)

-- a row more where there is a place
abbrev pub IsNoted : Option Place → List ℕ → List RowTold → List RowTold → Type 0
IsNoted None bytes old new = new ≡ old
IsNoted (Some place) bytes old new = (row : RowTold) × (new ≡ old ++ row ∷ []) × IsNew old place bytes row

-- ---- the lists of a table

abbrev pub number_in : Option RowTold → ℕ
number_in None = 0
number_in (Some r) = r.place.number

-- the number of the row's declaration
abbrev pub number_at : List RowTold → ℕ → ℕ
number_at rows A = number_in (slice_get rows A)

abbrev pub support_of : List RowTold → RowTold → TheoremSupport
support_of rows r = record { theorem = r.place.number; axioms = map (number_at rows) r.axioms }

abbrev pub supports_at : List RowTold → RowTold → List TheoremSupport
supports_at rows r = if is_listed r.place then support_of rows r ∷ [] else []

-- of each public theorem, in order
abbrev pub supports_of : List RowTold → List TheoremSupport
supports_of rows = flat_map (supports_at rows) rows

-- no more axioms than rows stand in a row
abbrev pub AreFew : List RowTold → Type 0
AreFew rows = All (λ r. length r.axioms ≤ length rows) rows
