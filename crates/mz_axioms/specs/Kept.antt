-- What a table of rows says, whose axioms are kept as sets (this project's own).
use Rattle.std.specs.Prelude.{◌≡◌, ◌≤◌, ◌<◌, ◌↔◌, ◌^◌, ℕ, MatchBool, if◌then◌else◌, List, [], ◌∷◌, map, flat_map, length, All, Contains, slice_get, Option, Some, None}
use Rattle.mz_axioms.specs.declared.rows.Place.{Place}
use Rattle.mz_axioms.specs.declared.rows.Row.{Row}
use Rattle.mz_axioms.specs.declared.rows.Table.{Table}
use Rattle.mz_axioms.specs.declared.lists.Support.{Support}
use Rattle.mz_axioms.specs.declared.sets.Node.{Node}
use Rattle.mz_axioms.specs.Lists.{TheoremSupport, AreSmall}
use Rattle.mz_axioms.specs.Commands.{IsCitedIn}
use Rattle.mz_axioms.specs.Members.{Grows, IsSet, IsStore, members, span}
use Rattle.mz_axioms.specs.Places.{is_listed}
use Rattle.mz_axioms.specs.Rows.{RowTold, Reaches, number_at}

-- ---- tables

abbrev pub nodes_of : Table → List Node
nodes_of table = table.sets.nodes.items

-- the numbers of a set of the table
abbrev pub members_of : Table → ℕ → List ℕ
members_of table set = members (nodes_of table) table.size.height 0 set

abbrev pub told_row : List Node → ℕ → Row → RowTold
told_row nodes height r = record { place = r.place; axioms = members nodes height 0 r.set }

-- what is known of each row
abbrev pub told : Table → List RowTold
told table = map (told_row (nodes_of table) table.size.height) table.rows.items

-- the rows' sets are sets of the store
pub record IsKept (table : Table) : Type 0 where
  pub starts : IsStore (nodes_of table)
  pub sets : All (λ r. IsSet (nodes_of table) table.size.height r.set) table.rows.items
  pub power : table.size.span ≡ span table.size.height
  pub small : table.size.span ≤ 2 ^ 33

-- the set of the axioms of the next row
pub record IsSetOf (old new : List Node) (height : ℕ) (rows : List Row) (place : Place) (bytes : List ℕ) (id : ℕ) : Type 0 where
  pub grows : Grows old new
  pub is_set : IsSet new height id
  pub holds : (A : ℕ) → Contains (members new height 0 id) A ↔ MatchBool place.is_axiom (A ≡ length (map (told_row old height) rows)) (Reaches (map (told_row old height) rows) bytes A)

-- a row has the set
abbrev pub HasSet : List Row → ℕ → ℕ → Type 0
HasSet rows U id = (row : Row) × (slice_get rows U ≡ Some row) × (row.set ≡ id)

-- a command of these bytes cites a row that has the set
abbrev pub CitesSet : List Row → List ℕ → ℕ → Type 0
CitesSet rows bytes id = (U : ℕ) × IsCitedIn bytes U × HasSet rows U id

-- ---- lists

abbrev pub number_in_row : Option Row → ℕ
number_in_row None = 0
number_in_row (Some r) = r.place.number

-- the number of the row's declaration
abbrev pub number_of : List Row → ℕ → ℕ
number_of rows A = number_in_row (slice_get rows A)

abbrev pub support_kept : Row → List Support
support_kept r = if is_listed r.place then record { theorem = r.place.number; set = r.set } ∷ [] else []

-- of each public theorem, in order
abbrev pub supports_kept : List Row → List Support
supports_kept rows = flat_map support_kept rows

abbrev pub support_told : Table → Support → TheoremSupport
support_told table s = record { theorem = s.theorem; axioms = map (number_at (told table)) (members_of table s.set) }

-- what is said of each theorem
abbrev pub supports_told : Table → List Support → List TheoremSupport
supports_told table supports = map (support_told table) supports

-- of a list's theorem: its set is a set of the store, whose numbers are rows
pub record IsSupport (table : Table) (s : Support) : Type 0 where
  pub is_set : IsSet (nodes_of table) table.size.height s.set
  pub within : All (λ A. A < length (told table)) (members_of table s.set)

pub record IsListed (table : Table) (supports : List Support) : Type 0 where
  pub kept : IsKept table
  pub each : All (IsSupport table) supports
  pub small : AreSmall (supports_told table supports)
