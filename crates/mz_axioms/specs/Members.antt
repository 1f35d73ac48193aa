-- Sets of numbers as a store keeps them (this project's own). A set of height 0 is a word, whose bits say which of 64
-- numbers it has. One of a greater height is the place of a node, whose two halves are sets of the height below.
use Rattle.std.specs.Prelude.{◌≡◌, ◌<◌, ◌+◌, ◌*◌, ◌/◌, ◌%◌, ◌==◌, ◌⊎◌, ◌↔◌, ⊤, ℕ, zero, suc, if◌then◌else◌, List, [], ◌∷◌, ◌++◌, length, Contains, slice_get, Option, Some, None}
use Rattle.mz_axioms.specs.declared.sets.Node.{Node}

-- the base, if the word's lowest bit is set
abbrev pub low_bit : (base word : ℕ) → List ℕ
low_bit base word = if word % 2 == 1 then base ∷ [] else []

-- of so many bits of a word, the lowest first, the places of those that are set, counted from a base
unfoldable pub bits : (many base word : ℕ) → List ℕ
bits zero base word = []
bits (suc many) base word = low_bit base word ++ bits many (base + 1) (word / 2)

-- how many numbers a set of the height may have
abbrev pub span : ℕ → ℕ
span zero = 64
span (suc height) = 2 * span height

abbrev pub node : (left right : ℕ) → Node
node left right = record { left = left; right = right }

-- past the last one, a node without numbers
abbrev pub node_in : Option Node → Node
node_in None = node 0 0
node_in (Some n) = n

abbrev pub node_at : List Node → ℕ → Node
node_at nodes id = node_in (slice_get nodes id)

abbrev pub left_of : List Node → ℕ → ℕ
left_of nodes id = (node_at nodes id).left

abbrev pub right_of : List Node → ℕ → ℕ
right_of nodes id = (node_at nodes id).right

-- the numbers of a set, ascending, each with the base added
abbrev pub members : List Node → (height base id : ℕ) → List ℕ
members nodes zero base id = bits 64 base id
members nodes (suc height) base id = members nodes height base (left_of nodes id) ++ members nodes height (base + span height) (right_of nodes id)

-- the id is a set's
abbrev pub IsSet : List Node → (height id : ℕ) → Type 0
IsSet nodes zero id = ⊤
IsSet nodes (suc height) id = (id < length nodes) × IsSet nodes height (left_of nodes id) × IsSet nodes height (right_of nodes id)

-- 0 is the set of no numbers, of each height
abbrev pub IsStore : List Node → Type 0
IsStore nodes = slice_get nodes 0 ≡ Some (node 0 0)

-- there are more nodes
abbrev pub Grows : List Node → List Node → Type 0
Grows old new = (more : List Node) × (new ≡ old ++ more)

-- ---- what is made

-- the node stands at the id
pub record IsJoined (old new : List Node) (left right id : ℕ) : Type 0 where
  pub grows : Grows old new
  pub there : slice_get new id ≡ Some (node left right)

-- the set of one number
pub record IsSingle (old new : List Node) (height n id : ℕ) : Type 0 where
  pub grows : Grows old new
  pub is_set : IsSet new height id
  pub holds : (base m : ℕ) → Contains (members new height base id) m ↔ (m ≡ base + n)

-- one of the sets has the number
abbrev pub InSome : List Node → (height base : ℕ) → List ℕ → ℕ → Type 0
InSome nodes height base ids n = (id : ℕ) × Contains ids id × Contains (members nodes height base id) n

-- the set of the numbers that one of the sets has
pub record IsUnion (old new : List Node) (height : ℕ) (ids : List ℕ) (id : ℕ) : Type 0 where
  pub grows : Grows old new
  pub is_set : IsSet new height id
  pub holds : (base n : ℕ) → Contains (members new height base id) n ↔ InSome old height base ids n

-- the id, unless it is the last one
abbrev pub other : (id last : ℕ) → List ℕ
other id last = if id == last then [] else id ∷ []

-- the same ids, but that 0 may be left out
pub record AreOnce (ids kept : List ℕ) : Type 0 where
  pub back : (id : ℕ) → Contains kept id → Contains ids id
  pub there : (id : ℕ) → Contains ids id → (id ≡ 0) ⊎ Contains kept id
