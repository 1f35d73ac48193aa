-- How a store finds the terms that it has. Each is looked up by a number that its head and operands give,
-- here called its hash (the table's is its bucket), and the terms of one hash are a chain.
use Rattle.std.specs.Prelude.{ℕ, ◌≡◌, ◌<◌, ◌≤◌, ◌==◌, ⊤, List, length, slice_get, Option, Some, None, if◌then◌else◌}
use Rattle.mz_store.specs.Nodes.{Made, MadeOf, variable, application, operands_at, all_made}
use Rattle.mz_store.specs.declared.item.Id.{Id}
use Rattle.mz_store.specs.declared.node.Node.{Node}
use Rattle.mz_store.specs.declared.node.Application.{Application as Term}
use Rattle.mz_store.specs.declared.node.Form.{Form}
use Rattle.mz_store.specs.declared.node.Form.TheVariants.{Variable, Application}

-- it is the term with this head over these operands
abbrev pub IsOf : MadeOf → ℕ → List Id → Type 0
IsOf (variable bound) head operands = ⊥
IsOf (application h is) head operands = (h ≡ head) × (is ≡ operands)

-- the i-th has this head and these operands
abbrev pub IsNode : List Made → ℕ → List Id → ℕ → Type 0
IsNode made head operands i = (m : Made) × (slice_get made i ≡ Some m) × IsOf m.form head operands

-- it is a term with this hash
abbrev pub HasHash : (ℕ → List Id → ℕ) → MadeOf → ℕ → Type 0
HasHash hashed (variable bound) hash = ⊥
HasHash hashed (application h is) hash = hashed h is ≡ hash

-- of the first k the last one with this hash
abbrev pub IsLast : (ℕ → List Id → ℕ) → List Made → ℕ → ℕ → Option Id → Type 0
IsLast hashed made k hash None = (j : ℕ) (m : Made) → j < k → slice_get made j ≡ Some m → HasHash hashed m.form hash → ⊥
IsLast hashed made k hash (Some e) = (e.0 < k) × ((m : Made) × (slice_get made e.0 ≡ Some m) × HasHash hashed m.form hash)
    × ((j : ℕ) (m : Made) → j < k → slice_get made j ≡ Some m → HasHash hashed m.form hash → j ≤ e.0)

-- the one before the i-th in its chain: one that names itself is the first
abbrev pub earlier_of : ℕ → Term → Option Id
earlier_of i a = if a.earlier.0 == i then None else Some a.earlier

-- the operands lie within the list, and before the i-th with its hash comes the one that it names
abbrev pub Links : (ℕ → List Id → ℕ) → List Id → List Made → ℕ → Form → Type 0
Links hashed operands made i (Variable bound) = ⊤
Links hashed operands made i (Application a) = (a.from ≤ a.to) × (a.to ≤ length operands) × IsLast hashed made i (hashed a.head (operands_at operands a.from a.to)) (earlier_of i a)

abbrev pub IsLinked : (ℕ → List Id → ℕ) → List Id → List Node → Type 0
IsLinked hashed operands nodes = (i : ℕ) (n : Node) → slice_get nodes i ≡ Some n → Links hashed operands (all_made operands nodes) i n.form

-- by some hashes the nodes are linked, and `newest` is the last one with the hash of this term
abbrev pub IsChain : List Id → List Node → ℕ → List Id → Option Id → Type 0
IsChain operands nodes head args newest = (hashed : ℕ → List Id → ℕ) × IsLinked hashed operands nodes × IsLast hashed (all_made operands nodes) (length nodes) (hashed head args) newest
