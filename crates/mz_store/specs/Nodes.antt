-- The trees that a list of nodes stands for: they are never written out.
use Rattle.std.specs.Prelude.{ℕ, ◌≡◌, ◌<◌, ◌≤◌, ◌-◌, ◌^◌, ⊤, Bool, MatchBool, List, [], ◌∷◌, ◌++◌, length, map, take, drop, slice_get, Some, if◌then◌else◌}
use Rattle.mz_logic_theory.specs.Tree.{Tree, var, app}
use Rattle.mz_logic_theory.specs.Words.{places_set, word_sort, word_deps, word_bound}
use Rattle.mz_logic_theory.specs.declared.word.Word.{Word}
use Rattle.mz_logic_theory.specs.declared.binder.Binder.{Binder}
use Rattle.mz_store.specs.Bits.{bound_vars}
use Rattle.mz_store.specs.Sharing.{Sharing, trees_of}
use Rattle.mz_store.specs.declared.item.DepsMode.{DepsMode}
use Rattle.mz_store.specs.declared.item.Id.{Id}
use Rattle.mz_store.specs.declared.node.Node.{Node}
use Rattle.mz_store.specs.declared.node.Form.{Form}
use Rattle.mz_store.specs.declared.node.Form.TheVariants.{Variable, Application}

-- what a node says, with its operands as a list: a variable, bound or regular, or a term over operands
pub data MadeOf : Type 0 where
  variable : Bool → MadeOf
  application : ℕ → List Id → MadeOf

pub record Made : Type 0 where
  pub sort : ℕ
  pub deps : ℕ
  pub form : MadeOf

-- what stands in the list of operands from one place to another
abbrev pub operands_at : List Id → ℕ → ℕ → List Id
operands_at operands from to = take (to - from) (drop from operands)

abbrev pub form_of : List Id → Form → MadeOf
form_of operands (Variable bound) = variable bound
form_of operands (Application a) = application a.head (operands_at operands a.from a.to)

abbrev pub made_of : List Id → Node → Made
made_of operands n = record { sort = n.sort; deps = n.deps; form = form_of operands n.form }

abbrev pub all_made : List Id → List Node → List Made
all_made operands nodes = map (made_of operands) nodes

-- its operands lie within the list
abbrev pub Lies : List Id → Form → Type 0
Lies operands (Variable bound) = ⊤
Lies operands (Application a) = (a.from ≤ a.to) × (a.to ≤ length operands)

abbrev pub AllLie : List Id → List Node → Type 0
AllLie operands nodes = (i : ℕ) (n : Node) → slice_get nodes i ≡ Some n → Lies operands n.form

-- the word of a variable after so many bound ones: of a bound one its own bit, of a regular one bits of
-- the bound ones before it
abbrev pub IsVariableWord : ℕ → ℕ → Bool → Type 0
IsVariableWord count deps bound = MatchBool bound ((count ≤ 54) × (deps ≡ 2 ^ count)) (deps < 2 ^ count)

-- the binder of a variable that comes after these
abbrev pub binder_after : List Binder → ℕ → ℕ → Bool → Binder
binder_after ctx sort deps bound = record { sort = sort; bound = bound; deps = if bound then [] else places_set deps (bound_vars ctx) }

abbrev pub context_with : Sharing → Made → MadeOf → List Binder
context_with s n (variable bound) = s.context ++ binder_after s.context n.sort n.deps bound ∷ []
context_with s n (application head operands) = s.context

abbrev pub tree_with : Sharing → MadeOf → Tree
tree_with s (variable bound) = var (length s.context)
tree_with s (application head operands) = app head (trees_of s operands)

-- a store after one more node
abbrev pub entered : Sharing → Made → Sharing
entered s n = record {
  context = context_with s n n.form;
  mode = s.mode;
  entries = s.entries ++ record { tree = tree_with s n.form; sort = n.sort; deps = n.deps } ∷ [];
}

abbrev pub entered_all : Sharing → List Made → Sharing
entered_all s [] = s
entered_all s (n ∷ ns) = entered_all (entered s n) ns

abbrev pub no_expressions : DepsMode → Sharing
no_expressions mode = record { context = []; mode = mode; entries = [] }

-- the store of these nodes
abbrev pub sharing_of : DepsMode → List Made → Sharing
sharing_of mode made = entered_all (no_expressions mode) made

-- the node of a parameter
abbrev pub variable_node : Word → Made
variable_node w = record { sort = word_sort w; deps = word_deps w; form = variable (word_bound w) }
