-- What holds between a store's nodes, their hashes and the trees that they stand for.
use Rattle.std.specs.Prelude.{ℕ, ◌≡◌, ◌<◌, ◌≤◌, ◌+◌, Contains, List, [], ◌∷◌, ◌++◌, length, slice_get, Option, Some, None}
use Rattle.mz_logic_theory.specs.Tree.{var, app}
use Rattle.mz_logic_theory.specs.Legality.{Each}
use Rattle.mz_logic_theory.specs.Words.{TermWords, term_at, word_sort, signatures_of}
use Rattle.mz_logic_theory.specs.declared.binder.Binder.{Binder}
use Rattle.mz_store.specs.Bits.{Tells, bound_vars}
use Rattle.mz_store.specs.Sharing.{Sharing, IsIn, AreIn, DependsOn, tree_of, trees_of, sort_of, deps_of}
use Rattle.mz_store.specs.Nodes.{MadeOf, Made, variable, application, made_of, all_made, sharing_of}
use Rattle.mz_store.specs.Chains.{IsLast, IsLinked}
use Rattle.mz_store.specs.declared.item.Id.{Id}
use Rattle.mz_store.specs.declared.node.Node.{Node}
use Rattle.mz_store.specs.declared.node.Form.TheVariants.{Application}
use Rattle.mz_store.specs.declared.expressions.Expressions.{Expressions}

-- the form is that of the i-th expression: a variable of the context, or a term over expressions of
-- the store
abbrev pub Forms : Sharing → ℕ → MadeOf → Type 0
Forms s i (variable bound) = (x : ℕ) × (b : Binder) × (tree_of s i ≡ var x) × (slice_get s.context x ≡ Some b) × (b.bound ≡ bound)
Forms s i (application head operands) = AreIn s operands × (tree_of s i ≡ app head (trees_of s operands))

pub record Shows (s : Sharing) (i : ℕ) (n : Made) : Type 0 where
  pub sort : sort_of s i ≡ n.sort
  pub deps : deps_of s i ≡ n.deps
  pub form : Forms s i n.form

pub record IsKept (s : Sharing) (bound_count : ℕ) (operands : List Id) (nodes : List Node) : Type 0 where
  pub many : length s.entries ≡ length nodes
  pub count : bound_count ≡ length (bound_vars s.context)
  pub small : bound_count ≤ 55
  -- variables depend on variables of the context
  pub inside : Each s.context (λ _ b. (x : ℕ) → Contains b.deps x → x < length s.context)
  -- each node is its expression
  pub shown : (i : ℕ) (n : Node) → slice_get nodes i ≡ Some n → Shows s i (made_of operands n)
  -- different ids have different trees
  pub once : (i j : ℕ) → IsIn s i → IsIn s j → tree_of s i ≡ tree_of s j → i ≡ j

-- the terms of each hash are a chain, which begins with the last one
pub record IsChained (hashed : ℕ → List Id → ℕ) (operands : List Id) (nodes : List Node) (newest : ℕ → Option Id) : Type 0 where
  pub linked : IsLinked hashed operands nodes
  pub last : (hash : ℕ) → IsLast hashed (all_made operands nodes) (length nodes) hash (newest hash)

-- ---- the expressions without the table

-- the store of these expressions
abbrev pub shared_by : Expressions → Sharing
shared_by e = sharing_of e.mode (all_made e.operands.items e.nodes.items)

abbrev pub AreKept : Expressions → Type 0
AreKept e = IsKept (shared_by e) e.bound_count e.operands.items e.nodes.items

-- what the i-th names before it in its chain: itself where there is none
abbrev pub named : ℕ → Option Id → Id
named i None = record { 0 = i }
named i (Some e) = e

-- e' has the term t over these expressions as its last one, and its word names its variables
abbrev pub IsAdded : List TermWords → Expressions → ℕ → List Id → Option Id → Expressions → Type 0
IsAdded terms e t is earlier e' = (deps : ℕ) × Tells (bound_vars (shared_by e).context) deps (DependsOn (shared_by e).mode (signatures_of terms) (shared_by e).context (app t (trees_of (shared_by e) is)))
    × (e'.operands.items ≡ e.operands.items ++ is)
    × (e'.nodes.items ≡ e.nodes.items ++ record {
      sort = word_sort (term_at terms t).result;
      deps = deps;
      form = Application (record { head = t; from = length e.operands.items; to = length e.operands.items + length is; earlier = named (length e.nodes.items) earlier });
    } ∷ [])
    × (e'.mode ≡ e.mode) × (e'.bound_count ≡ e.bound_count)

-- e' has the same expressions, and perhaps operands of none
abbrev pub HasMore : Expressions → Expressions → Type 0
HasMore e e' = (more : List Id) × (e'.operands.items ≡ e.operands.items ++ more) × (e'.nodes.items ≡ e.nodes.items) × (e'.mode ≡ e.mode) × (e'.bound_count ≡ e.bound_count)
