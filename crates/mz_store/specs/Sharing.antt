-- What a store of shared expressions is.
use Rattle.std.specs.Prelude.{ℕ, ◌≡◌, ◌<◌, ◌≤◌, ⊤, true, List, [], ◌∷◌, ◌++◌, length, get_or, Option, Some, None}
use Rattle.mz_logic_theory.specs.Tree.{Tree, Trees, var, app, none, more}
use Rattle.mz_logic_theory.specs.Signature.{Signature}
use Rattle.mz_logic_theory.specs.Sorts.{HasSort, Fits}
use Rattle.mz_logic_theory.specs.Variables.{InV, InFV}
use Rattle.mz_logic_theory.specs.Words.{TermWords, signature_of, signatures_of, term_at}
use Rattle.mz_logic_theory.specs.declared.binder.Binder.{Binder}
use Rattle.mz_store.specs.Bits.{Tells, bound_vars}
use Rattle.mz_store.specs.declared.item.DepsMode.{DepsMode}
use Rattle.mz_store.specs.declared.item.DepsMode.TheVariants as of
use Rattle.mz_store.specs.declared.item.Id.{Id}

-- an expression of a store: its tree, and the sort and the word of variables that are kept with it
pub record Shared : Type 0 where
  pub tree : Tree
  pub sort : ℕ
  pub deps : ℕ

-- a store: the context of its expressions, which variables its words name, and its expressions, of
-- which the i-th has the id i
pub record Sharing : Type 0 where
  pub context : List Binder
  pub mode : DepsMode
  pub entries : List Shared

-- the expression with the id i; past the end, where no call looks, a term without operands
abbrev pub entry_of : Sharing → ℕ → Shared
entry_of s i = get_or s.entries i (record { tree = app 0 none; sort = 0; deps = 0 })

-- the tree of an id
abbrev pub tree_of : Sharing → ℕ → Tree
tree_of s i = (entry_of s i).tree

-- the sort and the word that are kept with it
abbrev pub sort_of : Sharing → ℕ → ℕ
sort_of s i = (entry_of s i).sort

abbrev pub deps_of : Sharing → ℕ → ℕ
deps_of s i = (entry_of s i).deps

-- the id is the store's
abbrev pub IsIn : Sharing → ℕ → Type 0
IsIn s i = i < length s.entries

-- the id is the store's, and this is its tree
abbrev pub Holds : Sharing → ℕ → Tree → Type 0
Holds s i e = IsIn s i × (tree_of s i ≡ e)

abbrev pub trees_of : Sharing → List Id → Trees
trees_of s [] = none
trees_of s (i ∷ is) = more (tree_of s i.0) (trees_of s is)

abbrev pub AreIn : Sharing → List Id → Type 0
AreIn s [] = ⊤
AreIn s (i ∷ is) = IsIn s i.0 × AreIn s is

-- a tree's head and operands; a variable has neither
abbrev pub head_of : Tree → Option ℕ
head_of (var x) = None
head_of (app t es) = Some t

abbrev pub operands_of : Tree → Trees
operands_of (var x) = none
operands_of (app t es) = es

-- the variables that a store's words name: all, or the free ones
abbrev pub DependsOn : DepsMode → List Signature → List Binder → Tree → ℕ → Type 0
DependsOn of.All sigs ctx e x = InV ctx x e
DependsOn of.Free sigs ctx e x = InFV sigs ctx x e

-- the tree has this sort, and the word names its variables
abbrev pub IsRight : DepsMode → List Signature → List Binder → Shared → Type 0
IsRight mode sigs ctx e = HasSort sigs ctx e.tree e.sort × Tells (bound_vars ctx) e.deps (DependsOn mode sigs ctx e.tree)

-- a store over the terms of these signatures: what is kept with each expression is right
abbrev pub IsOver : List Signature → Sharing → Type 0
IsOver sigs s = (i : ℕ) → IsIn s i → IsRight s.mode sigs s.context (entry_of s i)

-- the operands can stand under the term t: it is there, and they have the sorts of its parameters, a
-- bound variable for each bound one
abbrev pub CanTake : List TermWords → List Binder → ℕ → Trees → Type 0
CanTake terms ctx t es = (t < length terms) × Fits (signatures_of terms) ctx es (signature_of (term_at terms t)).params

-- the same expressions under the same ids, and perhaps one more after them
abbrev pub KeepsIds : Sharing → Sharing → Type 0
KeepsIds s s' = (last : List Shared) × (s'.entries ≡ s.entries ++ last) × (length last ≤ 1)

-- no expressions, and no variables
abbrev pub IsEmpty : Sharing → Type 0
IsEmpty s = (s.context ≡ []) × (s.entries ≡ [])

-- a dummy's binder
abbrev pub dummy_binder : ℕ → Binder
dummy_binder sort = record { sort = sort; bound = true; deps = [] }
