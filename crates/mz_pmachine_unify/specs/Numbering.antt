-- What the nodes of a body are: the expressions that its commands make, each with the number of its command (the .mmb
-- format, and verifiers that compare by identity).
use Rattle.std.specs.Prelude.{ℕ, ◌≡◌, ◌<◌, ◌≤◌, ⊤, List, [], ◌∷◌, ◌++◌, length, get_or, Option, Some, None}
use Rattle.mz_logic_theory.specs.Tree.{Tree, Trees}
use Rattle.mz_logic_theory.specs.Signature.{Signature}
use Rattle.mz_logic_theory.specs.declared.binder.Binder.{Binder}
use Rattle.mz_store.specs.Sharing.{Shared, IsRight}
use Rattle.mz_store.specs.declared.item.DepsMode.{DepsMode}
use Rattle.mz_store.specs.declared.item.DepsMode.TheVariants.{All}
use Rattle.mz_store.specs.declared.item.Id.{Id}
use Rattle.mz_pmachine_theory.specs.NodeIdentity.{Numbered, Operands, a_variable, an_application, no_more, one_more, operand_trees, tree_of as without_numbers}

-- an expression, with what is kept beside it: its sort, the word of all its variables, and the word of those that are reported
pub record Entry : Type 0 where
  pub expr : Numbered
  pub sort : ℕ
  pub vars : ℕ
  pub deps : ℕ

-- the expressions of a body: their context, which variables the second word names, a number above those of all commands
-- that made one, and the expressions, of which the i-th has the id i
pub record Numbering : Type 0 where
  pub context : List Binder
  pub mode : DepsMode
  pub next : ℕ
  pub entries : List Entry

-- the expression with the id i; past the end, where no call looks, a variable
abbrev pub entry_of : Numbering → ℕ → Entry
entry_of s i = get_or s.entries i (record { expr = a_variable 0; sort = 0; vars = 0; deps = 0 })

-- the expression of an id, and its tree
abbrev pub expr_of : Numbering → ℕ → Numbered
expr_of s i = (entry_of s i).expr

abbrev pub tree_of : Numbering → ℕ → Tree
tree_of s i = without_numbers (expr_of s i)

-- the sort and the words that are kept with it
abbrev pub sort_of : Numbering → ℕ → ℕ
sort_of s i = (entry_of s i).sort

abbrev pub vars_of : Numbering → ℕ → ℕ
vars_of s i = (entry_of s i).vars

abbrev pub deps_of : Numbering → ℕ → ℕ
deps_of s i = (entry_of s i).deps

-- the id is one of them
abbrev pub IsIn : Numbering → ℕ → Type 0
IsIn s i = i < length s.entries

-- the id is one of them, and this is its expression
abbrev pub Holds : Numbering → ℕ → Numbered → Type 0
Holds s i e = IsIn s i × (expr_of s i ≡ e)

abbrev pub exprs_of : Numbering → List Id → Operands
exprs_of s [] = no_more
exprs_of s (i ∷ is) = one_more (expr_of s i.0) (exprs_of s is)

abbrev pub trees_of : Numbering → List Id → Trees
trees_of s is = operand_trees (exprs_of s is)

abbrev pub AreIn : Numbering → List Id → Type 0
AreIn s [] = ⊤
AreIn s (i ∷ is) = IsIn s i.0 × AreIn s is

-- the term and the operands of an expression; a variable has neither
abbrev pub head_of : Numbered → Option ℕ
head_of (a_variable x) = None
head_of (an_application n t es) = Some t

abbrev pub operands_of : Numbered → Operands
operands_of (a_variable x) = no_more
operands_of (an_application n t es) = es

-- a command before this number made it, or it is a variable
abbrev pub IsMadeBefore : ℕ → Numbered → Type 0
IsMadeBefore next (a_variable x) = ⊤
IsMadeBefore next (an_application n t es) = n < next

-- as a shared expression is kept, by the word of all variables, and by that of those that are reported
abbrev pub by_vars : Entry → Shared
by_vars e = record { tree = without_numbers e.expr; sort = e.sort; deps = e.vars }

abbrev pub by_deps : Entry → Shared
by_deps e = record { tree = without_numbers e.expr; sort = e.sort; deps = e.deps }

-- over the terms of these signatures the sort and both words of each expression are right
abbrev pub IsRightEntry : DepsMode → List Signature → List Binder → Entry → Type 0
IsRightEntry mode sigs ctx e = IsRight mode sigs ctx (by_deps e) × IsRight All sigs ctx (by_vars e)

abbrev pub IsOver : List Signature → Numbering → Type 0
IsOver sigs s = (i : ℕ) → IsIn s i → IsRightEntry s.mode sigs s.context (entry_of s i)

-- the same expressions under the same ids, and perhaps one more after them
abbrev pub KeepsIds : Numbering → Numbering → Type 0
KeepsIds s s' = (last : List Entry) × (s'.entries ≡ s.entries ++ last) × (length last ≤ 1)

-- no expressions, and no variables
abbrev pub IsEmpty : Numbering → Type 0
IsEmpty s = (s.context ≡ []) × (s.entries ≡ []) × (s.next ≡ 0)
