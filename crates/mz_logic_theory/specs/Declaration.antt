-- Declarations, and the environments that they make (mm0.md, sections on sorts, terms, definitions,
-- axioms and theorems).
use Rattle.std.specs.Prelude.{Bool, true, false, List, [], ◌∷◌, ◌++◌, All}
use Rattle.std.specs.List.Sorted.{IsStrictlyIncreasing}
use Rattle.mz_logic_theory.specs.Tree.{Tree, Trees, app, none, more}
use Rattle.mz_logic_theory.specs.Signature.{Signature}
use Rattle.mz_logic_theory.specs.declared.binder.Binder.{Binder}
use Rattle.mz_logic_theory.specs.declared.binder.SortMods.{SortMods}

-- a plain term, a definition whose body is left open, and one with dummies and a body
pub data Form : Type 0 where
  plain_form : Form
  abstract_form : Form
  defined : (dummies : List Binder) → (body : Tree) → Form

pub record Term : Type 0 where
  pub signature : Signature
  pub form : Form

-- an axiom, or a theorem
pub record Assertion : Type 0 where
  pub is_axiom : Bool
  pub params : List Binder
  pub hyps : Trees
  pub conclusion : Tree

pub data Declaration : Type 0 where
  sort_decl : SortMods → Declaration
  term_decl : Term → Declaration
  assertion_decl : Assertion → Declaration

-- the dummies of a term's form, whether it has a body, and the body, if it has one
abbrev pub dummies_of : Form → List Binder
dummies_of plain_form = []
dummies_of abstract_form = []
dummies_of (defined dummies _) = dummies

-- a form with dummies and a body
abbrev pub is_defined : Form → Bool
is_defined plain_form = false
is_defined abstract_form = false
is_defined (defined _ _) = true

abbrev pub body_of : Form → Trees
body_of plain_form = none
body_of abstract_form = none
body_of (defined _ body) = more body none

-- the body; where there is none, and no rule looks, an application of the term 0
abbrev pub body_tree : Form → Tree
body_tree plain_form = app 0 none
body_tree abstract_form = app 0 none
body_tree (defined _ body) = body

-- the context of a term's body: its parameters, and after them its dummies
abbrev pub context_of : Term → List Binder
context_of d = d.signature.params ++ dummies_of d.form

-- the dependencies of each stand in ascending order, each once
abbrev pub DepsAscend : List Binder → Type 0
DepsAscend bs = All (λ b. IsStrictlyIncreasing b.deps) bs

-- ---- an environment is a list of declarations; in it the sorts, the terms, and the axioms and
-- theorems are numbered, each kind by itself

abbrev pub sorts : List Declaration → List SortMods
sorts [] = []
sorts (sort_decl m ∷ ds) = m ∷ sorts ds
sorts (term_decl _ ∷ ds) = sorts ds
sorts (assertion_decl _ ∷ ds) = sorts ds

abbrev pub terms : List Declaration → List Term
terms [] = []
terms (sort_decl _ ∷ ds) = terms ds
terms (term_decl d ∷ ds) = d ∷ terms ds
terms (assertion_decl _ ∷ ds) = terms ds

abbrev pub signatures : List Declaration → List Signature
signatures [] = []
signatures (sort_decl _ ∷ ds) = signatures ds
signatures (term_decl d ∷ ds) = d.signature ∷ signatures ds
signatures (assertion_decl _ ∷ ds) = signatures ds

abbrev pub assertions : List Declaration → List Assertion
assertions [] = []
assertions (sort_decl _ ∷ ds) = assertions ds
assertions (term_decl _ ∷ ds) = assertions ds
assertions (assertion_decl a ∷ ds) = a ∷ assertions ds
