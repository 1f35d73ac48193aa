-- What a unify stream spells: expressions in preorder, with references back to what was marked (the .mmb format, its
-- unify streams). Nothing here speaks of a machine.
use Rattle.std.specs.Prelude.{◌≡◌, ℕ, suc, ◌+◌, ⊤, ◌⊎◌, true, List, [], ◌∷◌, ◌++◌, length, reverse, Option, Some, None, slice_get}
use Rattle.mz_logic_theory.specs.Tree.{Tree, Trees, var, app, none, more, listed}
use Rattle.mz_logic_theory.specs.Signature.{Signature}
use Rattle.mz_logic_theory.specs.Declaration.{Form, plain_form, abstract_form, defined, Term, Assertion}
use Rattle.mz_logic_theory.specs.declared.binder.Binder.{Binder}
use Rattle.mz_machine_theory.specs.Streams.{StreamKind, of_assertion, of_definition, UnifyCommand, u_term, u_term_save, u_ref, u_dummy, u_hyp, StreamIs}

-- a list of expressions as operands
abbrev pub trees_of : List Tree → Trees
trees_of [] = none
trees_of (e ∷ es) = more e (trees_of es)

-- a dummy of a sort: a bound variable without dependencies
abbrev pub dummy_of : ℕ → Binder
dummy_of s = record { sort = s; bound = true; deps = [] }

-- the marks that may be referred to, and the dummies met so far
pub record Marks : Type 0 where
  pub trees : List Tree
  pub dummies : List Binder

abbrev pub marked : Marks → Tree → Marks
marked m e = record m { trees = m.trees ++ e ∷ [] }

-- the next dummy is the variable x of the sort s
abbrev pub with_dummy : Marks → ℕ → ℕ → Marks
with_dummy m x s = record { trees = m.trees ++ var x ∷ []; dummies = m.dummies ++ dummy_of s ∷ [] }

-- term t is there, and there are as many expressions as it has parameters
abbrev pub HasOperands : List Signature → ℕ → Trees → Type 0
HasOperands sigs t es = (d : Signature) × (slice_get sigs t ≡ Some d) × (length (listed es) ≡ length d.params)

-- Over n parameters and under the marks m, the commands us begin with a spelling of the expression; us'
-- come after it, under the marks m'. A saved application is marked before its operands.
abbrev mutual
  pub Spells : ℕ → List Signature → Marks → List UnifyCommand → Tree → Marks → List UnifyCommand → Type 0
  Spells n sigs m us (var x) m' us' =
      ((i : ℕ) × (us ≡ u_ref i ∷ us') × (slice_get m.trees i ≡ Some (var x)) × (m' ≡ m))
      ⊎ ((s : ℕ) × (us ≡ u_dummy s ∷ us') × (x ≡ n + length m.dummies) × (m' ≡ with_dummy m x s))
  Spells n sigs m us (app t es) m' us' =
      ((i : ℕ) × (us ≡ u_ref i ∷ us') × (slice_get m.trees i ≡ Some (app t es)) × (m' ≡ m))
      ⊎ (((rest : List UnifyCommand) × (us ≡ u_term t ∷ rest) × HasOperands sigs t es × SpellsAll n sigs m rest es m' us')
      ⊎ ((rest : List UnifyCommand) × (us ≡ u_term_save t ∷ rest) × HasOperands sigs t es × SpellsAll n sigs (marked m (app t es)) rest es m' us'))

  -- one after another
  pub SpellsAll : ℕ → List Signature → Marks → List UnifyCommand → Trees → Marks → List UnifyCommand → Type 0
  SpellsAll n sigs m us none m' us' = (m' ≡ m) × (us' ≡ us)
  SpellsAll n sigs m us (more e es) m' us' =
      (mid : Marks) × (rest : List UnifyCommand) × Spells n sigs m us e mid rest × SpellsAll n sigs mid rest es m' us'

-- each of these hypotheses behind its own command, up to the end of the commands
abbrev pub SpellsHyps : ℕ → List Signature → Marks → List UnifyCommand → List Tree → Marks → Type 0
SpellsHyps n sigs m us [] m' = (us ≡ []) × (m' ≡ m)
SpellsHyps n sigs m us (h ∷ hs) m' =
    (rest : List UnifyCommand) × (mid : Marks) × (us' : List UnifyCommand)
    × (us ≡ u_hyp ∷ rest) × Spells n sigs m rest h mid us' × SpellsHyps n sigs mid us' hs m'

abbrev pub variables_from : ℕ → List Binder → List Tree
variables_from i [] = []
variables_from i (b ∷ bs) = var i ∷ variables_from (suc i) bs

-- at first the parameters are marked
abbrev pub at_first : List Binder → Marks
at_first params = record { trees = variables_from 0 params; dummies = [] }

-- The stream spells the conclusion, then the hypotheses from the last to the first, and these are the
-- marks in the end: the parameters, then the saved applications and the dummies, in order.
abbrev pub SpellsText : StreamKind → List Signature → List Binder → List ℕ → Trees → Tree → Marks → Type 0
SpellsText kind sigs params stream hyps conclusion last =
    (us : List UnifyCommand) × StreamIs kind stream us
    × (mid : Marks) × (rest : List UnifyCommand) × Spells (length params) sigs (at_first params) us conclusion mid rest
    × SpellsHyps (length params) sigs mid rest (reverse (listed hyps)) last

-- and meets these dummies
abbrev pub Text : StreamKind → List Signature → List Binder → List ℕ → Trees → Tree → List Binder → Type 0
Text kind sigs params stream hyps conclusion dummies =
    (last : Marks) × SpellsText kind sigs params stream hyps conclusion last × (last.dummies ≡ dummies)

-- ---- rows of the tables

-- a term's signature, and for a definition the bytes from its stream on
pub record SpelledTerm : Type 0 where
  pub signature : Signature
  pub stream : Option (List ℕ)

-- an assertion's parameters, and the bytes from its stream on
pub record SpelledThm : Type 0 where
  pub params : List Binder
  pub stream : List ℕ

-- the row spells the assertion: over the parameters alone, without dummies
abbrev pub SpellsThm : List Signature → SpelledThm → Assertion → Type 0
SpellsThm sigs row a = (row.params ≡ a.params) × Text of_assertion sigs row.params row.stream a.hyps a.conclusion []

-- a row without a stream is a plain term's; a definition's stream spells its body, and its dummies in order
abbrev pub SpellsForm : List Signature → List Binder → Option (List ℕ) → Form → Type 0
SpellsForm sigs params None plain_form = ⊤
SpellsForm sigs params None abstract_form = ⊥
SpellsForm sigs params None (defined dummies body) = ⊥
SpellsForm sigs params (Some stream) plain_form = ⊥
SpellsForm sigs params (Some stream) abstract_form = ⊥
SpellsForm sigs params (Some stream) (defined dummies body) = Text of_definition sigs params stream none body dummies

abbrev pub SpellsTerm : List Signature → SpelledTerm → Term → Type 0
SpellsTerm sigs row d = (row.signature ≡ d.signature) × SpellsForm sigs row.signature.params row.stream d.form
