-- What the machine reads of the tables, and what it keeps (the .mmb format, its tables and the proof machine).
use Rattle.std.specs.Prelude.{◌≡◌, ℕ, ⊤, List, [], ◌∷◌, map}
use Rattle.mz_logic_theory.specs.Signature.{Signature}
use Rattle.mz_logic_theory.specs.Declaration.{Declaration, sorts, terms, signatures, assertions}
use Rattle.mz_logic_theory.specs.declared.binder.Binder.{Binder}
use Rattle.mz_logic_theory.specs.declared.binder.ResultType.{ResultType}
use Rattle.mz_logic_theory.specs.declared.binder.SortMods.{SortMods}
use Rattle.mz_machine_theory.specs.Profile.{Item}
use Rattle.mz_machine_theory.specs.Spells.{SpelledTerm, SpelledThm, SpellsTerm, SpellsThm}

-- the rows before a statement
pub record RowsBefore : Type 0 where
  pub sorts : List SortMods
  pub terms : List SpelledTerm
  pub thms : List SpelledThm

abbrev pub signatures_in : RowsBefore → List Signature
signatures_in tables = map (λ r. r.signature) tables.terms

-- the machine between two commands: the variables so far, the heap, the stack with its top first, and
-- the hypotheses in order
pub record State (T : Type 0) : Type 0 where
  pub ctx : List Binder
  pub heap : List (Item T)
  pub stack : List (Item T)
  pub hyps : List T

pub data Kind : Type 0 where
  is_axiom : Kind
  is_theorem : Kind
  is_definition : Kind

-- the statement whose body runs: its kind, its row's parameters, result (of a definition) and stream
pub record Heading : Type 0 where
  pub kind : Kind
  pub params : List Binder
  pub result : ResultType
  pub stream : List ℕ

-- the i-th of one list and the i-th of the other, of which there are as many
abbrev pub Pairwise : {A B : Type 0} → (A → B → Type 0) → List A → List B → Type 0
Pairwise R [] [] = ⊤
Pairwise R [] (y ∷ ys) = ⊥
Pairwise R (x ∷ xs) [] = ⊥
Pairwise R (x ∷ xs) (y ∷ ys) = R x y × Pairwise R xs ys

-- the rows are those of the environment: each spells the declaration of its number
pub record Declares (tables : RowsBefore) (env : List Declaration) : Type 0 where
  pub sorts_are : tables.sorts ≡ sorts env
  pub terms_are : Pairwise (SpellsTerm (signatures env)) tables.terms (terms env)
  pub thms_are : Pairwise (SpellsThm (signatures env)) tables.thms (assertions env)
