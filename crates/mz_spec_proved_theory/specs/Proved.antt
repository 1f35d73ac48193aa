-- What follows for each theorem of a specification that is proved, and what a binary's statements prove of it (mm0.md, section
-- on theorems; Carneiro: theorems that are cited can be replaced by their proofs).
use Rattle.std.specs.Prelude.{◌≡◌, ℕ, suc, true, false, List, [], ◌∷◌, ◌++◌, take, slice_get, Some}
use Rattle.mz_logic_theory.specs.Closed.{IsClosed}
use Rattle.mz_logic_theory.specs.Declaration.{Declaration, Assertion, assertion_decl}
use Rattle.mz_logic_theory.specs.LegalLists.{Statement, Legal, DraftLegal, declarations}
use Rattle.mz_spec_proved_theory.specs.Declares.{IsDeclarationOf}
use Rattle.mz_spec_proved_theory.specs.Match.{publics, Agrees, term_rows}

-- each axiom among the statements is public, and is one of these declarations
abbrev pub AxiomsAreDeclared : List Declaration → List Statement → Type 0
AxiomsAreDeclared ds ss = (front back : List Statement) (s : Statement) (b : Assertion)
    → ss ≡ front ++ s ∷ back → s.decl ≡ assertion_decl b → b.is_axiom ≡ true
    → (s.is_local ≡ false) × ((k : ℕ) × (d : Declaration) × (slice_get ds k ≡ Some d) × IsDeclarationOf (term_rows 0 front) d s.decl)

-- a public axiom or theorem, as a statement
abbrev pub stated : Assertion → Statement
stated a = record { is_local = false; decl = assertion_decl a }

-- A theorem, the i-th of the declarations, follows from the axioms that are declared before it: it is stated among the
-- statements, with its parameters, hypotheses and conclusion; all axioms before it there are axioms that are declared before
-- it; and over what stands before it there is a derivation of the conclusion from the hypotheses, without gaps, that cites
-- axioms alone.
pub record Follows (ds : List Declaration) (ss : List Statement) (i : ℕ) (theorem : Assertion) : Type 0 where
  pub before : List Statement
  pub proved : Assertion
  pub after : List Statement
  pub among : ss ≡ before ++ stated proved ∷ after
  pub same : IsDeclarationOf (term_rows 0 before) (assertion_decl theorem) (assertion_decl proved)
  pub axioms : AxiomsAreDeclared (take i ds) before
  pub closed : IsClosed (declarations before) proved

-- The statements prove a theorem, the i-th of the declarations: it follows there from the axioms that are declared before it,
-- and it ends a prefix of the statements which is a legal list by itself and agrees with the declarations up to the theorem.
pub record ProvesTheorem (ds : List Declaration) (ss : List Statement) (i : ℕ) (theorem : Assertion) : Type 0 where
  pub follows : Follows ds ss i theorem
  pub legal : Legal (follows.before ++ stated follows.proved ∷ [])
  pub agrees : Agrees (take (suc i) ds) (publics (follows.before ++ stated follows.proved ∷ []))

-- each theorem among the declarations is proved
abbrev pub TheoremsAreProved : List Declaration → List Statement → Type 0
TheoremsAreProved ds ss = (i : ℕ) (a : Assertion) → slice_get ds i ≡ Some (assertion_decl a) → a.is_axiom ≡ false → ProvesTheorem ds ss i a

-- The same of a list whose proofs may have gaps: the theorem follows without any, and it ends a prefix of the statements which
-- is a legal draft by itself and agrees with the declarations up to the theorem.
pub record ProvesUngapped (ds : List Declaration) (ss : List Statement) (i : ℕ) (theorem : Assertion) : Type 0 where
  pub follows : Follows ds ss i theorem
  pub legal : DraftLegal (follows.before ++ stated follows.proved ∷ [])
  pub agrees : Agrees (take (suc i) ds) (publics (follows.before ++ stated follows.proved ∷ []))
