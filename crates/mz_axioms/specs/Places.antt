-- The axioms and theorems of a list of statements beside the declarations of a specification (mm0.md: a specification
-- declares what a proof file is to prove, and the file's public statements follow it in order; local ones stand for nothing).
use Rattle.std.specs.Prelude.{◌≡◌, ◌+◌, ℕ, Bool, true, false, not, ◌&&◌, if◌then◌else◌, List, [], ◌∷◌, ◌++◌, length, slice_get, Option, Some, None}
use Rattle.mz_base.specs.Checks.{AllHold}
use Rattle.mz_cmd.specs.declared.code.StatementCode.{StatementCode}
use Rattle.mz_cmd.specs.declared.code.StatementCode.TheVariants as codes
use Rattle.mz_logic_theory.specs.Declaration.{Declaration, sort_decl, term_decl, assertion_decl, Assertion, assertions}
use Rattle.mz_logic_theory.specs.LegalLists.{Statement, declarations}
use Rattle.mz_spec_proved_theory.specs.Match.{publics, partner_of, match_checks}
use Rattle.mz_binary_walk.specs.Walk.{past_public}
use Rattle.mz_axioms.specs.declared.rows.Place.{Place}

-- The T-th axiom or theorem of the statements stands for the k-th of the declarations: it is public, k public statements
-- stand before it, and the two agree.
pub record StandsFor (ds : List Declaration) (ss : List Statement) (k T : ℕ) : Type 0 where
  pub before : List Statement
  pub statement : Statement
  pub after : List Statement
  pub assertion : Assertion
  pub declared : Declaration
  pub all : ss ≡ before ++ statement ∷ after
  pub says : statement.decl ≡ assertion_decl assertion
  pub is_public : statement.is_local ≡ false
  pub row : T ≡ length (assertions (declarations before))
  pub number : k ≡ length (publics before)
  pub there : slice_get ds k ≡ Some declared
  pub agrees : AllHold (match_checks declared (partner_of before statement))

-- ---- the theorems of a specification

abbrev pub theorem_number : ℕ → Declaration → List ℕ
theorem_number k (sort_decl _) = []
theorem_number k (term_decl _) = []
theorem_number k (assertion_decl a) = if a.is_axiom then [] else k ∷ []

abbrev pub theorems_from : ℕ → List Declaration → List ℕ
theorems_from k [] = []
theorems_from k (d ∷ ds) = theorem_number k d ++ theorems_from (k + 1) ds

-- the numbers of the declarations that are theorems, in order, from 0
abbrev pub theorems_of : List Declaration → List ℕ
theorems_of ds = theorems_from 0 ds

-- ---- places

-- of what a statement declares, where k public statements stand before it
abbrev pub place_there : ℕ → Bool → Declaration → List Place
place_there k local (sort_decl _) = []
place_there k local (term_decl _) = []
place_there k local (assertion_decl a) = record { number = k; is_axiom = a.is_axiom; is_local = local } ∷ []

-- of each axiom and theorem of the list, where k public statements stand before the list
abbrev pub places_from : ℕ → List Statement → List Place
places_from k [] = []
places_from k (s ∷ ss) = place_there k s.is_local s.decl ++ places_from (past_public k s.is_local) ss

abbrev pub publics_past : ℕ → List Statement → ℕ
publics_past k [] = k
publics_past k (s ∷ ss) = publics_past (past_public k s.is_local) ss

-- by the statement's code
abbrev pub place_by : ℕ → StatementCode → Option Place
place_by k codes.Axiom = Some (record { number = k; is_axiom = true; is_local = false })
place_by k codes.Theorem = Some (record { number = k; is_axiom = false; is_local = false })
place_by k codes.LocalTheorem = Some (record { number = k; is_axiom = false; is_local = true })
place_by k c = None

-- a theorem that a specification may declare
abbrev pub is_listed : Place → Bool
is_listed p = not p.is_axiom && not p.is_local
