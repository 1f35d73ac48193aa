-- What the theorems of a specification rest on, where a binary proves them (mm0.md, section on theorems: a theorem follows
-- from the axioms before it; that a tool says which is this project's own).
use Rattle.std.specs.Prelude.{◌≡◌, ◌<◌, ◌^◌, ℕ, false, List, [], map, length, All, Contains, slice_get, Option, Some, None}
use Rattle.std.specs.List.Sorted.{IsStrictlyIncreasing}
use Rattle.mz_logic_theory.specs.Declaration.{Declaration}
use Rattle.mz_logic_theory.specs.LegalLists.{Statement, declarations, IsProvedBy}
use Rattle.mz_match_theory.specs.Verdict.{Accepts}
use Rattle.mz_binary_theory.specs.Gapped.{bodies_of}
use Rattle.mz_axioms.specs.Supports.{InSupport, within_support}
use Rattle.mz_axioms.specs.Places.{StandsFor, theorems_of}

-- a theorem and axioms, by the numbers of their declarations, from 0
pub record TheoremSupport : Type 0 where
  pub theorem : ℕ
  pub axioms : List ℕ

-- The axioms are those of the theorem's support: each axiom in the support stands for one of them, and each of them for one
-- in the support. They stand in declared order. And the theorem has a derivation from axioms alone over the statements before it that
-- cites no axiom outside its support.
pub record IsSupportOf (bin : List ℕ) (ds : List Declaration) (ss : List Statement) (support : TheoremSupport) : Type 0 where
  pub row : ℕ
  pub theorem : StandsFor ds ss support.theorem row
  pub is_theorem : theorem.assertion.is_axiom ≡ false
  pub all : (A : ℕ) → InSupport (bodies_of bin ss) row A → (a : ℕ) × StandsFor ds ss a A × Contains support.axioms a
  pub only : (a : ℕ) → Contains support.axioms a → (A : ℕ) × StandsFor ds ss a A × InSupport (bodies_of bin ss) row A
  pub in_order : IsStrictlyIncreasing support.axioms
  pub proved : IsProvedBy (within_support (bodies_of bin ss) row) (declarations theorem.before) theorem.assertion

-- the pair is accepted, and these are the supports of the specification's theorems, in their order
pub record AreSupports (spec bin : List ℕ) (supports : List TheoremSupport) : Type 0 where
  pub accepts : Accepts spec bin
  pub theorems : map (λ s. s.theorem) supports ≡ theorems_of accepts.declared
  pub each : All (IsSupportOf bin accepts.declared accepts.statements) supports

-- the axioms of the i-th
abbrev pub axioms_in : Option TheoremSupport → List ℕ
axioms_in None = []
axioms_in (Some s) = s.axioms

abbrev pub axioms_at : List TheoremSupport → ℕ → List ℕ
axioms_at supports i = axioms_in (slice_get supports i)

-- numbers fit into 32 bits
pub record AreSmall (supports : List TheoremSupport) : Type 0 where
  pub theorems : length supports < 2 ^ 32
  pub axioms : All (λ s. length s.axioms < 2 ^ 32) supports
