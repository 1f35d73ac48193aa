-- What a theorem rests on: the axioms that its proof cites, and what the theorems rest on that it cites (mm0.md, section
-- on theorems: a theorem follows from the axioms; the proofs are the bodies of the .mmb format).
use Rattle.std.specs.Prelude.{◌≡◌, ◌<◌, ℕ, Bool, true, false, List, slice_get, Some}
use Rattle.mz_logic_theory.specs.Declaration.{Declaration}
use Rattle.mz_logic_theory.specs.Derivations.{Derivation, CitesOnly, without_gaps}
use Rattle.mz_logic_theory.specs.Closed.{IsAxiomIn}
use Rattle.mz_binary_theory.specs.Gapped.{AssertionBody}
use Rattle.mz_axioms.specs.Commands.{IsCitedIn}

-- ---- supports

-- the T-th body cites the U-th axiom or theorem, which stands before it
pub record Cites (bodies : List AssertionBody) (T U : ℕ) : Type 0 where
  pub body : AssertionBody
  pub there : slice_get bodies T ≡ Some body
  pub cited : IsCitedIn body.bytes U
  pub earlier : U < T

-- the U-th is an axiom, or a theorem
pub record IsKind (bodies : List AssertionBody) (kind : Bool) (U : ℕ) : Type 0 where
  pub body : AssertionBody
  pub there : slice_get bodies U ≡ Some body
  pub is : body.is_axiom ≡ kind

-- axiom A is in the support of the T-th: its body cites A, or a theorem in whose support A is
pub data InSupport (bodies : List AssertionBody) : ℕ → ℕ → Type 0 where
  by_axiom : (T A : ℕ) → Cites bodies T A → IsKind bodies true A → InSupport bodies T A
  by_theorem : (T U A : ℕ) → Cites bodies T U → IsKind bodies false U → InSupport bodies U A → InSupport bodies T A

-- the derivation, over env, cites only axioms of the support of the T-th, and has no gap
abbrev pub within_support : List AssertionBody → ℕ → List Declaration → Derivation → Type 0
within_support bodies T env d = CitesOnly (without_gaps (λ A. InSupport bodies T A × IsAxiomIn env A)) d
