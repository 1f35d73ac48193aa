-- What derivations rest on. A derivation from axioms alone has no gap, so that it rests on nothing else
-- (mm0.md, section on theorems: what is proved follows from the axioms).
use Rattle.std.specs.Prelude.{ℕ, ◌≡◌, true, false, List, ◌∷◌, ◌++◌, slice_get, length, Some}
use Rattle.mz_logic_theory.specs.Declaration.{Assertion, Declaration, assertion_decl, assertions}
use Rattle.mz_logic_theory.specs.Derivations.{Derivation, CitesOnly, without_gaps}
use Rattle.mz_logic_theory.specs.LegalLists.{Statement, declarations, IsProvedBy}

-- without a gap, and by citations of assertions with P alone
abbrev pub by_citing : (ℕ → Type 0) → List Declaration → Derivation → Type 0
by_citing P env d = CitesOnly (without_gaps P) d

-- the T-th assertion is an axiom
abbrev pub IsAxiomIn : List Declaration → ℕ → Type 0
IsAxiomIn env T = (a : Assertion) × (slice_get (assertions env) T ≡ Some a) × (a.is_axiom ≡ true)

abbrev pub CitesAxioms : List Declaration → Derivation → Type 0
CitesAxioms env d = CitesOnly (without_gaps (IsAxiomIn env)) d

-- the conclusion has a derivation from axioms alone over env from the hypotheses, with finitely many dummies
abbrev pub IsClosed : List Declaration → Assertion → Type 0
IsClosed env a = IsProvedBy CitesAxioms env a

-- each theorem has a derivation from axioms alone over the statements before it: it rests on no axiom that is
-- declared after it
abbrev pub TheoremsClosed : List Statement → Type 0
TheoremsClosed list = (before after : List Statement) (s : Statement) (a : Assertion)
    → list ≡ before ++ s ∷ after → s.decl ≡ assertion_decl a → a.is_axiom ≡ false → IsClosed (declarations before) a

-- ---- supports

-- What assertions cite is in their supports: an axiom that the T-th cites, and the support of a theorem that it cites.
-- Assertions go by their numbers.
pub record AreSupports (env : List Declaration) (cited support : ℕ → ℕ → Type 0) : Type 0 where
  pub axioms : (T U : ℕ) (a : Assertion) → slice_get (assertions env) U ≡ Some a → a.is_axiom ≡ true → cited T U → support T U
  pub theorems : (T U A : ℕ) (a : Assertion) → slice_get (assertions env) U ≡ Some a → a.is_axiom ≡ false → cited T U → support U A → support T A

-- without a gap, and by what the assertion that follows those of env cites
abbrev pub by_number : (ℕ → ℕ → Type 0) → List Declaration → Derivation → Type 0
by_number cited env d = by_citing (cited (length (assertions env))) env d

-- and by the axioms of its support
abbrev pub on_support : (ℕ → ℕ → Type 0) → List Declaration → Derivation → Type 0
on_support support env d = by_citing (λ A. support (length (assertions env)) A × IsAxiomIn env A) env d
