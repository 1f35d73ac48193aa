-- Derivations (Carneiro, the rules of derivation).
use Rattle.std.specs.Prelude.{ℕ, zero, suc, ◌≡◌, ⊤, List, slice_get, Some}
use Rattle.mz_logic_theory.specs.Tree.{Tree, Trees, none, more, listed, instance, instances}
use Rattle.mz_logic_theory.specs.Declaration.{Assertion, Declaration, signatures, assertions}
use Rattle.mz_logic_theory.specs.Sorts.{Fits, HasProvable}
use Rattle.mz_logic_theory.specs.Variables.{AreDisjoint}
use Rattle.mz_logic_theory.specs.Conversions.{Conversion, Between, GapsOnly}
use Rattle.mz_logic_theory.specs.declared.binder.Binder.{Binder}

-- a hypothesis, by its number; an axiom or theorem, by its number, with operands for its parameters
-- and derivations of its hypotheses; a conversion of what is derived, whose left side is the tree; and a gap
mutual
  pub data Derivation : Type 0 where
    hypothesis : ℕ → Derivation
    cite : ℕ → Trees → Derivations → Derivation
    convert : Tree → Conversion → Derivation → Derivation
    gap : Tree → Derivation

  pub data Derivations : Type 0 where
    no_derivs : Derivations
    more_derivs : Derivation → Derivations → Derivations

-- the i-th of a list; past the end, where no rule looks, a hypothesis
abbrev pub derivation_at : Derivations → ℕ → Derivation
derivation_at no_derivs i = hypothesis 0
derivation_at (more_derivs d ds) zero = d
derivation_at (more_derivs d ds) (suc i) = derivation_at ds i

-- d derives e from the hypotheses: it is one of them; or it is the instance of a cited conclusion,
-- under operands that fit and are disjoint, and the instances of the cited hypotheses are derived; or it
-- converts to what is derived; or it is a gap, of a provable sort
abbrev mutual
  pub Derives : List Declaration → List Binder → Trees → Derivation → Tree → Type 0
  Derives env ctx hyps (hypothesis i) e = slice_get (listed hyps) i ≡ Some e
  Derives env ctx hyps (cite T es ds) e = (a : Assertion) × (slice_get (assertions env) T ≡ Some a) × (e ≡ instance es a.conclusion)
      × Fits (signatures env) ctx es a.params × AreDisjoint ctx es a.params × AllDerive env ctx hyps ds (instances es a.hyps)
  Derives env ctx hyps (convert f c d) e = (e ≡ f) × ((g : Tree) × Between env ctx c f g × Derives env ctx hyps d g)
  Derives env ctx hyps (gap f) e = (e ≡ f) × HasProvable env ctx e

  pub AllDerive : List Declaration → List Binder → Trees → Derivations → Trees → Type 0
  AllDerive env ctx hyps no_derivs none = ⊤
  AllDerive env ctx hyps no_derivs (more e es) = ⊥
  AllDerive env ctx hyps (more_derivs d ds) none = ⊥
  AllDerive env ctx hyps (more_derivs d ds) (more e es) = Derives env ctx hyps d e × AllDerive env ctx hyps ds es

-- what a derivation may use: the assertions that it may cite, and whether gaps may stand in it
pub record Uses : Type 1 where
  pub cites : ℕ → Type 0
  pub gaps : Type 0

-- every citation's number may be cited, and a gap stands in the derivation only where gaps may
abbrev mutual
  pub CitesOnly : Uses → Derivation → Type 0
  CitesOnly P (hypothesis i) = ⊤
  CitesOnly P (cite T es ds) = P.cites T × AllCiteOnly P ds
  CitesOnly P (convert e c d) = GapsOnly P.gaps c × CitesOnly P d
  CitesOnly P (gap e) = P.gaps

  pub AllCiteOnly : Uses → Derivations → Type 0
  AllCiteOnly P no_derivs = ⊤
  AllCiteOnly P (more_derivs d ds) = CitesOnly P d × AllCiteOnly P ds

-- citations of the assertions with P, and no gap
abbrev pub without_gaps : (ℕ → Type 0) → Uses
without_gaps P = record { cites = P; gaps = ⊥ }

-- no gap stands in the derivation
abbrev pub IsGapFree : Derivation → Type 0
IsGapFree d = CitesOnly (without_gaps (λ T. ⊤)) d
