-- What a stated proof means: a derivation (Carneiro, the rules of derivation), in which each let's name stands for
-- the let's first part.
use Rattle.std.specs.Prelude.{◌≡◌, ⊤, Bool, true, false, List, [], ◌∷◌, ◌++◌, Option, Some, map}
use Rattle.mz_logic_theory.specs.Tree.{Tree, Trees}
use Rattle.mz_logic_theory.specs.Declaration.{Assertion, Declaration, sort_decl, term_decl, assertion_decl, sorts}
use Rattle.mz_logic_theory.specs.Legality.{IsLegalDecl}
use Rattle.mz_logic_theory.specs.Derivations.{Derivation, Derivations, hypothesis, cite, convert, gap, no_derivs, more_derivs, Derives, derivation_at}
use Rattle.mz_logic_theory.specs.LegalLists.{Statement as Marked, MayBeLocal, AreDummies, allowed_with}
use Rattle.mz_logic_theory.specs.declared.binder.Binder.{Binder}
use Rattle.mz_mmu_theory.specs.Proof.{Proof, Proofs, by_hyp, by_name, by_citation, by_conv, by_let, by_gap, no_proofs, more_proofs}
use Rattle.mz_mmu_theory.specs.Statements.{Statement}

abbrev pub then_deriv : Derivations → Derivation → Derivations
then_deriv no_derivs d = more_derivs d no_derivs
then_deriv (more_derivs e ds) d = more_derivs e (then_deriv ds d)

-- `lets` are the derivations of the visible lets, the outermost first
abbrev mutual
  pub derivation : Derivations → Proof → Derivation
  derivation lets (by_hyp i) = hypothesis i
  derivation lets (by_name i) = derivation_at lets i
  derivation lets (by_citation T es ps) = cite T es (derivations lets ps)
  derivation lets (by_conv e c p) = convert e c (derivation lets p)
  derivation lets (by_let p q) = derivation (then_deriv lets (derivation lets p)) q
  derivation lets (by_gap e) = gap e

  pub derivations : Derivations → Proofs → Derivations
  derivations lets no_proofs = no_derivs
  derivations lets (more_proofs p ps) = more_derivs (derivation lets p) (derivations lets ps)

-- each let's first part derives something, used or not
abbrev mutual
  pub LetsDerive : List Declaration → List Binder → Trees → Derivations → Proof → Type 0
  LetsDerive env ctx hyps lets (by_hyp i) = ⊤
  LetsDerive env ctx hyps lets (by_name i) = ⊤
  LetsDerive env ctx hyps lets (by_citation T es ps) = AllLetsDerive env ctx hyps lets ps
  LetsDerive env ctx hyps lets (by_conv e c p) = LetsDerive env ctx hyps lets p
  LetsDerive env ctx hyps lets (by_let p q) = LetsDerive env ctx hyps lets p
      × ((e : Tree) × Derives env ctx hyps (derivation lets p) e)
      × LetsDerive env ctx hyps (then_deriv lets (derivation lets p)) q
  LetsDerive env ctx hyps lets (by_gap e) = ⊤

  pub AllLetsDerive : List Declaration → List Binder → Trees → Derivations → Proofs → Type 0
  AllLetsDerive env ctx hyps lets no_proofs = ⊤
  AllLetsDerive env ctx hyps lets (more_proofs p ps) = LetsDerive env ctx hyps lets p × AllLetsDerive env ctx hyps lets ps

-- the proof is one of the assertion, without gaps where none is allowed
abbrev pub IsProofOf : Bool → List Declaration → List Binder → Assertion → Proof → Type 0
IsProofOf gaps env ctx a p =
    Derives env ctx a.hyps (derivation no_derivs p) a.conclusion × LetsDerive env ctx a.hyps no_derivs p × allowed_with gaps env (derivation no_derivs p)

-- a theorem is proved by the stated proof, in the context of its parameters and the stated dummies
abbrev pub IsProvedAsStated : Bool → List Declaration → Declaration → List Binder → Option Proof → Type 0
IsProvedAsStated gaps env (sort_decl _) dummies proof = ⊤
IsProvedAsStated gaps env (term_decl _) dummies proof = ⊤
IsProvedAsStated gaps env (assertion_decl a) dummies proof = a.is_axiom ≡ false → AreDummies (sorts env) dummies
    × ((p : Proof) × (proof ≡ Some p) × IsProofOf gaps env (a.params ++ dummies) a p)

-- the statement may follow those of env: it is a legal declaration, declared local only where it may
-- be, and proved if it is a theorem
abbrev pub IsLegalAsStated : Bool → List Declaration → Statement → Type 0
IsLegalAsStated gaps env s = IsLegalDecl env s.decl × (s.is_local ≡ true → MayBeLocal s.decl) × IsProvedAsStated gaps env s.decl s.dummies s.proof

-- each statement may follow those before it
abbrev pub LegalAsStatedAfter : Bool → List Declaration → List Statement → Type 0
LegalAsStatedAfter gaps env [] = ⊤
LegalAsStatedAfter gaps env (s ∷ ss) = IsLegalAsStated gaps env s × LegalAsStatedAfter gaps (env ++ s.decl ∷ []) ss

abbrev pub LegalAsStated : Bool → List Statement → Type 0
LegalAsStated gaps ss = LegalAsStatedAfter gaps [] ss

-- the same list without its names and proofs
abbrev pub marked : List Statement → List Marked
marked ss = map (λ s. record { is_local = s.is_local; decl = s.decl }) ss
