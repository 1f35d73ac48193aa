-- A proof that a text states has no gap where none is allowed.
use Rattle.std.proofs.Common.{ℕ, zero, suc, ◌≡◌, Bool, true, false, true≢false, List, sym}
use Rattle.mz_logic_theory.specs.Conversions.{Conversion, Conversions, refl_conv, sym_conv, cong_conv, unfold_conv, gap_conv, no_convs, more_convs, GapsOnly, AllGapsOnly}
use Rattle.mz_logic_theory.specs.Declaration.{Declaration}
use Rattle.mz_logic_theory.specs.Derivations.{Derivation, Derivations, no_derivs, more_derivs, AllCiteOnly, without_gaps, IsGapFree, derivation_at}
use Rattle.mz_logic_theory.specs.LegalLists.{allowed_with}
use Rattle.mz_mmu_theory.specs.Gaps.{LeavesOnly, AllLeaveOnly}
use Rattle.mz_mmu_theory.specs.Proof.{Proof, Proofs, by_hyp, by_name, by_citation, by_conv, by_let, by_gap, no_proofs, more_proofs}
use Rattle.mz_mmu_theory.specs.Meaning.{then_deriv, derivation, derivations}

abbrev AllFree : Derivations → Type 0
AllFree ds = AllCiteOnly (without_gaps (λ T. Unit {0})) ds

free_at : (ds : Derivations) (i : ℕ) → AllFree ds → IsGapFree (derivation_at ds i)
free_at no_derivs i h = tt
free_at (more_derivs d ds) zero h = h.0
free_at (more_derivs d ds) (suc i) h = free_at ds i h.1

then_free : (ds : Derivations) (d : Derivation) → AllFree ds → IsGapFree d → AllFree (then_deriv ds d)
then_free no_derivs d h k = (k, tt)
then_free (more_derivs e ds) d h k = (h.0, then_free ds d h.1 k)

-- where G doesn't hold
module _ (G : Type 0) (not : G → ⊥) where
  mutual
    conv_free : (c : Conversion) → GapsOnly G c → GapsOnly ⊥ c
    conv_free (refl_conv e) h = tt
    conv_free (sym_conv c) h = conv_free c h
    conv_free (cong_conv t cs) h = convs_free cs h
    conv_free (unfold_conv t es ys c) h = conv_free c h
    conv_free (gap_conv l r) h = not h

    convs_free : (cs : Conversions) → AllGapsOnly G cs → AllGapsOnly ⊥ cs
    convs_free no_convs h = tt
    convs_free (more_convs c cs) h = (conv_free c h.0, convs_free cs h.1)

  mutual
    proof_free : (p : Proof) (ds : Derivations) → AllFree ds → LeavesOnly G p → IsGapFree (derivation ds p)
    proof_free (by_hyp i) ds h leaves = tt
    proof_free (by_name i) ds h leaves = free_at ds i h
    proof_free (by_citation T es ps) ds h leaves = (tt, proofs_free ps ds h leaves)
    proof_free (by_conv e c p) ds h leaves = (conv_free c leaves.0, proof_free p ds h leaves.1)
    proof_free (by_let p q) ds h leaves = proof_free q (then_deriv ds (derivation ds p)) (then_free ds (derivation ds p) h (proof_free p ds h leaves.0)) leaves.1
    proof_free (by_gap e) ds h leaves = not leaves

    proofs_free : (ps : Proofs) (ds : Derivations) → AllFree ds → AllLeaveOnly G ps → AllFree (derivations ds ps)
    proofs_free no_proofs ds h leaves = tt
    proofs_free (more_proofs p ps) ds h leaves = (proof_free p ds h leaves.0, proofs_free ps ds h leaves.1)

-- what it means is allowed
pub allowed : (gaps : Bool) (env : List Declaration) (p : Proof) → LeavesOnly (gaps ≡ true) p → allowed_with gaps env (derivation no_derivs p)
allowed true env p leaves = tt
allowed false env p leaves = proof_free (false ≡ true) (λ is. true≢false (sym is)) p no_derivs tt leaves
