-- Proofs, one after another.
use Rattle.std.proofs.Common.{◌≡◌, List, [], ◌∷◌, ◌++◌, ap, refl}
use Rattle.mz_mmu_theory.specs.Proof.{Proofs, no_proofs, more_proofs}
use Rattle.mz_mmu_theory.specs.ProofView.{proof_view, proofs_view}
use Rattle.mz_mmu_forms.specs.ProofSteps.{proofs_then}
use Rattle.mz_mmu_theory.specs.declared.proof.Proof.{Proof}

pub proofs_then_none : (ps : List Proof) → proofs_then ps no_proofs ≡ proofs_view ps
proofs_then_none [] = refl
proofs_then_none (p ∷ ps) = ap (more_proofs (proof_view p)) (proofs_then_none ps)

pub proofs_then_push : (ps : List Proof) (p : Proof) (qs : Proofs) → proofs_then (ps ++ p ∷ []) qs ≡ proofs_then ps (more_proofs (proof_view p) qs)
proofs_then_push [] p qs = refl
proofs_then_push (o ∷ ps) p qs = ap (more_proofs (proof_view o)) (proofs_then_push ps p qs)
