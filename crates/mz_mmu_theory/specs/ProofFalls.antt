-- A proof has more steps than each proof in it.
use Rattle.std.specs.Prelude.{◌≤◌, max, List, [], ◌∷◌}
use Rattle.std.proofs.Common.{arith}
use Rattle.mz_mmu_theory.specs.ProofCode.{proof_steps, proofs_steps}
use Rattle.mz_mmu_theory.specs.ProofView.{proof_view, proofs_view}
use Rattle.mz_mmu_theory.specs.declared.proof.Proof.{Proof}
use Rattle.mz_mmu_theory.specs.declared.proof.Proof.TheVariants.{Hyp, Name, Cite, Conv, Let, Gap}
use Rattle.mz_mmu_theory.specs.declared.proof.ProofBox.TheDeep.{deep-Proof}
use denote.Param.Weighed.{most}

pub deep_le_steps : (p : Proof) → deep-Proof p ≤ proof_steps (proof_view p)
deep_le_steps (Hyp i) = omega arith
deep_le_steps (Name i) = omega arith
deep_le_steps (Cite T es ps) = omega arith
deep_le_steps (Conv e c p) = omega arith
deep_le_steps (Let p q) = omega arith
deep_le_steps (Gap e) = omega arith

pub most_le_steps : (ps : List Proof) → max (most deep-Proof ps) 0 ≤ proofs_steps (proofs_view ps)
most_le_steps [] = omega arith
most_le_steps (p ∷ ps) = omega (arith, deep_le_steps p, most_le_steps ps)

pub box_le_steps : (p : Proof) → max (deep-Proof p) 0 ≤ proof_steps (proof_view p)
box_le_steps p = omega (arith, deep_le_steps p)
