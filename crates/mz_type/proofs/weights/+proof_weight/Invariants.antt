use Rattle.std.proofs.Common.{◌≡◌, ◌≤◌, ◌+◌, ◌*◌, drop}
use Rattle.mz_mmu_theory.specs.ProofCode.{proof_steps, proofs_steps}
use Rattle.mz_mmu_theory.specs.ProofView.{proof_view, proofs_view}
use Rattle.mz_mmu_theory.specs.Weight as weight
use Rattle.mz_type.proofs.weights.+proof_weight.Given as goal

abbrev pub decreases-proof_weight : goal.decreases-proof_weight
decreases-proof_weight l = 2 * proof_steps (proof_view l.proof.now)

abbrev pub decreases-proofs_weight : goal.decreases-proofs_weight
decreases-proofs_weight l = 2 * proofs_steps l.proofs.now + 1

abbrev pub invariant-proofs_weight-loop-proof : goal.invariant-proofs_weight-loop-proof
invariant-proofs_weight-loop-proof l = record {
  counts : l.total + weight.proofs_weight l.env (proofs_view (drop l.proof-index l.proof-items)) ≡ weight.proofs_weight l.env l.proofs;
  small : proofs_steps (proofs_view (drop l.proof-index l.proof-items)) ≤ proofs_steps l.proofs;
}
