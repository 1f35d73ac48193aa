-- Stated proofs, as a body is written for them.
use Rattle.std.specs.Prelude.{ℕ, ◌≡◌, Bool, true, List, [], length}
use Rattle.mz_logic_theory.specs.Tree.{listed}
use Rattle.mz_logic_theory.specs.Declaration.{Assertion, Declaration, signatures, assertions}
use Rattle.mz_logic_theory.specs.Legality.{IsLegalEnv}
use Rattle.mz_logic_theory.specs.Derivations.{no_derivs, Uses, CitesOnly}
use Rattle.mz_logic_theory.specs.declared.binder.Binder.{Binder}
use Rattle.mz_mmu_theory.specs.Gaps.{LeavesOnly}
use Rattle.mz_mmu_theory.specs.Proof.{Proof}
use Rattle.mz_mmu_theory.specs.Names.{ProofThere}
use Rattle.mz_mmu_theory.specs.Meaning.{derivation, IsProofOf}
use Rattle.mz_mmu_theory.specs.Weight.{proof_weight as text_weight}
use Rattle.mz_emit_theory.specs.Claims.{proved, IsSound}
use Rattle.mz_emit_theory.specs.Uses.{Use, a_gap, assertion, uses}
use Rattle.mz_emit_theory.specs.Weights.{proof_weight}

-- over a legal environment a stated proof of an assertion, whose names are there, and which has gaps only where
-- they are let through, is sound and proves the conclusion
abbrev pub StatedProofsAreSound : Type 0
StatedProofsAreSound = (gaps : Bool) (env : List Declaration) → IsLegalEnv env → (ctx : List Binder) (a : Assertion) (p : Proof) → IsProofOf gaps env ctx a p
    → LeavesOnly (gaps ≡ true) p
    → ProofThere (length (signatures env)) (length ctx) (length (assertions env)) (length (listed a.hyps)) 0 p
    → IsSound gaps env ctx (listed a.hyps) [] p × (proved env (listed a.hyps) [] p ≡ a.conclusion)

-- what may be used: these assertions, and gaps or none
abbrev pub may_use : (ℕ → Bool) → Bool → Use → Bool
may_use cites gaps a_gap = gaps
may_use cites gaps (assertion T) = cites T

abbrev pub allowing : (ℕ → Bool) → Bool → Uses
allowing cites gaps = record { cites = λ T. cites T ≡ true; gaps = gaps ≡ true }

-- A stated proof uses what its derivation does: whatever may be used, the derivation cites and has gaps only so exactly
-- where each thing may be used that the proof uses. A let that isn't named is no part of either.
abbrev pub StatedProofsUseWhatTheyMean : Type 0
StatedProofsUseWhatTheyMean = (cites : ℕ → Bool) (gaps : Bool) (p : Proof)
    → (CitesOnly (allowing cites gaps) (derivation no_derivs p) → (u : Use) → uses u [] p ≡ true → may_use cites gaps u ≡ true)
    × (((u : Use) → uses u [] p ≡ true → may_use cites gaps u ≡ true) → CitesOnly (allowing cites gaps) (derivation no_derivs p))

-- a body is bounded by the weight that a text's limits count
abbrev pub WeightsAreTheTexts : Type 0
WeightsAreTheTexts = (env : List Declaration) (p : Proof) → proof_weight env p ≡ text_weight env p
