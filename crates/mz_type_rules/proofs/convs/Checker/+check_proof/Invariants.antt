use Rattle.std.proofs.Common.{◌≡◌, ◌≤◌, ◌+◌, ◌*◌, drop, length}
use Rattle.mz_base.proofs.Offered.{Decides}
use Rattle.mz_logic_theory.specs.Declaration.{signatures, assertions}
use Rattle.mz_logic_theory.specs.Tree.{listed, followed_by}
use Rattle.mz_mmu_theory.specs.ProofCode.{proof_steps, proofs_steps}
use Rattle.mz_mmu_theory.specs.ProofView.{proof_view, proofs_view}
use Rattle.mz_type_rules.specs.Claims.{claim_trees}
use Rattle.mz_sexpr.specs.Node.{parts}
use Rattle.mz_sexpr.specs.Number.{first}
use Rattle.mz_mmu_theory.specs.Names.{ProofsThere}
use Rattle.mz_mmu_theory.specs.Parts.{after}
use Rattle.mz_mmu_theory.specs.Rules.{proofs_rules}
use Rattle.mz_mmu_theory.specs.Sides.{all_proved}
use Rattle.mz_type_rules.proofs.Building.{Builds}
use Rattle.mz_type_rules.proofs.convs.Checker.+check_proof.Given as goal

abbrev pub decreases-check_proof : goal.decreases-check_proof
decreases-check_proof l = 3 * proof_steps (proof_view l.proof.now)

abbrev pub decreases-check_citation : goal.decreases-check_citation
decreases-check_citation l = 3 * proofs_steps l.proofs.now + 1

abbrev pub decreases-check_conversion : goal.decreases-check_conversion
decreases-check_conversion l = 3 * proof_steps (proof_view l.proof.now) + 1

abbrev pub decreases-check_let : goal.decreases-check_let
decreases-check_let l = 3 * (proof_steps (proof_view l.stated.now) + proof_steps (proof_view l.proof.now)) + 1

abbrev pub invariant-check_citation-loop-proof : goal.invariant-check_citation-loop-proof
invariant-check_citation-loop-proof l = record {
  decides : Decides (proofs_rules l.self.env.now l.self.ctx.now l.self.hyps.now l.fn.lets.lets (proofs_view (drop l.proof-index l.proof-items)) l.left)
      (proofs_rules l.self.env.now l.self.ctx.now l.self.hyps.now l.fn.lets.lets l.proofs (after 2 (parts (first l.nodes))));
  builds : Builds (claim_trees l.claims.items) (all_proved l.self.env.now l.self.hyps.now l.fn.lets.lets (proofs_view (drop l.proof-index l.proof-items)))
      (followed_by (claim_trees l.fn.claims.items) (all_proved l.self.env.now l.self.hyps.now l.fn.lets.lets l.proofs));
  there : ProofsThere (length (signatures l.self.env.now)) (length l.self.ctx.now) (length (assertions l.self.env.now)) (length (listed l.self.hyps.now)) (length (listed l.lets.lets))
      (proofs_view (drop l.proof-index l.proof-items));
  same : l.lets ≡ l.fn.lets;
  over : (l.lets.env ≡ l.self.env.now) × (l.lets.hyps ≡ l.self.hyps.now);
  small : proofs_steps (proofs_view (drop l.proof-index l.proof-items)) ≤ proofs_steps l.proofs;
}
