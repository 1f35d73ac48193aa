use Rattle.std.proofs.Common.{◌≡◌, drop}
use Rattle.mz_base.proofs.Offered.{Decides}
use Rattle.mz_logic_theory.specs.Tree.{instances}
use Rattle.mz_logic_theory.specs.View.{trees}
use Rattle.mz_logic_theory.proofs.Offered.{exprs_of}
use Rattle.mz_type_rules.specs.Claims.{claim_trees}
use Rattle.mz_mmu_theory.specs.Rules.{subproof_rules}
use Rattle.mz_type_rules.proofs.convs.Checker.check_claims.Given as goal

abbrev pub invariant-loop-i : goal.invariant-loop-i
invariant-loop-i l = record {
  decides : Decides (subproof_rules (claim_trees (drop l.i l.claims)) l.left (instances l.es (trees (drop l.i (exprs_of l.hyps))))) (subproof_rules (claim_trees l.claims) l.nodes (instances l.es l.hyps));
  same : l.lets ≡ l.fn.lets;
}
