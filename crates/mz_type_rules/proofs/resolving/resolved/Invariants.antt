use Rattle.std.proofs.Common.{◌≡◌, List, length}
use Rattle.mz_logic_theory.specs.Declaration.{Declaration}
use Rattle.mz_logic_theory.specs.Tree.{Trees, listed}
use Rattle.mz_mmu_theory.specs.ProofView.{proof_view}
use Rattle.mz_mmu_theory.specs.Sides.{proved}
use Rattle.mz_type_rules.specs.BehindLets.{proved_behind, steps_behind}
use Rattle.mz_type_rules.proofs.resolving.resolved.Given as goal

-- what is looked at proves the same behind the first parts
abbrev pub invariant-lets : goal.invariant-lets
invariant-lets l = record {
  same : (env : List Declaration) (hyps lets : Trees) → length (listed lets) ≡ l.visible
      → proved_behind env hyps lets l.firsts.items (proof_view l.left) ≡ proved env hyps lets (proof_view l.proof);
}

abbrev pub decreases-lets : goal.decreases-lets
decreases-lets l = steps_behind l.firsts.items (proof_view l.left)
