-- Proofs behind the first parts of lets.
use Rattle.std.specs.Prelude.{ℕ, ◌+◌, List, [], ◌∷◌}
use Rattle.mz_logic_theory.specs.Declaration.{Declaration}
use Rattle.mz_logic_theory.specs.Tree.{Tree, Trees}
use Rattle.mz_mmu_theory.specs.Proof.{Proof}
use Rattle.mz_mmu_theory.specs.ProofCode.{proof_steps}
use Rattle.mz_mmu_theory.specs.ProofView.{proof_view}
use Rattle.mz_mmu_theory.specs.Sides.{proved, with_fact}
use Rattle.mz_type_rules.specs.declared.resolving.First.{First}

-- what is visible behind them
abbrev pub visible_behind : List Declaration → Trees → Trees → List First → Trees
visible_behind env hyps lets [] = lets
visible_behind env hyps lets (f ∷ fs) = visible_behind env hyps (with_fact lets (proved env hyps lets (proof_view f.proof.now))) fs

abbrev pub proved_behind : List Declaration → Trees → Trees → List First → Proof → Tree
proved_behind env hyps lets fs p = proved env hyps (visible_behind env hyps lets fs) p

-- how many steps they have, and with a proof
abbrev pub steps_of : List First → ℕ
steps_of [] = 0
steps_of (f ∷ fs) = proof_steps (proof_view f.proof.now) + steps_of fs

abbrev pub steps_behind : List First → Proof → ℕ
steps_behind fs p = steps_of fs + proof_steps p
