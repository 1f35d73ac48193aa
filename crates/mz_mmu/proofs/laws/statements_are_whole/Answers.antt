use Rattle.mz_mmu_theory.proofs.Offered.{are_whole}
use Rattle.mz_mmu.proofs.laws.statements_are_whole.Goals as goal

pub returns : goal.returns
returns c = are_whole
