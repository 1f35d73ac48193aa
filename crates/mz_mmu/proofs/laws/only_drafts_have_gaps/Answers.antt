use Rattle.mz_mmu_theory.proofs.Offered.{only_drafts}
use Rattle.mz_mmu.proofs.laws.only_drafts_have_gaps.Goals as goal

pub returns : goal.returns
returns c = only_drafts
