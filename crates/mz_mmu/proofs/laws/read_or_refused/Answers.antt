use Rattle.mz_mmu_theory.proofs.Offered.{some_answer}
use Rattle.mz_mmu.proofs.laws.read_or_refused.Goals as goal

pub returns : goal.returns
returns c = some_answer
