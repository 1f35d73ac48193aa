use Rattle.mz_mmu_theory.proofs.Offered.{one_answer}
use Rattle.mz_mmu.proofs.laws.read_or_refused_once.Goals as goal

pub returns : goal.returns
returns c = one_answer
