use Rattle.mz_mmu_theory.proofs.Offered.{one_reading, statements_once}
use Rattle.mz_mmu.proofs.laws.one_reading.Goals as goal

pub returns : goal.returns
returns c = record { texts = one_reading; nodes = statements_once }
