use Rattle.mz_mmu_theory.proofs.Offered.{each_typed_or_refused}
use Rattle.mz_type.proofs.laws.typed_or_refused.Goals as goal

pub returns : goal.returns
returns c = each_typed_or_refused
