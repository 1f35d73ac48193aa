use Rattle.mz_logic_theory.proofs.Offered.{conversion_keeps_sort}
use Rattle.mz_logic.proofs.laws.conversions_keep_sorts.Goals as goal

pub returns : goal.returns
returns c = conversion_keeps_sort
