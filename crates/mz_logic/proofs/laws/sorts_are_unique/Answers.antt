use Rattle.mz_logic_theory.proofs.Offered.{one_sort}
use Rattle.mz_logic.proofs.laws.sorts_are_unique.Goals as goal

pub returns : goal.returns
returns c = one_sort
