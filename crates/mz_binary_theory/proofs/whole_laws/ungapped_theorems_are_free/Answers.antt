use Rattle.mz_binary_theory.proofs.GapFree.{ungapped-free}
use Rattle.mz_binary_theory.proofs.whole_laws.ungapped_theorems_are_free.Goals as goal

pub returns : goal.returns
returns c = ungapped-free
