use Rattle.mz_logic.proofs.NearMisses.{no_sort_no_conversion}
use Rattle.mz_logic.proofs.examples.conversions_are_sorted.Goals as goal

pub returns : goal.returns
returns c = no_sort_no_conversion
