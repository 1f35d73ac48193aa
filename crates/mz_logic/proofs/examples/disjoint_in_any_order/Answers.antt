use Rattle.mz_logic.proofs.NearMisses.{not_disjoint_though_later}
use Rattle.mz_logic.proofs.examples.disjoint_in_any_order.Goals as goal

pub returns : goal.returns
returns c = not_disjoint_though_later
