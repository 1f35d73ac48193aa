use Rattle.mz_logic.proofs.NearMisses.{gap_converts, gap_is_illegal, nothing_from_nothing}
use Rattle.mz_logic.proofs.examples.gaps_prove_nothing.Goals as goal

pub returns-clause-converts : goal.returns-clause-converts
returns-clause-converts c = gap_converts

pub returns-clause-illegal : goal.returns-clause-illegal
returns-clause-illegal c = gap_is_illegal

pub returns-clause-nothing : goal.returns-clause-nothing
returns-clause-nothing c = nothing_from_nothing
