use Rattle.mz_logic.proofs.NearMisses.{unfolds_with_fresh, unfolds_with_operand, unfolds_with_one_for_two}
use Rattle.mz_logic.proofs.examples.unfoldings_are_fresh.Goals as goal

pub returns-clause-holds : goal.returns-clause-holds
returns-clause-holds c = unfolds_with_fresh

pub returns-clause-operand : goal.returns-clause-operand
returns-clause-operand c = unfolds_with_operand

pub returns-clause-twice : goal.returns-clause-twice
returns-clause-twice c = unfolds_with_one_for_two
