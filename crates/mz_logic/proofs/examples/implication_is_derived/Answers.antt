use Rattle.mz_logic.proofs.WorkedExamples.{a1i_derives, a1i_turned_fails}
use Rattle.mz_logic.proofs.examples.implication_is_derived.Goals as goal

pub returns-clause-holds : goal.returns-clause-holds
returns-clause-holds c = a1i_derives

pub returns-clause-turned : goal.returns-clause-turned
returns-clause-turned c = a1i_turned_fails
