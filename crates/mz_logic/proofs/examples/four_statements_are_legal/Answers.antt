use Rattle.mz_logic.proofs.WorkedExamples.{four_are_legal, local_axiom_fails}
use Rattle.mz_logic.proofs.examples.four_statements_are_legal.Goals as goal

pub returns-clause-holds : goal.returns-clause-holds
returns-clause-holds c = four_are_legal

pub returns-clause-local : goal.returns-clause-local
returns-clause-local c = local_axiom_fails
