use Rattle.mz_logic.proofs.NearMisses.{free_by_the_result, bound_by_the_term}
use Rattle.mz_logic.proofs.examples.results_free_their_operands.Goals as goal

pub returns-clause-free : goal.returns-clause-free
returns-clause-free c = free_by_the_result

pub returns-clause-bound : goal.returns-clause-bound
returns-clause-bound c = bound_by_the_term
