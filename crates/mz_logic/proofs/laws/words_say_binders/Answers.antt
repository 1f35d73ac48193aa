use Rattle.mz_logic_theory.proofs.Offered.{words_say_parameters, words_say_results, words_say_dependencies}
use Rattle.mz_logic.proofs.laws.words_say_binders.Goals as goal

pub returns-clause-parameters : goal.returns-clause-parameters
returns-clause-parameters c = words_say_parameters

pub returns-clause-results : goal.returns-clause-results
returns-clause-results c = words_say_results

pub returns-clause-dependencies : goal.returns-clause-dependencies
returns-clause-dependencies c = words_say_dependencies
