use Rattle.mz_logic_theory.proofs.Offered.{assertions_are_sorted, terms_are_sorted}
use Rattle.mz_logic.proofs.laws.legal_declarations_are_sorted.Goals as goal

pub returns-clause-assertions : goal.returns-clause-assertions
returns-clause-assertions c = assertions_are_sorted

pub returns-clause-terms : goal.returns-clause-terms
returns-clause-terms c = terms_are_sorted
