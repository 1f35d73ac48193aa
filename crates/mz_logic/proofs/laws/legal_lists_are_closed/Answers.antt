use Rattle.std.proofs.Common.{◌≡◌, true}
use Rattle.mz_logic_theory.proofs.Offered.{legal_list_by_axioms, legal_list_is_closed, legal_by_supports}
use Rattle.mz_logic.proofs.laws.legal_lists_are_closed.Goals as goal

pub returns-clause-by_axioms : goal.returns-clause-by_axioms
returns-clause-by_axioms c = legal_list_by_axioms

pub returns-clause-by_prefixes : goal.returns-clause-by_prefixes
returns-clause-by_prefixes c = legal_list_is_closed

pub returns-clause-by_supports : goal.returns-clause-by_supports
returns-clause-by_supports c list cited support = legal_by_supports list (λ T U. cited T U ≡ true) (λ T A. support T A ≡ true)
