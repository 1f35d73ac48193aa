use Rattle.mz_logic.proofs.NearMisses.{cites_where_it_depends, cites_not_disjoint}
use Rattle.mz_logic.proofs.examples.citations_are_disjoint.Goals as goal

pub returns-clause-holds : goal.returns-clause-holds
returns-clause-holds c = cites_where_it_depends

pub returns-clause-fails : goal.returns-clause-fails
returns-clause-fails c = cites_not_disjoint
