use Rattle.mz_logic.proofs.WorkedExamples.{disjoint_where_it_depends, not_disjoint, not_disjoint_though_not_free}
use Rattle.mz_logic.proofs.examples.operands_are_disjoint.Goals as goal

pub returns-clause-depends : goal.returns-clause-depends
returns-clause-depends c = disjoint_where_it_depends

pub returns-clause-fails : goal.returns-clause-fails
returns-clause-fails c = not_disjoint

pub returns-clause-not_free : goal.returns-clause-not_free
returns-clause-not_free c = not_disjoint_though_not_free
