use Rattle.mz_spec_theory.proofs.Offered.{statements-one, no-empty, one-statement}
use Rattle.mz_spec_grammar.proofs.laws.statements_are_one.Goals as goal

pub returns : goal.returns
returns c = record { one = one-statement; front = statements-one; none_empty = no-empty }
