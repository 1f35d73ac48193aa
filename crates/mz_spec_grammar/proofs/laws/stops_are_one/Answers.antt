use Rattle.mz_spec_theory.proofs.Offered.{stops-one, not-both-Stopping as not-both, one-of-all}
use Rattle.mz_spec_grammar.proofs.laws.stops_are_one.Goals as goal

pub returns : goal.returns
returns c = record { one = stops-one; not_both = not-both; one_of_all = one-of-all }
