use Rattle.mz_spec_theory.proofs.Offered.{one-reading, one-fault, not-both, one-of-both}
use Rattle.mz_spec.proofs.laws.readings_are_one.Goals as goal

pub returns : goal.returns
returns c = record { reading = one-reading; fault = one-fault; not_both = not-both; one_of_both = one-of-both }
