use Rattle.mz_asm.proofs.RoundTrip.{listed, normal, assembled, from-listing}
use Rattle.mz_asm.proofs.laws.listings_are_assembled.Goals as goal

pub returns-clause-listed : goal.returns-clause-listed
returns-clause-listed c = λ text file of. (normal text file of, listed text file of)

pub returns-clause-normal : goal.returns-clause-normal
returns-clause-normal c = λ file is short. let made = assembled file is short in (made.0, listed made.0 file made.1)

pub returns-clause-assembled : goal.returns-clause-assembled
returns-clause-assembled c = λ text file is short listing. from-listing text file is short listing
