use Rattle.mz_match_theory.proofs.Offered.{accepted-sound}
use Rattle.mz_portable.proofs.Tables.{by-table}
use Rattle.mz_portable.proofs.laws.portable_pairs_are_accepted.Goals as goal

pub returns : goal.returns
returns c = record { accepted = by-table; sound = λ spec bin counts accepts. accepted-sound spec bin (by-table spec bin counts accepts).0 }
