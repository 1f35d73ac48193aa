use Rattle.mz_machine_theory.proofs.Lists.{good-legal, one-list}
use Rattle.mz_machine_theory.proofs.soundness.good_entries_are_legal.Goals as goal

pub returns : goal.returns
returns c = record { legal = good-legal; one = one-list }
