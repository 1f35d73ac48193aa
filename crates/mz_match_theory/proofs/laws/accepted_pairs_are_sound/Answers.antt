use Rattle.mz_match_theory.proofs.AcceptedSound.{accepted-sound}
use Rattle.mz_match_theory.proofs.laws.accepted_pairs_are_sound.Goals as goal

pub returns : goal.returns
returns c = accepted-sound
