use Rattle.mz_emit_theory.proofs.Sound.{stated_sound}
use Rattle.mz_emit_theory.proofs.claims_laws.stated_proofs_are_sound.Goals as goal

pub returns : goal.returns
returns c = stated_sound
