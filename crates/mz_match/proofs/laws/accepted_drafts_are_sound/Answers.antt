use Rattle.mz_match.specs.declared.draft.Draft.TheVariants as drafts
use Rattle.mz_match.proofs.GapPlaces.{draft-sound}
use Rattle.mz_match.proofs.laws.accepted_drafts_are_sound.Goals as goal

pub returns : goal.returns
returns c = λ spec bin counts places accepts. draft-sound spec bin (drafts.Accepted counts places) accepts
