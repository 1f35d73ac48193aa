use Rattle.mz_store.proofs.Meeting.{words-meet}
use Rattle.mz_store.proofs.laws.words_meet.Goals as goal

pub returns : goal.returns
returns c = words-meet
