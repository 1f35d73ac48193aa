use Rattle.mz_match_theory.proofs.FinishedDrafts.{accepted-exactly}
use Rattle.mz_match_theory.proofs.laws.finished_drafts_are_accepted.Goals as goal

pub returns : goal.returns
returns c = accepted-exactly
