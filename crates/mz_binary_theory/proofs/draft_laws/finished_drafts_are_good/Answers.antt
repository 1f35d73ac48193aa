use Rattle.mz_binary_theory.proofs.FinishedDrafts.{finished-good}
use Rattle.mz_binary_theory.proofs.draft_laws.finished_drafts_are_good.Goals as goal

pub returns : goal.returns
returns c = finished-good
