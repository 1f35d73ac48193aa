use Rattle.std.proofs.Common.{refl}
use Rattle.mz_match.proofs.draft.judge_draft.Goals as goal

pub returns-in-Ok-clause-draft : goal.returns-in-Ok-clause-draft
returns-in-Ok-clause-draft g c = let is = c.in-Ok.ensures.judged in (is.accepts, is.counts, is.gaps refl)
