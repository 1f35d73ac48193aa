use Rattle.mz_match.proofs.OneDraft.{one-draft, some-draft}
use Rattle.mz_match.proofs.laws.each_pair_has_one_draft.Goals as goal

pub returns-clause-some : goal.returns-clause-some
returns-clause-some c = some-draft

pub returns-clause-one : goal.returns-clause-one
returns-clause-one c = one-draft
