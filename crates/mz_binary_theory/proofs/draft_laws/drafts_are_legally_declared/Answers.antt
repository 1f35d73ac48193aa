use Rattle.mz_binary_theory.proofs.DraftLists.{drafts-declared}
use Rattle.mz_binary_theory.proofs.draft_laws.drafts_are_legally_declared.Goals as goal

pub returns : goal.returns
returns c = drafts-declared
