use Rattle.mz_emit_theory.proofs.Drafts.{finished-is-draft}
use Rattle.mz_emit_theory.proofs.file_laws.finished_is_draft.Goals as goal

pub returns : goal.returns
returns c = finished-is-draft
