use Rattle.mz_emit_theory.proofs.Using.{stated_uses}
use Rattle.mz_emit_theory.proofs.claims_laws.stated_proofs_use_what_they_mean.Goals as goal

pub returns : goal.returns
returns c = stated_uses
