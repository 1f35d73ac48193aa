use Rattle.mz_prefix.proofs.Deciding.{is_decided}
use Rattle.mz_prefix.proofs.spec_text.specification_is_decided.Goals as goal

pub returns : goal.returns
returns c = is_decided c.typed_or_faulty.ensures
