use Rattle.mz_emit.proofs.Deciding.{is_decided}
use Rattle.mz_emit.proofs.compile.compilation_is_decided.Goals as goal

pub returns : goal.returns
returns c = is_decided c.typed_or_faulty.ensures c.limits_are_decided.ensures
