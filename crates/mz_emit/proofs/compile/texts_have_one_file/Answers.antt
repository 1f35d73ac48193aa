use Rattle.mz_emit.proofs.OneFile.{one_file}
use Rattle.mz_emit.proofs.compile.texts_have_one_file.Goals as goal

pub returns : goal.returns
returns c = one_file c.typed_or_faulty.ensures
