use Rattle.mz_emit.proofs.Alike.{compile_alike}
use Rattle.mz_emit.proofs.compile.modes_compile_alike.Goals as goal

pub returns : goal.returns
returns c = compile_alike c.typed_or_faulty.ensures
