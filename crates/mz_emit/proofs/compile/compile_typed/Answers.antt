use Rattle.mz_emit.proofs.Looping.{legal_with}
use Rattle.mz_emit.proofs.compile.compile_typed.Goals as goal

pub returns-in-Ok : goal.returns-in-Ok
returns-in-Ok c = λ gaps bytes is.
    (c.args.typed.statements, is, c.in_default.ensures, c.in-Ok.ensures gaps (legal_with gaps bytes c.args.typed.statements is))
