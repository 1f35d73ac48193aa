use Rattle.mz_emit_theory.proofs.Ending.{ends-end}
use Rattle.mz_emit_theory.proofs.body_laws.right_ends_end.Goals as goal

pub returns : goal.returns
returns c = λ gaps tables env env' declares same h dummies first w right ends. ends-end gaps tables env env' declares same h dummies first w right ends
