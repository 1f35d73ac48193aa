use Rattle.mz_emit_theory.proofs.Running.{steps-run}
use Rattle.mz_emit_theory.proofs.body_laws.right_steps_run.Goals as goal

pub returns : goal.returns
returns c = λ gaps tables env env' declares same n ctx first few at cs w w' right steps. steps-run gaps tables env env' declares same n ctx first few at cs w w' right steps
