use Rattle.mz_emit_theory.proofs.Joining.{steps-join, steps-keep}
use Rattle.mz_emit_theory.proofs.body_laws.steps_join.Goals as goal

pub returns : goal.returns
returns c = record { join = steps-join; heap = steps-keep }
