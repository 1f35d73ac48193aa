use Rattle.mz_machine_theory.specs.Profile.{plain}
use Rattle.mz_emit_theory.proofs.Bytes.{body-from-run}
use Rattle.mz_emit_theory.proofs.WholeBodies.{bodies-run}
use Rattle.mz_emit_theory.proofs.body_laws.right_bodies_run.Goals as goal

pub returns : goal.returns
returns c = record { commands = λ gaps. body-from-run (plain gaps); bodies = bodies-run }
