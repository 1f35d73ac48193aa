use Rattle.mz_emit_bodies.proofs.UsesOfWriters.{theorems_use}
use Rattle.mz_emit_bodies.proofs.WholeBodies.{theorem_bodies_use}
use Rattle.mz_emit_bodies.proofs.laws.bodies_use_what_proofs_use.Goals as goal

pub returns : goal.returns
returns c = record { commands = theorems_use; bodies = theorem_bodies_use }
