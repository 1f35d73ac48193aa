use Rattle.mz_machine_theory.specs.Profile.{plain}
use Rattle.mz_machine_theory.proofs.UnifyRuns.{steps-bounded}
use Rattle.mz_machine_theory.proofs.unify_laws.one_step_a_byte.Goals as goal

pub returns : goal.returns
returns c = λ gaps. steps-bounded (plain gaps)
