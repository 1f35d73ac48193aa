use Rattle.mz_machine_theory.specs.Profile.{plain}
use Rattle.mz_machine_theory.proofs.BodyRuns.{bound-never-ends, count-is-whole}
use Rattle.mz_machine_theory.proofs.laws.bound_never_ends.Goals as goal

pub returns : goal.returns
returns c = record { runs = λ gaps. bound-never-ends (plain gaps); steps = λ gaps. count-is-whole (plain gaps) }
