use Rattle.mz_machine_theory.proofs.Offered.{bound-never-ends, count-is-whole}
use Rattle.mz_pmachine_theory.specs.NodeIdentity.{portable}
use Rattle.mz_pmachine_theory.proofs.laws.bound_never_ends.Goals as goal

pub returns : goal.returns
returns c = record { runs = bound-never-ends portable; steps = count-is-whole portable }
