use Rattle.std.proofs.Common.{length, arith}
use Rattle.mz_machine_theory.specs.Bodies.{body_start}
use Rattle.mz_machine_theory.proofs.Offered.{steps-le}
use Rattle.mz_pmachine_theory.specs.NodeIdentity.{portable}
use Rattle.mz_pmachine_theory.proofs.laws.steps_bounded.Goals as goal

pub returns : goal.returns
returns c = record {
  bounded = λ tables h n within bound at bytes st. steps-le portable tables h n within bound (length bytes) at bytes st (omega arith);
  few = λ tables h n within at bytes. steps-le portable tables h n within (length bytes) (length bytes) at bytes (body_start portable h) (omega arith);
}
