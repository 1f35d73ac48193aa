use Rattle.std.proofs.Common.{refl}
use Rattle.mz_machine_theory.specs.UnifyMachine.{unify_step, unify_from, unify, unify_steps_from}
use Rattle.mz_machine_theory.specs.ProofMachine.{built, citation, cited, unfolding_of, proof_step, ends_with, proof_end}
use Rattle.mz_machine_theory.specs.Bodies.{body_from, body_steps_from}
use Rattle.mz_machine_theory.proofs.examples.counted_steps.Goals as goal

pub returns : goal.returns
unfolding unify_step unify_from unify unify_steps_from built citation cited unfolding_of proof_step ends_with proof_end body_from body_steps_from
returns c = record {
  whole = (refl, refl, refl, refl, refl, refl, refl, refl, refl);
  to_fault = (refl, refl, refl);
}
