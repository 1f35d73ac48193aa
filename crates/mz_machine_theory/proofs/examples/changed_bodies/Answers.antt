use Rattle.std.proofs.Common.{refl}
use Rattle.mz_machine_theory.specs.UnifyMachine.{unify_step, unify_from, unify}
use Rattle.mz_machine_theory.specs.ProofMachine.{built, citation, cited, unfolding_of, proof_step, ends_with, proof_end}
use Rattle.mz_machine_theory.specs.Bodies.{body_from}
use Rattle.mz_machine_theory.proofs.examples.changed_bodies.Goals as goal

pub returns : goal.returns
unfolding unify_step unify_from unify built citation cited unfolding_of proof_step ends_with proof_end body_from
returns c = record {
  unchanged = (refl, refl, refl, refl, refl, refl, refl, refl, refl);
  codes = (refl, refl, refl, refl, refl, refl, refl, refl, refl, refl, refl, refl, refl, refl);
  streams = (refl, refl, refl, refl, refl, refl);
  long_end = refl;
}
