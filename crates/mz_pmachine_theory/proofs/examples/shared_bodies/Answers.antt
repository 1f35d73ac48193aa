use Rattle.std.proofs.Common.{refl}
use Rattle.mz_machine_theory.specs.UnifyMachine.{unify_step, unify_from, unify}
use Rattle.mz_machine_theory.specs.ProofMachine.{built, citation, cited, unfolding_of, proof_step, ends_with, proof_end}
use Rattle.mz_machine_theory.specs.Bodies.{body_from}
use Rattle.mz_pmachine_theory.proofs.examples.shared_bodies.Goals as goal

pub returns : goal.returns
unfolding unify_step unify_from unify built citation cited unfolding_of proof_step ends_with proof_end body_from
returns c = (refl, refl, refl, refl, refl, refl, refl, refl)
