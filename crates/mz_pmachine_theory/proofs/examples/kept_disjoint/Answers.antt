use Rattle.std.proofs.Common.{refl}
use Rattle.mz_machine_theory.specs.UnifyMachine.{unify_step, unify_from, unify}
use Rattle.mz_machine_theory.specs.ProofMachine.{built, citation, cited, unfolding_of, proof_step, ends_with, proof_end}
use Rattle.mz_machine_theory.specs.Bodies.{body_from}
use Rattle.mz_pmachine_theory.proofs.examples.kept_disjoint.Goals as goal

pub returns : goal.returns
unfolding unify_step unify_from unify built citation cited unfolding_of proof_step ends_with proof_end body_from
returns c = record {
  equal_trees = ((refl, refl), (refl, refl), (refl, refl), (refl, refl), (refl, refl));
  dummy_in_saved = (refl, refl);
  three_items = (refl, refl);
  conversions_by_ref = ((refl, refl), refl, refl);
}
