use Rattle.std.proofs.Common.{refl}
use Rattle.mz_machine_theory.specs.UnifyMachine.{unify_step, unify_from, unify}
use Rattle.mz_machine_theory.specs.ProofMachine.{built, citation, cited, unfolding_of, proof_step, ends_with, proof_end}
use Rattle.mz_machine_theory.specs.Bodies.{body_from}
use Rattle.mz_machine_theory.proofs.examples.worked_bodies.Goals as goal

pub returns : goal.returns
unfolding unify_step unify_from unify built citation cited unfolding_of proof_step ends_with proof_end body_from
returns c = record {
  implications = (refl, refl, refl);
  hypotheses_last_first = refl;
  cites_itself = refl;
  dependency = (refl, refl);
  all_variables = refl;
  folding = (refl, refl, refl);
  obligation_left = refl;
  conversion_saved = (refl, refl);
  dummies = (refl, refl, refl);
  fifty_five = refl;
  gap = refl;
  gaps_of_drafts = (refl, refl, refl, refl, refl, refl);
  of_another_body = refl;
  of_another_row = refl;
  cut_or_long = (refl, refl);
}
