use Rattle.std.proofs.Common.{refl}
use Rattle.mz_layout_tables.specs.Numbers.{number_at}
use Rattle.mz_machine_theory.specs.UnifyMachine.{unify_step, unify_from, unify, unify_steps_from}
use Rattle.mz_machine_theory.specs.ProofMachine.{built, citation, cited, unfolding_of, proof_step, ends_with, proof_end}
use Rattle.mz_machine_theory.specs.Bodies.{body_from, body_steps_from}
use Rattle.mz_binary_theory.specs.FileRun.{find_at, run_list, list_steps}
use Rattle.mz_binary_theory.proofs.examples.worked_files.Goals as goal

pub returns : goal.returns
unfolding number_at unify_step unify_from unify unify_steps_from built citation cited unfolding_of proof_step ends_with proof_end body_from body_steps_from find_at run_list list_steps
returns c = record {
  accepted = (refl, refl, refl, refl, refl, refl, refl, refl);
  cut = (refl, refl, refl, refl, refl, refl);
  headers = (refl, refl, refl, refl, refl, refl, refl, refl, refl, refl, refl);
  rows = (refl, refl, refl, refl, refl, refl, refl, refl, refl, refl, refl, refl, refl, refl, refl);
  bodies = (refl, refl, refl, refl, refl, refl, refl, refl, refl, refl, refl, refl, refl, refl, refl, refl, refl, refl, refl, refl, refl, refl, refl, refl, refl, refl, refl, refl, refl);
  gaps = (refl, refl, refl);
  steps = (refl, refl, refl, refl, refl, refl, refl, refl, refl, refl, refl);
}
