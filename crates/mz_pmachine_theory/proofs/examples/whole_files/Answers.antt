use Rattle.std.proofs.Common.{refl}
use Rattle.mz_layout_tables.specs.Numbers.{number_at}
use Rattle.mz_machine_theory.specs.UnifyMachine.{unify_step, unify_from, unify}
use Rattle.mz_machine_theory.specs.ProofMachine.{built, citation, cited, unfolding_of, proof_step, ends_with, proof_end}
use Rattle.mz_machine_theory.specs.Bodies.{body_from}
use Rattle.mz_binary_theory.specs.FileRun.{find_at, run_list}
use Rattle.mz_pmachine_theory.proofs.examples.whole_files.Goals as goal

pub returns : goal.returns
unfolding number_at unify_step unify_from unify built citation cited unfolding_of proof_step ends_with proof_end body_from find_at run_list
returns c = (refl, refl, refl, refl, refl)
