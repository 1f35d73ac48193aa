use Rattle.std.proofs.Common.{refl}
use Rattle.mz_machine_theory.specs.UnifyMachine.{unify_step, unify_from, unify}
use Rattle.mz_machine_theory.specs.ProofMachine.{built, citation, cited, unfolding_of, proof_step, ends_with, proof_end}
use Rattle.mz_machine_theory.specs.Bodies.{body_from}
use Rattle.mz_trace.specs.Traces.{traced, trace_from}
use Rattle.mz_trace.proofs.examples.worked_proofs.Goals as goal

pub returns : goal.returns
unfolding unify_step unify_from unify built citation cited unfolding_of proof_step ends_with proof_end body_from traced trace_from
returns c = record {
  citations = ((refl, refl), (refl, refl), (refl, refl), (refl, refl));
  unfoldings = ((refl, refl), (refl, refl));
  congruences = ((refl, refl), (refl, refl));
  dummies = (refl, refl);
}
