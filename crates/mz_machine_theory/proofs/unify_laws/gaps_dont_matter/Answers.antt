use Rattle.mz_machine_theory.proofs.PlainRuns.{unify-plain, unify_steps-plain}
use Rattle.mz_machine_theory.proofs.unify_laws.gaps_dont_matter.Goals as goal

pub returns : goal.returns
returns c = λ gaps sigs ctx m. (unify-plain gaps sigs ctx m, unify_steps-plain gaps sigs ctx m)
