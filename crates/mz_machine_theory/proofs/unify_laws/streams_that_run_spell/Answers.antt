use Rattle.mz_machine_theory.proofs.SomeText.{cited-spells, unfolded-spells}
use Rattle.mz_machine_theory.proofs.unify_laws.streams_that_run_spell.Goals as goal

pub returns : goal.returns
returns c = record {
  assertions = λ sigs ctx params stream es e items rest heap len sorted items-sorted (u, done, _, _). cited-spells sigs ctx params stream es e items u len sorted items-sorted done;
  definitions = λ sigs ctx params stream es e heap len sorted (u, done, _, _). unfolded-spells sigs ctx params stream es e u len sorted done;
}
