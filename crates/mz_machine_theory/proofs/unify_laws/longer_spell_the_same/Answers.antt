use Rattle.std.proofs.Common.{◌++◌}
use Rattle.mz_logic_theory.proofs.Offered.{extends_append}
use Rattle.mz_machine_theory.proofs.OneSpelling.{assertion-longer, term-longer}
use Rattle.mz_machine_theory.proofs.unify_laws.longer_spell_the_same.Goals as goal

pub returns : goal.returns
returns c = record {
  assertions = λ sigs further row a s. assertion-longer sigs (sigs ++ further) (extends_append sigs further) row a s;
  terms = λ sigs further row d s. term-longer sigs (sigs ++ further) (extends_append sigs further) row d s;
}
