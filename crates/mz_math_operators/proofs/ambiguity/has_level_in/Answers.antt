use Rattle.std.proofs.Common.{◌∙◌, eq-eqb, refl}
use Rattle.std.proofs.lemmas.Bool.{eqb-true}
use Rattle.mz_math_operators.proofs.ambiguity.has_level_in.Goals as goal

pub returns-in-None : goal.returns-in-None
returns-in-None c = (λ t q has. absurd (c.in-None.ensures q has), λ all. refl)

pub returns-in-Some : goal.returns-in-Some
returns-in-Some c = (
  λ t q has. c.requires c.args.word.now q c.in-Some.other has c.in-Some.ensures ∙ eqb-true c.in-Some.other c.args.level t,
  λ all. eq-eqb c.in-Some.other c.args.level (all c.in-Some.other c.in-Some.ensures),
)
