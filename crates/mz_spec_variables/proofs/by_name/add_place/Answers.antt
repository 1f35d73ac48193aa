use Rattle.std.proofs.Common.{ap}
use Rattle.std.specs.Prelude.{option_map}
use Rattle.std.proofs.lemmas.Result.{IfOk-weaker}
use Rattle.mz_spec_theory.specs.StatementCode.{lexeme}
use Rattle.mz_spec_variables.specs.Code.{variable}
use Rattle.mz_spec_variables.proofs.Indexed.{unnamed-step}
use Rattle.mz_spec_variables.proofs.by_name.add_place.Goals as goal

pub returns-in-None : goal.returns-in-None
returns-in-None c = λ _ vs at index. unnamed-step vs c.args.place (variable c.args.variable.now) at c.args.places.now c.args.places.now index (ap (option_map lexeme) c.in-None.is)

pub returns-in-Some : goal.returns-in-Some
returns-in-Some c = IfOk-weaker c.add_name.result _ _ (λ b e. λ new vs at index. e new vs (variable c.args.variable.now) at (ap (option_map lexeme) c.in-Some.is) index) c.add_name.ensures
