use Rattle.std.proofs.Common.{◌∙◌, map}
use Rattle.mz_spec_theory.specs.StatementCode.{lexeme}
use Rattle.mz_spec_variables.specs.Code.{variable}
use Rattle.mz_spec_theory.proofs.Offered.{nothing-among}
use Rattle.mz_spec_variables.proofs.by_name.places_among.Goals as goal

pub returns-then-is_empty : goal.returns-then-is_empty
returns-then-is_empty c = c.new.ensures ∙ nothing-among lexeme (map variable c.args.variables.now) c.args.deps.now c.is_empty.result c.is_empty.ensures c.if-is_empty.true
