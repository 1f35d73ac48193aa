use Rattle.mz_math_operators.proofs.Naming.{named-decides}
use Rattle.mz_math_operators.proofs.scope.Scope.names_variable.Goals as goal

pub returns : goal.returns
returns c = named-decides c.args.self.now.names c.args.name.now c.place_of.result c.place_of.ensures c.is_some.result c.is_some.ensures
