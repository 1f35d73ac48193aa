use Rattle.mz_math_theory.proofs.Offered.{empty-is, coercion-is, delimiters-is, name-is, variables-more, notations-keep}
use Rattle.mz_math.proofs.laws.statements_keep_tables.Goals as goal

pub returns : goal.returns
returns c = record { empty = empty-is; notations = notations-keep; coercions = coercion-is; delimiters = delimiters-is; names = name-is; variables = variables-more }
