use Rattle.std.specs.Prelude.{⊤}
use Rattle.mz_math_theory.proofs.Offered.{delimiter-answer}
use Rattle.mz_math_notation.proofs.table.Notations.add_delimiter.Goals as goal

pub returns-in-Err-clause-answer : goal.returns-in-Err-clause-answer
returns-in-Err-clause-answer c = delimiter-answer ⊤ c.args.left.now _ c.in-Err.fault c.in-Err.ensures
