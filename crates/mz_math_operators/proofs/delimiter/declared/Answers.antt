use Rattle.std.proofs.Common.{sym, subst}
use Rattle.std.specs.Prelude.{option_map}
use Rattle.mz_lex.specs.MathTokens.{AreDelimiters}
use Rattle.mz_math_theory.specs.NotationAnswers.{IsMade}
use Rattle.mz_math_operators.proofs.delimiter.declared.Goals as goal

pub returns-in-None : goal.returns-in-None
returns-in-None c = subst (λ o. IsMade c.of_both.result (AreDelimiters c.args.left.now (option_map (λ bytes. bytes.now) o))) (sym c.in-None.is) c.of_both.ensures
