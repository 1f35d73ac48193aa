use Rattle.mz_lex.specs.MathTokens.{AreCharacters}
use Rattle.mz_lex.specs.declared.tokens.Delimiters.{Delimiters}
use Rattle.mz_math_theory.specs.NotationAnswers.{AreBoth}
use Rattle.mz_math_operators.proofs.Literals.{made-err}
use Rattle.mz_math_operators.proofs.delimiter.of_both.Goals as goal

pub returns-in-Err : goal.returns-in-Err
returns-in-Err c = made-err (AreCharacters c.args.left.now) (AreBoth c.args.left.now c.args.right.now) c.in-Err.fault (λ (d : Delimiters) is. (d.left, is.0)) c.in-Err.ensures

pub returns-in-Err-characters : goal.returns-in-Err-characters
returns-in-Err-characters c = made-err (AreCharacters c.args.right.now) (AreBoth c.args.left.now c.args.right.now) c.in-Err-characters.fault (λ (d : Delimiters) is. (d.right, is.1)) c.in-Err-characters.ensures
