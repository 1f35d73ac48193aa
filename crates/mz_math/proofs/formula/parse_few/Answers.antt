use Rattle.std.proofs.Common.{◌≤◌, ℕ, List, length, arith}
use Rattle.mz_math_theory.specs.FormulaAnswers.{IfParsed, IfNotParsed, IsTreeOfFew}
use Rattle.mz_math_theory.specs.Formula.{most}
use Rattle.mz_math_theory.specs.Grammar.{Words}
use Rattle.mz_math_theory.specs.declared.syntax.Syntax.{Syntax}
use Rattle.mz_math_theory.specs.declared.syntax.Syntax.TheVariants as syntax
use Rattle.mz_math.proofs.formula.parse_few.Goals as goal

few-parsed : (ws : Words) (tokens : List (List ℕ)) (answer : Syntax) → length tokens ≤ most → IfParsed ws tokens answer → IfNotParsed ws tokens answer → IsTreeOfFew ws tokens answer
few-parsed ws tokens (syntax.Tree e) few tree none = (few, tree)
few-parsed ws tokens syntax.No few tree none = λ _. none
few-parsed ws tokens syntax.Mem few tree none = tt

pub returns-then-len-gt-MOST-clause-tree : goal.returns-then-len-gt-MOST-clause-tree
returns-then-len-gt-MOST-clause-tree c = λ few. absurd (omega (arith, few, c.len.ensures, c.if-len-gt-MOST.true))

pub returns-clause-many : goal.returns-clause-many
returns-clause-many c = λ many. absurd (omega (arith, many, c.len.ensures, c.if-len-gt-MOST.false))

pub returns-clause-tree : goal.returns-clause-tree
returns-clause-tree c = few-parsed c.args.words.now c.args.tokens.now c.parse.result (omega (arith, c.len.ensures, c.if-len-gt-MOST.false)) c.parse.ensures.tree c.parse.ensures.no
