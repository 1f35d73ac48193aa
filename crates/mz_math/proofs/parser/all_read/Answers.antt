use Rattle.std.proofs.Common.{◌∙◌, sym, drop}
use Rattle.mz_base.proofs.Offered.{nil-cons}
use Rattle.mz_logic_theory.specs.View.{tree}
use Rattle.mz_math_theory.proofs.Offered.{some-left}
use Rattle.mz_math.proofs.parser.all_read.Goals as goal

pub returns-in-Some-clause-no : goal.returns-in-Some-clause-no
returns-in-Some-clause-no c = λ ws right read.
    some-left ws right c.args.tokens.now (drop c.args.found.next c.args.tokens.now) (tree c.args.found.tree) read (λ none. nil-cons (sym none ∙ c.in-Some.ensures.token))
