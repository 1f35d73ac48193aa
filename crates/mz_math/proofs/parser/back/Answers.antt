use Rattle.std.proofs.Common.{ap, sym, subst, drop}
use Rattle.mz_logic_theory.specs.View.{tree}
use Rattle.mz_math_theory.specs.Reading.{IsRead}
use Rattle.mz_math.specs.Steps.{IsUnderWay, Says, Waits, asked, outer_level, tree_made, level_made, is_left_made}
use Rattle.mz_math.proofs.Waiting.{operand-next}
use Rattle.mz_math.proofs.parser.back.Goals as goal

pub returns-in-Parens-clause-says : goal.returns-in-Parens-clause-says
returns-in-Parens-clause-says c = λ ws from here level right waits read.
    let open_is = subst (Waits ws from here level) c.in-Parens.is waits in
    subst (λ l. Says ws c.args.tokens.now from l c.closed.result) (sym (ap outer_level c.in-Parens.is))
    (c.closed.ensures.says ws from here right open_is.0 (subst (λ l. IsRead ws l here (drop c.args.found.next c.args.tokens.now) (tree c.args.found.tree)) open_is.1 read))

pub returns-clause-says : goal.returns-clause-says
returns-clause-says c = λ ws from here level right waits read.
    let p = c.in-Operand.pending in
    let under_way = subst (Waits ws from here level) c.in-Operand.is waits in (
      sym (ap outer_level c.in-Operand.is),
      subst (λ es. IsUnderWay ws p.level from (drop c.args.found.next c.args.tokens.now) (asked p.form p.part) es (tree_made p.form) (level_made p.form) (is_left_made p.form)) (sym c.in-Ok.ensures.ok)
          (operand-next ws right p.level from here p.operands (tree_made p.form) (level_made p.form) (is_left_made p.form) level (asked p.form p.part) (drop c.args.found.next c.args.tokens.now)
          (tree c.args.found.tree) under_way.0 read under_way.1),
    )
