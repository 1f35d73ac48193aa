use Rattle.std.proofs.Common.{refl, drop}
use Rattle.mz_logic_theory.specs.View.{tree}
use Rattle.mz_math.specs.Steps.{asked, tree_made, level_made, is_left_made}
use Rattle.mz_math.proofs.Waiting.{all-parts, too-low}
use Rattle.mz_math.proofs.parser.finished.Goals as goal

pub returns-then-level-pending-clause-says : goal.returns-then-level-pending-clause-says
returns-then-level-pending-clause-says c = λ ws tokens from right none_left so_far.
    let p = c.args.pending in
    too-low ws right p.level from (drop c.args.at tokens) p.operands (tree_made p.form) (level_made p.form) (is_left_made p.form) (asked p.form p.part) none_left so_far
    c.level-level.result c.level-level.ensures c.if-level-pending.true

pub returns-in-Some-clause-says : goal.returns-in-Some-clause-says
returns-in-Some-clause-says c = λ ws tokens from right none_left so_far.
    let p = c.args.pending in (
      refl,
      all-parts ws right p.level from (drop c.args.at tokens) p.operands (tree_made p.form) (level_made p.form) (is_left_made p.form) (asked p.form p.part) none_left so_far
          (tree c.in-Some.tree) c.level-level.result c.is_left.result c.in-Some.ensures c.level-level.ensures c.is_left.ensures c.if-level-pending.false,
    )
