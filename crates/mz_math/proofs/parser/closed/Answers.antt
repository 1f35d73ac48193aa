use Rattle.std.proofs.Common.{◌∙◌, ◌∷◌, ◌+◌, sym, ap, refl, drop, arith}
use Rattle.std.proofs.lemmas.Bool.{true≢false}
use Rattle.mz_base.proofs.Offered.{same-head, nil-cons}
use Rattle.mz_logic_theory.specs.View.{tree}
use Rattle.mz_math_theory.proofs.Offered.{parens-open, parens-begun}
use Rattle.mz_math.proofs.parser.closed.Goals as goal

pub returns-in-None-clause-says : goal.returns-in-None-clause-says
returns-in-None-clause-says c = λ ws from here right is read.
    parens-open ws right c.args.level from here (drop c.args.inner.next c.args.tokens.now) (tree c.args.inner.tree) is read (λ xs e. nil-cons (sym c.in-None.ensures.token ∙ e))

pub returns-then-not-is_close-clause-says : goal.returns-then-not-is_close-clause-says
returns-then-not-is_close-clause-says c = λ ws from here right is read.
    parens-open ws right c.args.level from here (drop c.args.inner.next c.args.tokens.now) (tree c.args.inner.tree) is read
    (λ xs e. true≢false (sym (c.is_close.ensures.1 (same-head (sym c.in-Some.ensures.token ∙ e))) ∙ c.if-not-is_close.true))

pub returns-else-not-is_close-clause-says : goal.returns-else-not-is_close-clause-says
returns-else-not-is_close-clause-says c = λ ws from here right is read. (
  refl,
  parens-begun ws right c.args.level from here (drop c.args.inner.next c.args.tokens.now) (drop (c.args.inner.next + 1) c.args.tokens.now) (tree c.args.inner.tree) is read
      (c.in-Some.ensures.token ∙ ap (λ w. w ∷ drop (c.args.inner.next + 1) c.args.tokens.now) (c.is_close.ensures.0 c.if-not-is_close.false)) (omega (arith, c.ranges.level.fits)),
)
