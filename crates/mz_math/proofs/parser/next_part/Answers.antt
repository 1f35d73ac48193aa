use Rattle.std.proofs.Common.{◌∙◌, ◌∷◌, ◌+◌, refl, sym, ap, subst, drop}
use Rattle.std.proofs.lemmas.Bool.{true≢false}
use Rattle.mz_base.proofs.Offered.{same-head, nil-cons}
use Rattle.mz_math.specs.Steps.{IsFormUnderWay, asked, tree_made, level_made, is_left_made}
use Rattle.mz_math.proofs.Waiting.{constant-next, no-constant}
use Rattle.mz_math.proofs.parser.next_part.Goals as goal

pub returns-in-None-clause-says : goal.returns-in-None-clause-says
returns-in-None-clause-says c = λ ws from right so_far.
    let p = c.args.pending in
    no-constant ws right p.level from (drop c.args.at c.args.tokens.now) p.operands (tree_made p.form) (level_made p.form) (is_left_made p.form)
    c.in-Constant.constant.now (asked p.form (p.part + 1)) (λ xs e. nil-cons (sym c.in-None.ensures.token ∙ e))
    (subst (λ its. IsFormUnderWay ws from (drop c.args.at c.args.tokens.now) its p) c.in-Constant.ensures.0 so_far)

pub returns-then-not-is-clause-says : goal.returns-then-not-is-clause-says
returns-then-not-is-clause-says c = λ ws from right so_far.
    let p = c.args.pending in
    no-constant ws right p.level from (drop c.args.at c.args.tokens.now) p.operands (tree_made p.form) (level_made p.form) (is_left_made p.form)
    c.in-Constant.constant.now (asked p.form (p.part + 1)) (λ xs e. true≢false (sym (c.is.ensures.1 (sym (same-head (sym c.in-Some.ensures.token ∙ e)))) ∙ c.if-not-is.true))
    (subst (λ its. IsFormUnderWay ws from (drop c.args.at c.args.tokens.now) its p) c.in-Constant.ensures.0 so_far)

pub returns-clause-says : goal.returns-clause-says
returns-clause-says c = λ ws from right so_far.
    let p = c.args.pending in (
      refl,
      constant-next ws right p.level from (drop c.args.at c.args.tokens.now) p.operands (tree_made p.form) (level_made p.form) (is_left_made p.form)
          c.in-Constant.constant.now (asked p.form (p.part + 1)) (drop (c.args.at + 1) c.args.tokens.now)
          (c.in-Some.ensures.token ∙ ap (λ w. w ∷ drop (c.args.at + 1) c.args.tokens.now) (sym (c.is.ensures.0 c.if-not-is.false)))
          (subst (λ its. IsFormUnderWay ws from (drop c.args.at c.args.tokens.now) its p) c.in-Constant.ensures.0 so_far),
    )
