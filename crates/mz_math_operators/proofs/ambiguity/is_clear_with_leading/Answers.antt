use Rattle.std.proofs.Common.{◌∙◌, sym}
use Rattle.std.proofs.lemmas.Bool.{true≢false, false≢true}
use Rattle.mz_math_theory.proofs.Offered.{with-leading-clear, leading-kept, leading-other}
use Rattle.mz_math_operators.proofs.ambiguity.is_clear_with_leading.Goals as goal

pub returns-then-not-are_kept : goal.returns-then-not-are_kept
returns-then-not-are_kept c =
    (λ f. absurd (false≢true f), λ clear. absurd (true≢false (sym (c.in_ok-are_kept.ensures.1 (leading-kept c.args.leading.now c.args.infixes.now c.args.notation.now clear)) ∙ c.if-not-are_kept.true)))

pub returns : goal.returns
returns c =
    let kept = c.in_ok-are_kept.ensures.0 c.if-not-are_kept.false in (
      λ t. with-leading-clear c.args.leading.now c.args.infixes.now c.args.notation.now c.requires kept.0 kept.1 kept.2 (c.none_is_led.ensures.0 t),
      λ clear. c.none_is_led.ensures.1 (leading-other c.args.leading.now c.args.infixes.now c.args.notation.now clear),
    )
