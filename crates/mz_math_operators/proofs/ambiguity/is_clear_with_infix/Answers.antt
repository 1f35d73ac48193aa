use Rattle.std.proofs.Common.{◌<◌, ◌∙◌, sym, arith}
use Rattle.std.proofs.lemmas.Bool.{true≢false, false≢true}
use Rattle.mz_math_theory.proofs.Offered.{with-infix-clear, infix-kept, infix-other, infix-groups, infix-level}
use Rattle.mz_math_theory.specs.Notation.{max_level}
use Rattle.mz_math_operators.proofs.ambiguity.is_clear_with_infix.Goals as goal

pub returns-then-notation : goal.returns-then-notation
returns-then-notation c =
    (λ f. absurd (false≢true f), λ clear. let less = infix-level c.args.leading.now c.args.infixes.now c.args.notation.now clear in absurd (omega (arith, less, c.if-notation.true)))

pub returns-then-not-are_kept : goal.returns-then-not-are_kept
returns-then-not-are_kept c =
    (λ f. absurd (false≢true f), λ clear. absurd (true≢false (sym (c.in_ok-are_kept.ensures.1 (infix-kept c.args.leading.now c.args.infixes.now c.args.notation.now clear)) ∙ c.if-not-are_kept.true)))

pub returns-then-not-all_group_with : goal.returns-then-not-all_group_with
returns-then-not-all_group_with c =
    (λ f. absurd (false≢true f), λ clear. absurd (true≢false (sym (c.all_group_with.ensures.1 (infix-groups c.args.leading.now c.args.infixes.now c.args.notation.now clear)) ∙ c.if-not-all_group_with.true)))

pub returns : goal.returns
returns c =
    let kept = c.in_ok-are_kept.ensures.0 c.if-not-are_kept.false in
    let less : c.args.notation.now.level < max_level = omega (arith, c.if-notation.false) in (
      λ t. with-infix-clear c.args.leading.now c.args.infixes.now c.args.notation.now c.requires kept.0 kept.1 kept.2 less (c.all_group_with.ensures.0 c.if-not-all_group_with.false) (c.none_is_joined.ensures.0 t),
      λ clear. c.none_is_joined.ensures.1 (infix-other c.args.leading.now c.args.infixes.now c.args.notation.now clear),
    )
