use Rattle.std.proofs.Common.{◌∙◌, sym, inl, inr}
use Rattle.std.proofs.lemmas.Bool.{true≢false, false≢true}
use Rattle.mz_math_theory.proofs.Offered.{keeps, keeps-own, listed-keeps, listed-own}
use Rattle.mz_math_operators.proofs.ambiguity.levels_are_kept.Goals as goal

pub returns-then-not-keeps_own : goal.returns-then-not-keeps_own
returns-then-not-keeps_own c =
    let own = listed-own c.args.notation.now.elements c.listed-elements.result.now c.listed-elements.ensures in
    (λ f. absurd (false≢true f), λ all. absurd (true≢false (sym (c.in_ok-keeps_own.ensures.1 (own all.0)) ∙ c.if-not-keeps_own.true)))

pub returns-then-not-keeps_levels : goal.returns-then-not-keeps_levels
returns-then-not-keeps_levels c =
    let kept = listed-keeps c.args.notation.now.elements c.listed-elements.result.now c.listed-elements.ensures c.args.leading.now in
    (λ f. absurd (false≢true f), λ all. absurd (true≢false (sym (c.keeps_levels.ensures.1 (kept all.1)) ∙ c.if-not-keeps_levels.true)))

pub returns : goal.returns
returns c =
    let es = c.args.notation.now.elements in
    let xs = c.listed-elements.result.now in
    let are = c.listed-elements.ensures in (
      λ t. (
        keeps-own es xs are (c.in_ok-keeps_own.ensures.0 c.if-not-keeps_own.false),
        keeps es xs are c.args.leading.now (c.keeps_levels.ensures.0 c.if-not-keeps_levels.false),
        keeps es xs are c.args.infixes.now (c.keeps_levels-2.ensures.0 t),
      ),
      λ all. c.keeps_levels-2.ensures.1 (listed-keeps es xs are c.args.infixes.now all.2),
    )

pub keeps_levels-requires : goal.keeps_levels-requires
keeps_levels-requires c = λ w q p a b. c.requires.levels w q p (inl a) (inl b)

pub keeps_levels-requires-2 : goal.keeps_levels-requires-2
keeps_levels-requires-2 c = λ w q p a b. c.requires.levels w q p (inr a) (inr b)
