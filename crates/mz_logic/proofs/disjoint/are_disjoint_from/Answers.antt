use Rattle.std.proofs.Common.{◌<◌, ◌∙◌, sym, refl, length, arith, true≢false}
use Rattle.std.proofs.lemmas.Option.{slice_get_within}
use Rattle.mz_base.proofs.Offered.{each_before_more}
use Rattle.mz_logic_theory.specs.Variables.{AreDisjointAt}
use Rattle.mz_logic.proofs.disjoint.are_disjoint_from.Goals as goal

pub returns-then-not-is_disjoint_from : goal.returns-then-not-is_disjoint_from
returns-then-not-is_disjoint_from c = (
  λ never. absurd (true≢false (sym never)),
  λ h. absurd (true≢false (sym (c.is_disjoint_from.ensures.1 (h c.loop-i.i)) ∙ c.if-not-is_disjoint_from.true)),
)

pub loop-i-preserved : goal.loop-i-preserved
loop-i-preserved c =
    each_before_more (λ k. AreDisjointAt c.args.ctx.now c.args.es.now c.args.params.now k c.args.j) c.loop-i.i c.loop-i.invariant
    (c.is_disjoint_from.ensures.0 c.if-not-is_disjoint_from.false)

pub returns : goal.returns
returns c = (
  λ _ i x p q at_i.
      let within : i < length c.args.params.now = slice_get_within c.args.params.now i p at_i in
      c.loop-i.invariant i (omega (arith, within, c.loop-i-test.false)) x p q at_i,
  λ _. refl,
)
