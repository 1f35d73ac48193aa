use Rattle.std.proofs.Common.{ℕ, ◌<◌, ◌∙◌, ap, sym, refl, length, arith, true≢false}
use Rattle.std.proofs.lemmas.Option.{slice_get_within, get_or_from_slice_get}
use Rattle.mz_base.proofs.Offered.{each_before_more}
use Rattle.mz_logic_theory.specs.Declaration.{signatures}
use Rattle.mz_logic_theory.specs.Variables.{AreDisjointAt}
use Rattle.mz_logic_theory.specs.declared.binder.Binder.{Binder}
use Rattle.mz_logic_theory.proofs.Offered.{ranges_of_fits, many_of_fits}
use Rattle.mz_logic.proofs.disjoint.are_disjoint_by_pairs.Goals.{else-params-j-via-then-params-j+else-not-are_disjoint_from, else-params-j-via-else-params-j}
use Rattle.mz_logic.proofs.disjoint.are_disjoint_by_pairs.Goals as goal

pub are_disjoint_from-requires-clause-there : goal.are_disjoint_from-requires-clause-there
are_disjoint_from-requires-clause-there c = ranges_of_fits (signatures c.args.env.now) c.args.ctx.now c.args.es.now c.args.params.now c.requires

pub are_disjoint_from-requires-clause-many : goal.are_disjoint_from-requires-clause-many
are_disjoint_from-requires-clause-many c = many_of_fits (signatures c.args.env.now) c.args.ctx.now c.args.es.now c.args.params.now c.requires

pub returns-then-not-are_disjoint_from : goal.returns-then-not-are_disjoint_from
returns-then-not-are_disjoint_from c = (
  λ never. absurd (true≢false (sym never)),
  λ h. absurd (true≢false (sym (c.are_disjoint_from.ensures.1 (λ i. h i c.loop-j.j)) ∙ c.if-not-are_disjoint_from.true)),
)

pub loop-j-preserved : goal.loop-j-preserved
loop-j-preserved c =
    each_before_more (λ k. (i : ℕ) → AreDisjointAt c.args.ctx.now c.args.es.now c.args.params.now i k) c.loop-j.j c.loop-j.invariant
    (elim c.else-params-j.branch [
      | else-params-j-via-then-params-j+else-not-are_disjoint_from w ↦ w.are_disjoint_from.ensures.0 w.if-not-are_disjoint_from.false
      | else-params-j-via-else-params-j w ↦ λ i x p q at_i at_j bound.
          let is = get_or_from_slice_get c.args.params.now c.loop-j.j _ _ at_j in
          absurd (true≢false (sym bound ∙ ap (λ (b : Binder). b.bound) (sym is) ∙ w.if-params-j.false))
    ])

pub returns : goal.returns
returns c = (
  λ _ i j x p q at_i at_j.
      let within : j < length c.args.params.now = slice_get_within c.args.params.now j q at_j in
      c.loop-j.invariant j (omega (arith, within, c.loop-j-test.false)) i x p q at_i at_j,
  λ _. refl,
)
