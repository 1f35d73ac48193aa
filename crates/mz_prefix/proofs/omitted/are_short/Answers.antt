use Rattle.std.proofs.Common.{◌≡◌, ◌∙◌, true, false, refl, sym, subst, arith}
use Rattle.mz_logic_theory.specs.Groups.{Repeats}
use Rattle.mz_logic_theory.proofs.Offered.{at-end}
use Rattle.mz_prefix.specs.NamedDeclarations.{AreShort}
use Rattle.mz_prefix.proofs.Measuring.{short-is, is-short}
use Rattle.mz_prefix.proofs.Shared.{short_repeated}
use Rattle.mz_prefix.proofs.omitted.are_short.Goals as goal

pub loop-i-init : goal.loop-i-init
loop-i-init c = λ v. short_repeated v c.borrowed-formulas.result c.args.hyps.now (subst (λ es. Repeats es c.args.hyps.now) (sym c.borrowed-formulas.ensures) c.formulas.ensures)

pub returns-then-not-is_short : goal.returns-then-not-is_short
returns-then-not-is_short c = λ v. (
  λ is. absurd (let h : false ≡ true = is in cc),
  λ all. sym c.if-not-is_short.true ∙ c.is_short.ensures v ∙ is-short v c.at.result (subst (AreShort v) c.at.ensures.left ((c.loop-i.invariant v).1 all)).0,
)

pub loop-i-preserved : goal.loop-i-preserved
loop-i-preserved c = λ v.
    let short = short-is v c.at.result (sym (c.is_short.ensures v) ∙ c.if-not-is_short.false) in (
      λ rest. (c.loop-i.invariant v).0 (subst (AreShort v) (sym c.at.ensures.left) (short, rest)),
      λ all. (subst (AreShort v) c.at.ensures.left ((c.loop-i.invariant v).1 all)).1,
    )

pub returns : goal.returns
returns c = λ v. (
  λ _. (c.loop-i.invariant v).0 (at-end (AreShort v) c.borrowed-formulas.result c.loop-i.i (omega (arith, c.len-i-end.ensures, c.loop-i-test.false)) tt),
  λ _. refl,
)
