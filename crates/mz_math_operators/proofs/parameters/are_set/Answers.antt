use Rattle.std.proofs.Common.{◌≡◌, ◌∙◌, sym, true, false, get_or, refl, arith, below_more}
use Rattle.std.proofs.lemmas.Bool.{true≢false, false≢true}
use Rattle.mz_math_operators.proofs.parameters.are_set.Goals as goal

pub loop-i-preserved : goal.loop-i-preserved
loop-i-preserved c = below_more (λ i. get_or c.args.marks.now i false ≡ true) c.loop-i.i c.loop-i.invariant c.if-not-marks-i.false

pub returns-then-not-marks-i : goal.returns-then-not-marks-i
returns-then-not-marks-i c = (λ f. absurd (false≢true f), λ all. absurd (true≢false (sym (all c.loop-i.i c.loop-i-test.true) ∙ c.if-not-marks-i.true)))

pub returns : goal.returns
returns c = (λ t i below. c.loop-i.invariant i (omega (arith, below, c.loop-i-test.false)), λ all. refl)
