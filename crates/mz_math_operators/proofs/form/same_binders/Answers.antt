use Rattle.std.proofs.Common.{length, ap, refl, arith}
use Rattle.mz_math_operators.proofs.Pairwise.{same-list}
use Rattle.mz_math_operators.proofs.form.same_binders.Goals as goal

pub returns : goal.returns
returns c =
    let many = ap length c.as_slice-left.ensures in (
      λ _. same-list c.args.xs.now c.args.ys.now c.loop-i.invariant.1 (λ k below. c.loop-i.invariant.0 k (omega (arith, below, many, c.loop-i.auto.i-end, c.loop-i-test.false))),
      λ _. refl,
    )
