use Rattle.std.proofs.Common.{refl}
use Rattle.mz_logic_theory.specs.Declaration.{sorts}
use Rattle.mz_logic_theory.specs.Legality.{IsParam}
use Rattle.mz_logic_theory.proofs.Offered.{each_so_far_more, each_at_end}
use Rattle.mz_logic.proofs.check.params_are_right.Goals as goal

pub loop-i-preserved : goal.loop-i-preserved
loop-i-preserved c =
    each_so_far_more (IsParam (sorts c.args.env.now) c.args.params.now) c.args.params.now _ _ c.loop-i.invariant c.loop-i-test.true c.index-params-i.is (c.if-not-is_param.ensures.0 refl)

pub returns : goal.returns
returns c = (λ _. each_at_end (IsParam (sorts c.args.env.now) c.args.params.now) c.args.params.now _ c.loop-i.invariant c.loop-i-test.false, λ _. refl)
