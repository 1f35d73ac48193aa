use Rattle.std.proofs.Common.{◌≡◌, ◌<◌, [], true, refl, arith}
use Rattle.mz_logic_theory.specs.declared.binder.Binder.{Binder}
use Rattle.mz_logic_theory.proofs.Offered.{all_at_end}
use Rattle.mz_logic.proofs.apart.all_stand_alone.Goals as goal

pub loop-param-init : goal.loop-param-init
loop-param-init c = λ k d below. absurd (let e : k < 0 = below in omega (arith, e))

pub returns : goal.returns
returns c = (λ _. all_at_end (λ (p : Binder). p.bound ≡ true → p.deps ≡ []) c.args.params.now c.args.params.now c.loop-param.param-index c.loop-param.invariant c.loop-param-test.false refl, λ _. refl)
