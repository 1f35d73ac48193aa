use Rattle.std.proofs.Common.{refl}
use Rattle.mz_spec_rules.proofs.state.State.is_binder.Goals as goal

pub returns-then-is_alike : goal.returns-then-is_alike
returns-then-is_alike c = (λ yes. let ((g, own, same), bound) = c.is_alike.ensures c.if-is_alike.true in c.requires.last g own same bound, λ all. refl)
