use Rattle.std.proofs.Common.{refl}
use Rattle.mz_spec_rules.proofs.state.State.is_dummy_sort.Goals as goal

pub returns-then-is_of : goal.returns-then-is_of
returns-then-is_of c = λ last. (λ yes. let (g, own, same) = c.is_of.ensures.0 c.if-is_of.true in last g own same, λ all. refl)
