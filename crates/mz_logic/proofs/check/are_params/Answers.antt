use Rattle.std.proofs.Common.{subst, IsTrue, ◌↔◌}
use Rattle.mz_logic_theory.specs.Declaration.{sorts}
use Rattle.mz_logic_theory.specs.Legality.{AreParams}
use Rattle.mz_logic.proofs.check.are_params.Goals as goal

pub returns : goal.returns
returns c =
    subst (λ ps. IsTrue c.params_are_right.result ↔ AreParams (sorts c.args.env.now) ps) c.as_slice.ensures c.params_are_right.ensures
