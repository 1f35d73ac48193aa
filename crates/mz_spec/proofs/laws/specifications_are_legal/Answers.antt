use Rattle.mz_spec_theory.proofs.Offered.{declares-legally}
use Rattle.mz_spec.proofs.laws.specifications_are_legal.Goals as goal

pub returns : goal.returns
returns c = declares-legally
