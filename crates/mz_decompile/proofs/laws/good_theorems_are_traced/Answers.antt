use Rattle.mz_decompile.proofs.Bridging.{good-theorems-stand}
use Rattle.mz_decompile.proofs.laws.good_theorems_are_traced.Goals as goal

pub returns : goal.returns
returns c = good-theorems-stand c.bodies_make_proofs.ensures.one
