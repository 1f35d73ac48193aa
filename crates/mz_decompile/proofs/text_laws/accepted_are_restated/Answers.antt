use Rattle.mz_spec_theory.proofs.Offered.{one-reading}
use Rattle.mz_binary_theory.proofs.Offered.{one-list, good-spelled}
use Rattle.mz_decompile.proofs.Restating.{accepted-restated}
use Rattle.mz_decompile.proofs.Alike.{restated-alike}
use Rattle.mz_decompile.proofs.text_laws.accepted_are_restated.Goals as goal

pub returns-clause-some : goal.returns-clause-some
returns-clause-some c = accepted-restated c.bodies_make_proofs.ensures.some

pub returns-clause-alike : goal.returns-clause-alike
returns-clause-alike c = restated-alike c.bodies_make_proofs.ensures.one one-reading one-list good-spelled
