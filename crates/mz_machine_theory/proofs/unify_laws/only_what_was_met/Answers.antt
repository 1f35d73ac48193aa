use Rattle.std.proofs.Common.{length, ◌+◌}
use Rattle.mz_machine_theory.proofs.Below.{text-met, below-occurs}
use Rattle.mz_machine_theory.proofs.unify_laws.only_what_was_met.Goals as goal

pub returns : goal.returns
returns c = λ kind sigs params stream hyps e dummies text y occurs.
    below-occurs (length params + length dummies) e (text-met kind sigs params stream hyps e dummies text).0 y occurs
