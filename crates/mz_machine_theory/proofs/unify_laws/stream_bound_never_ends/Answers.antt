use Rattle.mz_machine_theory.specs.Profile.{plain}
use Rattle.mz_machine_theory.proofs.UnifyRuns.{stream-bound-never-ends, stream-count-is-whole}
use Rattle.mz_machine_theory.proofs.unify_laws.stream_bound_never_ends.Goals as goal

pub returns : goal.returns
returns c = record { runs = λ gaps. stream-bound-never-ends (plain gaps); steps = λ gaps. stream-count-is-whole (plain gaps) }
