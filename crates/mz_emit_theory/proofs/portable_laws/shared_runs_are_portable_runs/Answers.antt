use Rattle.mz_emit_theory.proofs.SharedRuns.{shared-runs}
use Rattle.mz_emit_theory.proofs.portable_laws.shared_runs_are_portable_runs.Goals as goal

pub returns : goal.returns
returns c = shared-runs
