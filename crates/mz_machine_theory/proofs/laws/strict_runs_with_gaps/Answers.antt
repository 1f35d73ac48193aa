use Rattle.mz_machine_theory.proofs.StrictRuns.{strict-runs}
use Rattle.mz_machine_theory.proofs.laws.strict_runs_with_gaps.Goals as goal

pub returns : goal.returns
returns c = strict-runs
