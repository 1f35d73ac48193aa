use Rattle.mz_pmachine_theory.proofs.ByTable.{bodies-strict, rows-strict, streams-strict}
use Rattle.mz_pmachine_theory.proofs.laws.portable_runs_are_strict_runs.Goals as goal

pub returns : goal.returns
returns c = record { bodies = bodies-strict; rows = rows-strict; streams = streams-strict }
