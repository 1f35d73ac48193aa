use Rattle.mz_emit_theory.proofs.Forgetting.{building-spells}
use Rattle.mz_emit_theory.proofs.OneBuilding.{spelling-builds, one-building}
use Rattle.mz_emit_theory.proofs.stream_laws.streams_build.Goals as goal

pub returns : goal.returns
returns c = record { building = building-spells; spelling = spelling-builds; one = one-building }
