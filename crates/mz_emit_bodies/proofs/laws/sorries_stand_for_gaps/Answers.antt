use Rattle.mz_emit_bodies.proofs.GapsCounted.{sorries_stand}
use Rattle.mz_emit_bodies.proofs.laws.sorries_stand_for_gaps.Goals as goal

pub returns : goal.returns
returns c = sorries_stand
