use Rattle.std.proofs.Common.{◌≡◌, take}
use Rattle.mz_emit_bodies.specs.Going.{Job}
use Rattle.mz_emit_bodies.specs.Stages.{AssumesAll, with_hyps, Rests}
use Rattle.mz_emit_bodies.proofs.body.Body.put_hyps.Given as goal

abbrev pub invariant-loop-id : goal.invariant-loop-id
invariant-loop-id l = (l.self.before ≡ l.initial.self.before) × ((o : Job) → AssumesAll o l.initial.self l.ids → Rests (with_hyps o l.id-index (take l.id-index l.ids)) l.self)
