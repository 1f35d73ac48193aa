use Rattle.std.proofs.Common.{◌≡◌, []}
use Rattle.mz_emit_bodies.specs.Instances.{AreInstances}
use Rattle.mz_emit_bodies.specs.Going.{Job, Does, steps_left}
use Rattle.mz_emit_bodies.proofs.body.Body.run_with.Given as goal

abbrev pub invariant-loop-task : goal.invariant-loop-task
invariant-loop-task l = (l.self.before ≡ l.initial.self.before) × ((o : Job) → Does o l.initial.self [] → Does o l.self [])
    × AreInstances l.initial.self.before.env.now l.self.shared.store l.instances.items.items

abbrev pub decreases-loop-task : goal.decreases-loop-task
decreases-loop-task l = steps_left l.self []
