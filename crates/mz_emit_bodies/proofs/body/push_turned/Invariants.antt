use Rattle.std.proofs.Common.{◌≡◌, ◌++◌, map, reverse}
use Rattle.mz_emit_bodies.specs.TaskInvariant.{to_do}
use Rattle.mz_emit_bodies.specs.Pushing.{pushes}
use Rattle.mz_emit_bodies.proofs.body.push_turned.Given as goal

abbrev pub invariant-loop-id : goal.invariant-loop-id
invariant-loop-id l = to_do l.tasks.items ≡ pushes (reverse (map (λ e. e.now) l.yielded)) ++ to_do l.initial.tasks.items
