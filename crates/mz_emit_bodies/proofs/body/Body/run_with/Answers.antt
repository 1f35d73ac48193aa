use Rattle.std.proofs.Common.{◌<◌, [], refl, sym, ap, ◌∙◌, subst}
use Rattle.mz_emit_bodies.specs.TaskInvariant.{left}
use Rattle.mz_emit_bodies.specs.Sight.{parts}
use Rattle.mz_emit_bodies.specs.Instances.{AreInstances}
use Rattle.mz_emit_bodies.specs.declared.body.Before.{Before}
use Rattle.mz_emit_bodies.specs.Going.{IsAfter, steps_left}
use Rattle.mz_emit_bodies.proofs.Moves.{at_last, popped}
use Rattle.mz_emit_bodies.proofs.body.Body.run_with.Goals as goal

pub loop-task-init : goal.loop-task-init
loop-task-init c = (refl, (λ o d. d), c.requires.instances)

pub step-requires-clause-before : goal.step-requires-clause-before
step-requires-clause-before c = subst IsAfter (sym c.loop-task.invariant.0) c.requires.before

pub step-requires-clause-can : goal.step-requires-clause-can
step-requires-clause-can c = (
  c.requires.can.0,
  at_last _ _ _ _ _ _ _ _ _ _ _ (sym (popped c.loop-task.self.tasks.items c.pop.new.self.items c.in-Some.task c.in-Some.ensures.items)) (c.loop-task.invariant.1 c.requires.can.0 c.requires.can.1),
)

pub loop-task-smaller : goal.loop-task-smaller
loop-task-smaller c =
    let a = ap (left c.loop-task.self.before.env.now c.loop-task.self.shared.store (parts c.loop-task.self.cells.cells.items)) (popped c.loop-task.self.tasks.items c.pop.new.self.items c.in-Some.task c.in-Some.ensures.items) in
    subst (λ n. steps_left c.step.new.self [] < n) (sym a) c.in_ok-step.ensures.less

pub loop-task-preserved : goal.loop-task-preserved
loop-task-preserved c = (
  c.in_ok-step.ensures.same ∙ c.loop-task.invariant.0,
  (λ o d. c.in_ok-step.ensures.does o
      (at_last _ _ _ _ _ _ _ _ _ _ _ (sym (popped c.loop-task.self.tasks.items c.pop.new.self.items c.in-Some.task c.in-Some.ensures.items)) (c.loop-task.invariant.1 o d))),
  subst (λ (b : Before). AreInstances b.env.now c.step.new.self.shared.store c.step.new.instances.items.items) c.loop-task.invariant.0 c.in_ok-step.ensures.instances,
)

pub step-requires-clause-instances : goal.step-requires-clause-instances
step-requires-clause-instances c = subst (λ (b : Before). AreInstances b.env.now c.loop-task.self.shared.store c.loop-task.instances.items.items) (sym c.loop-task.invariant.0) c.loop-task.invariant.2
