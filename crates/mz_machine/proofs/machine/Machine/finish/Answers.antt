use Rattle.std.proofs.Common.{◌≡◌, ◌+◌, ◌≤◌, length, subst}
use Rattle.mz_machine.specs.Steps.{Underway, heading_for, tables_for, end_steps}
use Rattle.mz_machine.specs.Stepping.{IsFinished, UnlessEndMem}
use Rattle.mz_machine.proofs.machine.Machine.finish.Goals as goal

pub returns-clause-run : goal.returns-clause-run
returns-clause-run g c = subst (λ (u : Underway). IsFinished u c.finish.result) c.self.view_is c.finish.ensures.run

pub returns-clause-steps : goal.returns-clause-steps
returns-clause-steps g c = subst (λ (u : Underway). UnlessEndMem c.finish.result (c.finish.new.steps ≡ c.args.steps.now + end_steps u.gaps (tables_for u) (heading_for u) u.state)) c.self.view_is c.finish.ensures.steps

pub returns-clause-most : goal.returns-clause-most
returns-clause-most g c = subst (λ (u : Underway). c.finish.new.steps ≤ c.args.steps.now + (1 + length u.file)) c.self.view_is c.finish.ensures.most
