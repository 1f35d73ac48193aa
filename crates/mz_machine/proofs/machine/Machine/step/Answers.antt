use Rattle.std.proofs.Common.{◌≡◌, ◌+◌, ◌≤◌, length, subst}
use Rattle.mz_machine.specs.Running.{machine_of}
use Rattle.mz_machine.specs.Steps.{Underway, heading_for, steps_for, tables_for}
use Rattle.mz_machine.specs.Stepping.{IsStepped, UnlessMem, stepped_to}
use Rattle.mz_machine.proofs.Advancing.{stepped-unless}
use Rattle.mz_machine.proofs.machine.Machine.step.Goals as goal

pub advance-answer-requires-clause-running : goal.advance-answer-requires-clause-running
advance-answer-requires-clause-running g c = c.self.invariant

pub answered-requires : goal.answered-requires
answered-requires g c = c.advance-answer.ensures.running

pub returns-clause-row : goal.returns-clause-row
returns-clause-row g c at =
    let after = stepped_to (machine_of c.self.inside.setting c.advance-answer.new.parts) c.advance-answer.result in
    rw c.answered.ensures (subst (λ (u : Underway). IsStepped u c.args.cmd at after) c.self.view_is (c.advance-answer.ensures.row at))

pub returns-clause-steps : goal.returns-clause-steps
returns-clause-steps g c =
    let t = c.self.inside.setting in
    let after = machine_of t c.advance-answer.new.parts in
    let counted : Underway → Type 0 = λ (u : Underway). c.advance-answer.new.steps ≡ c.args.steps.now + steps_for u.gaps (tables_for u) (heading_for u) u.state c.args.cmd in
    let told = stepped-unless after (counted (machine_of t c.self.inside.parts)) c.advance-answer.result c.advance-answer.ensures.steps in
    rw c.answered.ensures (subst (λ (u : Underway). UnlessMem (stepped_to after c.advance-answer.result) (counted u)) c.self.view_is told)

pub returns-clause-most : goal.returns-clause-most
returns-clause-most g c = subst (λ (u : Underway). c.advance-answer.new.steps ≤ c.args.steps.now + (1 + length u.file)) c.self.view_is c.advance-answer.ensures.most
