use Rattle.std.proofs.Common.{◌∙◌, ap}
use Rattle.mz_machine_env.specs.OwnRow.{mode_for}
use Rattle.mz_machine_env.proofs.Offered.{kind-byte}
use Rattle.mz_machine.specs.declared.machine.Parts.{Parts}
use Rattle.mz_machine.proofs.Advancing.{keeps, stepped, counted}
use Rattle.mz_machine.proofs.machine.Setting.advance.Goals as goal

pub proceed-requires-clause-told : goal.proceed-requires-clause-told
proceed-requires-clause-told g c = c.requires.running.0.mode ∙ ap mode_for (kind-byte c.args.self.now.kind)

pub returns-clause-running : goal.returns-clause-running
returns-clause-running g c =
    let after : Parts = record { store = c.proceed.new.store; heap = c.proceed.new.heap; stack = c.proceed.new.stack; equations = c.proceed.new.equations; hyps = c.proceed.new.hyps; sorry = c.note_gap.new.sorry; spare = c.proceed.new.spare } in
    keeps c.args.self.now c.args.parts.now after c.args.cmd c.proceed.result c.requires.running c.proceed.ensures.done

pub returns-clause-row : goal.returns-clause-row
returns-clause-row g c at =
    let after : Parts = record { store = c.proceed.new.store; heap = c.proceed.new.heap; stack = c.proceed.new.stack; equations = c.proceed.new.equations; hyps = c.proceed.new.hyps; sorry = c.note_gap.new.sorry; spare = c.proceed.new.spare } in
    stepped c.args.self.now c.args.parts.now after c.args.cmd at c.proceed.result c.proceed.ensures.done c.note_gap.ensures

pub returns-clause-steps : goal.returns-clause-steps
returns-clause-steps g c = counted c.args.self.now c.args.parts.now c.args.parts.now c.args.cmd c.proceed.result c.args.steps.now c.proceed.new.steps c.proceed.ensures.steps.0

pub proceed-requires-clause-settled : goal.proceed-requires-clause-settled
proceed-requires-clause-settled g c = c.requires.running.2

pub proceed-requires-clause-ready : goal.proceed-requires-clause-ready
proceed-requires-clause-ready g c = record { over = c.requires.running.0.over; heap_in = c.requires.running.0.heap_in; stack_in = c.requires.running.0.stack_in }

pub proceed-requires-clause-hyps : goal.proceed-requires-clause-hyps
proceed-requires-clause-hyps g c = (c.requires.running.0.hyps_in, c.requires.running.0.few_hyps)

pub returns-clause-most : goal.returns-clause-most
returns-clause-most g c = c.proceed.ensures.steps.1
