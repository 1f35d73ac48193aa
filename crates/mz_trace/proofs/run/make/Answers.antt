use Rattle.std.proofs.Common.{◌∙◌, ◌+◌, ◌≤◌, length, arith, sym}
use Rattle.mz_machine_theory.proofs.Offered.{further, more-steps, within-steps}
use Rattle.mz_trace.specs.Commands.{stage_of}
use Rattle.mz_trace.proofs.Bodies.{goes-over, goes-further, ends-there, reads-on}
use Rattle.mz_trace.proofs.run.make.Goals as goal

pub unreachable-requires : goal.unreachable-requires
unreachable-requires g c =
    let s = stage_of c.commands.making in
    reads-on c.args.mmb.now c.args.bytes.now (stage_of c.args.start) c.requires.runs c.commands.at s c.commands.invariant.underway c.in_default.field-0 (sym c.cmd_at.ensures.computed ∙ c.in_default.is)

pub returns-in_default-try_from-clause-leads : goal.returns-in_default-try_from-clause-leads
returns-in_default-try_from-clause-leads g c =
    let s = stage_of c.commands.making in
    ends-there c.args.mmb.now c.args.bytes.now (stage_of c.args.start) c.commands.at s c.commands.invariant.underway c.in-Ok.cmd (sym c.cmd_at.ensures.computed ∙ c.in-Ok.is) c.in_default-try_from.ensures.0

pub step-requires : goal.step-requires
step-requires g c =
    let s = stage_of c.commands.making in
    goes-over c.args.mmb.now c.args.bytes.now (stage_of c.args.start) c.commands.at s c.commands.invariant.underway c.in-Ok.cmd (sym c.cmd_at.ensures.computed ∙ c.in-Ok.is)
    c.in-Ok-try_from.code c.in-Ok-try_from.ensures c.requires.runs

pub returns-in_err-step-clause-most : goal.returns-in_err-step-clause-most
returns-in_err-step-clause-most g c =
    let within = further c.args.bytes.now c.commands.at c.in-Ok.cmd (sym c.cmd_at.ensures.computed ∙ c.in-Ok.is) c.commands.invariant.in_range in
    let most : c.step.new.steps ≤ c.commands.steps + (1 + length c.args.mmb.now) = omega (arith, c.step.ensures.most, c.tick.ensures) in
    within-steps c.args.steps.now c.step.new.steps (c.commands.at + c.in-Ok.cmd.len) (length c.args.bytes.now) (length c.args.mmb.now)
    (more-steps c.args.steps.now c.commands.steps c.step.new.steps c.commands.at c.in-Ok.cmd.len (length c.args.mmb.now) c.commands.invariant.most most within.0) within.1

pub overflow_add-at : goal.overflow_add-at
overflow_add-at g c =
    let within = further c.args.bytes.now c.commands.at c.in-Ok.cmd (sym c.cmd_at.ensures.computed ∙ c.in-Ok.is) c.commands.invariant.in_range in
    omega (arith, within.1, c.from-at.ensures, c.requires.fits)

pub commands-smaller : goal.commands-smaller
commands-smaller g c =
    let within = further c.args.bytes.now c.commands.at c.in-Ok.cmd (sym c.cmd_at.ensures.computed ∙ c.in-Ok.is) c.commands.invariant.in_range in
    omega (arith, within.0, within.1, c.from-at.ensures)

pub commands-preserved : goal.commands-preserved
commands-preserved g c =
    let s = stage_of c.commands.making in
    let read = sym c.cmd_at.ensures.computed ∙ c.in-Ok.is in
    let within = further c.args.bytes.now c.commands.at c.in-Ok.cmd read c.commands.invariant.in_range in
    let more : c.step.new.steps ≤ c.commands.steps + (1 + length c.args.mmb.now) = omega (arith, c.step.ensures.most, c.tick.ensures) in
    record {
      in_range = omega (arith, within.1, c.from-at.ensures);
      underway = rw c.from-at.ensures (goes-further c.args.mmb.now c.args.bytes.now (stage_of c.args.start) c.commands.at s c.commands.invariant.underway c.in-Ok.cmd read
          c.in-Ok-try_from.code (stage_of c.step.new.self) c.in-Ok-try_from.ensures c.in_ok-step.ensures.leads);
      most = rw c.from-at.ensures (more-steps c.args.steps.now c.commands.steps c.step.new.steps c.commands.at c.in-Ok.cmd.len (length c.args.mmb.now) c.commands.invariant.most more within.0);
    }
