use Rattle.std.proofs.Common.{◌∙◌, arith, sym}
use Rattle.mz_machine_theory.proofs.Offered.{further}
use Rattle.mz_trace.proofs.StreamsHyps.{none-taken, reads-on, all-taken, more-taken, few-taken}
use Rattle.mz_trace.proofs.streams.hypotheses.Goals as goal

pub commands-init : goal.commands-init
commands-init g c = record { in_range = omega arith; few = omega arith; ticked = omega arith; taken = none-taken c.args.stream.now }

pub unreachable-requires : goal.unreachable-requires
unreachable-requires g c = reads-on c.args.stream.now c.commands.at c.commands.count c.commands.invariant.taken c.requires.runs c.in_default.field-0 (sym c.cmd_at.ensures.computed ∙ c.in_default.is)

pub returns-in_default-try_from-clause-takes : goal.returns-in_default-try_from-clause-takes
returns-in_default-try_from-clause-takes g c =
    all-taken c.args.stream.now c.commands.at c.commands.count c.commands.invariant.taken c.in-Ok.cmd (sym c.cmd_at.ensures.computed ∙ c.in-Ok.is) c.in_default-try_from.ensures.0

pub overflow_add-count : goal.overflow_add-count
overflow_add-count g c =
    let within = further c.args.stream.now c.commands.at c.in-Ok.cmd (sym c.cmd_at.ensures.computed ∙ c.in-Ok.is) c.commands.invariant.in_range in
    omega (arith, within.0, within.1, few-taken c.in-Ok-try_from.code, c.taken_by-count.ensures, c.commands.invariant.few, c.requires.fits)

pub overflow_add-at : goal.overflow_add-at
overflow_add-at g c =
    let within = further c.args.stream.now c.commands.at c.in-Ok.cmd (sym c.cmd_at.ensures.computed ∙ c.in-Ok.is) c.commands.invariant.in_range in
    omega (arith, within.1, c.from-at.ensures, c.requires.fits)

pub commands-smaller : goal.commands-smaller
commands-smaller g c =
    let within = further c.args.stream.now c.commands.at c.in-Ok.cmd (sym c.cmd_at.ensures.computed ∙ c.in-Ok.is) c.commands.invariant.in_range in
    omega (arith, within.0, within.1, c.from-at.ensures)

pub commands-preserved : goal.commands-preserved
commands-preserved g c =
    let read = sym c.cmd_at.ensures.computed ∙ c.in-Ok.is in
    let within = further c.args.stream.now c.commands.at c.in-Ok.cmd read c.commands.invariant.in_range in
    record {
      in_range = omega (arith, within.1, c.from-at.ensures);
      few = omega (arith, within.0, few-taken c.in-Ok-try_from.code, c.taken_by-count.ensures, c.from-at.ensures, c.commands.invariant.few);
      ticked = omega (arith, within.0, c.from-at.ensures, c.tick.ensures, c.commands.invariant.ticked);
      taken = rw (c.from-at.ensures, c.taken_by-count.ensures) (more-taken c.args.stream.now c.commands.at c.commands.count c.commands.invariant.taken
          c.in-Ok.cmd read c.in-Ok-try_from.code c.in-Ok-try_from.ensures);
    }
