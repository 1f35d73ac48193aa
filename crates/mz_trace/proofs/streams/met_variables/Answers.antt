use Rattle.std.proofs.Common.{◌∙◌, ◌++◌, ◌∷◌, [], arith, sym, ap}
use Rattle.mz_machine_theory.proofs.Offered.{further}
use Rattle.mz_trace.proofs.StreamsMet.{none-met, reads-on, all-met, may-go-on, more-met}
use Rattle.mz_trace.proofs.streams.met_variables.Goals as goal

pub commands-init : goal.commands-init
commands-init g c = record {
  in_range = omega arith;
  ticked = omega arith;
  met = none-met c.args.nodes.now c.args.stream.now c.args.target c.push.new.self.items c.new-met.result.items
      (c.in_ok-push.ensures.items ∙ ap (λ ns. ns ++ c.args.target ∷ []) c.new-targets.ensures.items) c.new-met.ensures.items;
}

pub unreachable-requires : goal.unreachable-requires
unreachable-requires g c =
    reads-on c.args.nodes.now c.args.stream.now c.args.target c.commands.at c.commands.targets.items c.commands.met.items c.commands.invariant.met
    c.requires.runs c.in_default.field-0 (sym c.cmd_at.ensures.computed ∙ c.in_default.is)

pub returns-in_default-try_from-clause-met : goal.returns-in_default-try_from-clause-met
returns-in_default-try_from-clause-met g c =
    all-met c.args.nodes.now c.args.stream.now c.args.target c.commands.at c.commands.targets.items c.commands.met.items c.commands.invariant.met
    c.in-Ok.cmd (sym c.cmd_at.ensures.computed ∙ c.in-Ok.is) c.in_default-try_from.ensures.0

pub take_apart-requires : goal.take_apart-requires
take_apart-requires g c =
    may-go-on c.args.nodes.now c.args.stream.now c.args.target c.commands.at c.commands.targets.items c.commands.met.items c.commands.invariant.met
    c.in-Ok.cmd (sym c.cmd_at.ensures.computed ∙ c.in-Ok.is) c.in-Ok-try_from.code c.in-Ok-try_from.ensures c.requires.runs

pub overflow_add-at : goal.overflow_add-at
overflow_add-at g c =
    let within = further c.args.stream.now c.commands.at c.in-Ok.cmd (sym c.cmd_at.ensures.computed ∙ c.in-Ok.is) c.commands.invariant.in_range in
    omega (arith, within.1, c.from-at.ensures, c.requires.fits)

pub commands-smaller : goal.commands-smaller
commands-smaller g c =
    let within = further c.args.stream.now c.commands.at c.in-Ok.cmd (sym c.cmd_at.ensures.computed ∙ c.in-Ok.is) c.commands.invariant.in_range in
    omega (arith, within.0, within.1, c.from-at.ensures)

pub commands-preserved : goal.commands-preserved
commands-preserved g c =
    let read = sym c.cmd_at.ensures.computed ∙ c.in-Ok.is in
    let within = further c.args.stream.now c.commands.at c.in-Ok.cmd read c.commands.invariant.in_range in
    record {
      in_range = omega (arith, within.1, c.from-at.ensures);
      ticked = omega (arith, within.0, c.from-at.ensures, c.tick.ensures, c.commands.invariant.ticked);
      met = rw c.from-at.ensures (more-met c.args.nodes.now c.args.stream.now c.args.target c.commands.at c.commands.targets.items c.commands.met.items c.commands.invariant.met
          c.in-Ok.cmd read c.in-Ok-try_from.code c.in-Ok-try_from.ensures c.take_apart.new.targets.items c.take_apart.new.met.items c.in_ok-take_apart.ensures);
    }
