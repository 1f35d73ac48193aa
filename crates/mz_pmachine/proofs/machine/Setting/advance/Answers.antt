use Rattle.mz_pmachine.specs.declared.machine.Parts.{Parts}
use Rattle.mz_pmachine.proofs.Advancing.{keeps, stepped, counted}
use Rattle.mz_pmachine.proofs.machine.Setting.advance.Goals as goal

pub returns-clause-running : goal.returns-clause-running
returns-clause-running g c =
    let after : Parts = record { nodes = c.obey.new.nodes; heap = c.obey.new.heap; stack = c.obey.new.stack; equations = c.obey.new.equations; hyps = c.obey.new.hyps; spare = c.obey.new.spare } in
    keeps c.args.self.now c.args.parts.now after c.args.cmd c.args.at c.obey.result c.requires.running c.obey.ensures.done

pub returns-clause-row : goal.returns-clause-row
returns-clause-row g c =
    let after : Parts = record { nodes = c.obey.new.nodes; heap = c.obey.new.heap; stack = c.obey.new.stack; equations = c.obey.new.equations; hyps = c.obey.new.hyps; spare = c.obey.new.spare } in
    stepped c.args.self.now c.args.parts.now after c.args.cmd c.args.at c.obey.result c.obey.ensures.done

pub returns-clause-steps : goal.returns-clause-steps
returns-clause-steps g c = counted c.args.self.now c.args.parts.now c.args.parts.now c.args.cmd c.obey.result c.args.steps.now c.obey.new.steps c.obey.ensures.steps

pub obey-requires-clause-settled : goal.obey-requires-clause-settled
obey-requires-clause-settled g c = c.requires.running.2
