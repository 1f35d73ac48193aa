use Rattle.std.proofs.Common.{sym, ap}
use Rattle.mz_pmachine_unify.specs.Numbering.{head_of}
use Rattle.mz_pmachine_unify.proofs.Reading.{form-at}
use Rattle.mz_pmachine_unify.proofs.nodes.Nodes.head.Goals as goal

pub returns-in-Variable : goal.returns-in-Variable
returns-in-Variable c =
    let own = c.self.inside in
    let form = form-at own.mode own.bound_count own.operands.items own.nodes.items c.args.self.now c.self.invariant c.self.view_is c.args.id.0 c.index.result.now c.requires c.index.ensures _ c.in-Variable.is in
    sym (ap head_of form.2)

pub returns-in-Application : goal.returns-in-Application
returns-in-Application c =
    let own = c.self.inside in
    let form = form-at own.mode own.bound_count own.operands.items own.nodes.items c.args.self.now c.self.invariant c.self.view_is c.args.id.0 c.index.result.now c.requires c.index.ensures _ c.in-Application.is in
    sym (ap head_of form.1)
