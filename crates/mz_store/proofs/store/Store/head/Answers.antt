use Rattle.std.proofs.Common.{sym, ap}
use Rattle.mz_store.specs.Sharing.{head_of}
use Rattle.mz_store.proofs.Adding.{form-at}
use Rattle.mz_store.proofs.store.Store.head.Goals as goal

pub returns-in-Variable : goal.returns-in-Variable
returns-in-Variable c = sym (ap head_of (form-at c.self.inside.expressions c.args.self.now c.self.invariant.0 c.self.view_is c.args.id.0 c.index.result.now c.requires c.index.ensures _ c.in-Variable.is).2)

pub returns-in-Application : goal.returns-in-Application
returns-in-Application c = sym (ap head_of (form-at c.self.inside.expressions c.args.self.now c.self.invariant.0 c.self.view_is c.args.id.0 c.index.result.now c.requires c.index.ensures _ c.in-Application.is).1)
