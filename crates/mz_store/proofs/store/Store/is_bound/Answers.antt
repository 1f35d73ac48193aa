use Rattle.mz_store.proofs.Adding.{form-at, bound-variable, bound-term}
use Rattle.mz_store.proofs.store.Store.is_bound.Goals as goal

pub returns-in-Variable : goal.returns-in-Variable
returns-in-Variable c = bound-variable c.args.self.now c.args.id.0 _ (form-at c.self.inside.expressions c.args.self.now c.self.invariant.0 c.self.view_is c.args.id.0 c.index.result.now c.requires c.index.ensures _ c.in-Variable.is)

pub returns-in-Application : goal.returns-in-Application
returns-in-Application c = bound-term c.args.self.now c.args.id.0 _ _ (form-at c.self.inside.expressions c.args.self.now c.self.invariant.0 c.self.view_is c.args.id.0 c.index.result.now c.requires c.index.ensures _ c.in-Application.is)
