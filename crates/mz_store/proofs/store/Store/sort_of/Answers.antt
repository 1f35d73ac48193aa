use Rattle.std.proofs.Common.{sym, subst}
use Rattle.mz_logic_theory.specs.Sorts.{HasSort}
use Rattle.mz_store.specs.Sharing.{tree_of}
use Rattle.mz_store.proofs.Adding.{shows-at}
use Rattle.mz_store.proofs.store.Store.sort_of.Goals as goal

pub returns-clause-kept : goal.returns-clause-kept
returns-clause-kept c = sym (shows-at c.self.inside.expressions c.args.self.now c.self.invariant.0 c.self.view_is c.args.id.0 c.index.result.now c.requires c.index.ensures).sort

pub returns-clause-sort : goal.returns-clause-sort
returns-clause-sort c sigs over =
    subst (HasSort sigs c.args.self.now.context (tree_of c.args.self.now c.args.id.0)) (shows-at c.self.inside.expressions c.args.self.now c.self.invariant.0 c.self.view_is c.args.id.0 c.index.result.now c.requires c.index.ensures).sort (over c.args.id.0 c.requires).0
