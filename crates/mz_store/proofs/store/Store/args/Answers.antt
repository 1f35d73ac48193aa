use Rattle.std.proofs.Common.{List, sym, ◌∙◌, ap, subst}
use Rattle.mz_store.specs.Nodes.{operands_at}
use Rattle.mz_store.specs.Sharing.{AreIn, trees_of, operands_of}
use Rattle.mz_store.specs.declared.item.Id.{Id}
use Rattle.mz_store.proofs.Adding.{form-at}
use Rattle.mz_store.proofs.store.Store.args.Goals as goal

pub returns-in-Variable-clause-trees : goal.returns-in-Variable-clause-trees
returns-in-Variable-clause-trees c = sym (ap operands_of (form-at c.self.inside.expressions c.args.self.now c.self.invariant.0 c.self.view_is c.args.id.0 c.index.result.now c.requires c.index.ensures _ c.in-Variable.is).2)

pub returns-in-Application-clause-ids : goal.returns-in-Application-clause-ids
returns-in-Application-clause-ids c =
    subst (λ (os : List Id). AreIn c.args.self.now (operands_at os c.in-Application.made.from c.in-Application.made.to)) (sym c.deref.ensures.value) (form-at c.self.inside.expressions c.args.self.now c.self.invariant.0 c.self.view_is c.args.id.0 c.index.result.now c.requires c.index.ensures _ c.in-Application.is).0

pub returns-in-Application-clause-trees : goal.returns-in-Application-clause-trees
returns-in-Application-clause-trees c =
    ap (λ (os : List Id). trees_of c.args.self.now (operands_at os c.in-Application.made.from c.in-Application.made.to)) c.deref.ensures.value
    ∙ sym (ap operands_of (form-at c.self.inside.expressions c.args.self.now c.self.invariant.0 c.self.view_is c.args.id.0 c.index.result.now c.requires c.index.ensures _ c.in-Application.is).1)
