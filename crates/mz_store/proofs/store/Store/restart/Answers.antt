use Rattle.std.proofs.Common.{◌∙◌, ap, sym}
use Rattle.mz_store.specs.Nodes.{no_expressions, all_made}
use Rattle.mz_store.proofs.Growing.{mode-of}
use Rattle.mz_store.proofs.Restarting.{restarted}
use Rattle.mz_store.proofs.Tabled.{table-variables}
use Rattle.mz_store.proofs.store.Store.restart.Goals as goal

pub invariant_of-self : goal.invariant_of-self
invariant_of-self c =
    let r = restarted c.self.inside.expressions.mode c.self.inside.expressions.bound_count c.self.inside.expressions.operands.items c.self.inside.expressions.nodes.items c.args.self.now c.self.view_is c.self.invariant.0
    c.args.params c.requires.there c.requires.first c.clear.new.self.items c.truncate.new.self.items c.clear.ensures.items c.truncate.ensures.items in
    (r.kept c.args.bound c.requires.bound, table-variables c.forget.new.self c.clear.new.self.items c.truncate.new.self.items r.variables c.forget.ensures)

pub returns-clause-mode : goal.returns-clause-mode
returns-clause-mode c =
    mode-of (no_expressions c.self.inside.expressions.mode) (all_made c.clear.new.self.items c.truncate.new.self.items)
    ∙ sym (mode-of (no_expressions c.self.inside.expressions.mode) (all_made c.self.inside.expressions.operands.items c.self.inside.expressions.nodes.items)) ∙ ap (λ s. s.mode) c.self.view_is

pub returns-clause-context : goal.returns-clause-context
returns-clause-context c =
    let r = restarted c.self.inside.expressions.mode c.self.inside.expressions.bound_count c.self.inside.expressions.operands.items c.self.inside.expressions.nodes.items c.args.self.now c.self.view_is c.self.invariant.0
    c.args.params c.requires.there c.requires.first c.clear.new.self.items c.truncate.new.self.items c.clear.ensures.items c.truncate.ensures.items in
    r.context

pub returns-clause-many : goal.returns-clause-many
returns-clause-many c =
    let r = restarted c.self.inside.expressions.mode c.self.inside.expressions.bound_count c.self.inside.expressions.operands.items c.self.inside.expressions.nodes.items c.args.self.now c.self.view_is c.self.invariant.0
    c.args.params c.requires.there c.requires.first c.clear.new.self.items c.truncate.new.self.items c.clear.ensures.items c.truncate.ensures.items in
    r.many

pub returns-clause-trees : goal.returns-clause-trees
returns-clause-trees c =
    let r = restarted c.self.inside.expressions.mode c.self.inside.expressions.bound_count c.self.inside.expressions.operands.items c.self.inside.expressions.nodes.items c.args.self.now c.self.view_is c.self.invariant.0
    c.args.params c.requires.there c.requires.first c.clear.new.self.items c.truncate.new.self.items c.clear.ensures.items c.truncate.ensures.items in
    r.trees

pub returns-clause-over : goal.returns-clause-over
returns-clause-over c =
    let r = restarted c.self.inside.expressions.mode c.self.inside.expressions.bound_count c.self.inside.expressions.operands.items c.self.inside.expressions.nodes.items c.args.self.now c.self.view_is c.self.invariant.0
    c.args.params c.requires.there c.requires.first c.clear.new.self.items c.truncate.new.self.items c.clear.ensures.items c.truncate.ensures.items in
    r.over
