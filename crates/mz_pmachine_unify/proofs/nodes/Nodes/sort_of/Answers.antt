use Rattle.std.proofs.Common.{sym, subst}
use Rattle.mz_logic_theory.specs.Sorts.{HasSort}
use Rattle.mz_pmachine_unify.specs.Numbering.{tree_of}
use Rattle.mz_pmachine_unify.proofs.Reading.{shown-at}
use Rattle.mz_pmachine_unify.proofs.nodes.Nodes.sort_of.Goals as goal

pub returns-clause-kept : goal.returns-clause-kept
returns-clause-kept c =
    let own = c.self.inside in
    let shown = shown-at own.mode own.bound_count own.operands.items own.nodes.items c.args.self.now c.self.invariant c.self.view_is c.args.id.0 c.index.result.now c.requires c.index.ensures in
    sym shown.sort

pub returns-clause-sort : goal.returns-clause-sort
returns-clause-sort c sigs over =
    let own = c.self.inside in
    let shown = shown-at own.mode own.bound_count own.operands.items own.nodes.items c.args.self.now c.self.invariant c.self.view_is c.args.id.0 c.index.result.now c.requires c.index.ensures in
    subst (HasSort sigs c.args.self.now.context (tree_of c.args.self.now c.args.id.0)) shown.sort (over c.args.id.0 c.requires).0.0
