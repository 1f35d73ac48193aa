use Rattle.std.proofs.Common.{sym, subst}
use Rattle.mz_store.specs.Bits.{Tells, bound_vars}
use Rattle.mz_store.specs.Sharing.{DependsOn}
use Rattle.mz_pmachine_unify.specs.Numbering.{tree_of}
use Rattle.mz_pmachine_unify.proofs.Reading.{shown-at}
use Rattle.mz_pmachine_unify.proofs.nodes.Nodes.deps.Goals as goal

pub returns-clause-kept : goal.returns-clause-kept
returns-clause-kept c =
    let own = c.self.inside in
    let shown = shown-at own.mode own.bound_count own.operands.items own.nodes.items c.args.self.now c.self.invariant c.self.view_is c.args.id.0 c.index.result.now c.requires c.index.ensures in
    sym shown.deps

pub returns-clause-variables : goal.returns-clause-variables
returns-clause-variables c sigs over =
    let v = c.args.self.now in
    let own = c.self.inside in
    let shown = shown-at own.mode own.bound_count own.operands.items own.nodes.items c.args.self.now c.self.invariant c.self.view_is c.args.id.0 c.index.result.now c.requires c.index.ensures in
    subst (λ w. Tells (bound_vars v.context) w (DependsOn v.mode sigs v.context (tree_of v c.args.id.0))) shown.deps (over c.args.id.0 c.requires).0.1
