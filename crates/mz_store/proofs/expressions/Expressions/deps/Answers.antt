use Rattle.std.proofs.Common.{sym, subst}
use Rattle.mz_store.specs.Bits.{Tells, bound_vars}
use Rattle.mz_store.specs.Sharing.{tree_of, DependsOn}
use Rattle.mz_store.specs.Kept.{shared_by}
use Rattle.mz_store.proofs.Adding.{kept-shows}
use Rattle.mz_store.proofs.expressions.Expressions.deps.Goals as goal

pub returns-clause-kept : goal.returns-clause-kept
returns-clause-kept c =
    sym (kept-shows (shared_by c.args.self.now) c.args.self.now.bound_count c.args.self.now.operands.items c.args.self.now.nodes.items c.requires.kept c.args.id.0 c.index.result.now c.requires.inside c.index.ensures).deps

pub returns-clause-variables : goal.returns-clause-variables
returns-clause-variables c sigs over =
    let s = shared_by c.args.self.now in
    subst (λ w. Tells (bound_vars s.context) w (DependsOn s.mode sigs s.context (tree_of s c.args.id.0)))
    (kept-shows s c.args.self.now.bound_count c.args.self.now.operands.items c.args.self.now.nodes.items c.requires.kept c.args.id.0 c.index.result.now c.requires.inside c.index.ensures).deps (over c.args.id.0 c.requires.inside).1
