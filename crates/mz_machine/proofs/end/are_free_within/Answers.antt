use Rattle.std.proofs.Common.{subst}
use Rattle.mz_store.specs.Bits.{Tells, bound_vars}
use Rattle.mz_store.specs.Sharing.{DependsOn, sort_of, tree_of}
use Rattle.mz_machine_env.specs.Before.{signatures_of}
use Rattle.mz_machine_env.proofs.Offered.{free-test}
use Rattle.mz_machine.proofs.end.are_free_within.Goals as goal

pub returns : goal.returns
returns c =
    let E = c.args.env.now in
    let s = c.args.store.now in
    let i = c.args.target.0 in
    let row = c.requires.row in
    let (dummies, is, all) = c.requires.context in
    rw (c.deps.ensures, c.requires.word)
    (free-test E c.args.row s.context dummies (tree_of s i) (sort_of s i) c.deps-told.result row.3 is all (c.requires.over i c.requires.target).0
    (subst (λ m. Tells (bound_vars s.context) c.deps-told.result (DependsOn m (signatures_of E) s.context (tree_of s i))) c.requires.mode (c.deps-told.ensures.variables _ c.requires.over)))
