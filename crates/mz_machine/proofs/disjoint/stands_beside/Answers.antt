use Rattle.mz_store.specs.Sharing.{tree_of, deps_of}
use Rattle.mz_machine_env.proofs.Offered.{apart-words}
use Rattle.mz_machine.proofs.Disjointness.{tells-v}
use Rattle.mz_machine.proofs.disjoint.stands_beside.Goals as goal

pub returns-else-exempt : goal.returns-else-exempt
returns-else-exempt c sigs over mode bd =
    let s = c.args.store.now in
    rw (c.if-exempt.false, c.deps.ensures.kept, c.deps-else-exempt.ensures.kept)
    (apart-words s.context (tree_of s c.args.id.0) (tree_of s c.args.bound.0) (deps_of s c.args.id.0) (deps_of s c.args.bound.0)
    (tells-v sigs s c.args.id.0 over mode c.requires.id) (tells-v sigs s c.args.bound.0 over mode c.requires.bound) bd)
