use Rattle.mz_pmachine_unify.specs.Numbering.{tree_of, vars_of}
use Rattle.mz_machine_env.proofs.Offered.{apart-words}
use Rattle.mz_pmachine.proofs.disjoint.stands_beside.Goals as goal

pub returns-else-exempt : goal.returns-else-exempt
returns-else-exempt c sigs over bd =
    let s = c.args.nodes.now in
    rw (c.if-exempt.false, c.vars.ensures.kept, c.vars-else-exempt.ensures.kept)
    (apart-words s.context (tree_of s c.args.id.0) (tree_of s c.args.bound.0) (vars_of s c.args.id.0) (vars_of s c.args.bound.0)
    (over c.args.id.0 c.requires.id).1.1 (over c.args.bound.0 c.requires.bound).1.1 bd)
