use Rattle.mz_pmachine_unify.specs.Numbering.{expr_of}
use Rattle.mz_pmachine_unify.proofs.VariableWords.{tells-push}
use Rattle.mz_pmachine_unify.proofs.rows.keep.Goals as goal

pub returns-clause-told : goal.returns-clause-told
returns-clause-told c sigs es over told = tells-push c.args.nodes.now.context c.args.apart.now c.vars.result es (expr_of c.args.nodes.now c.args.id.0) told (c.vars.ensures.variables sigs over)
