use Rattle.mz_unify.proofs.rows.kept_disjoint.Goals as goal

pub returns-in-Body : goal.returns-in-Body
returns-in-Body c sigs over body = c.variables.ensures sigs over
