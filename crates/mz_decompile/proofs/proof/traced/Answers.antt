use Rattle.mz_decompile.proofs.proof.traced.Goals as goal

pub trace_body-requires-clause-runs : goal.trace_body-requires-clause-runs
trace_body-requires-clause-runs g c =
    let (env, dummies, p, makes) = c.requires.makes in
    (c.args.before, (makes.may_run, makes.runs))

pub returns-clause-run : goal.returns-clause-run
returns-clause-run g c =
    let (env, dummies, p, makes) = c.requires.makes in
    c.trace_body.ensures.made c.args.before (makes.may_run, makes.runs)

pub returns-clause-claims : goal.returns-clause-claims
returns-clause-claims g c =
    let (env, dummies, p, makes) = c.requires.makes in
    c.trace_body.ensures.claims c.args.before (makes.may_run, makes.runs)
