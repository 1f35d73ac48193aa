use Rattle.std.proofs.Common.{Ok, Err}
use Rattle.mz_match.proofs.Judging.{judged-accepted, judged-refused}
use Rattle.mz_match.proofs.verify.verify_by.Goals as goal

pub returns-in-Ok-clause-verdict : goal.returns-in-Ok-clause-verdict
returns-in-Ok-clause-verdict g c = (c.in-Ok.ensures.judged.accepts, c.in-Ok.ensures.judged.counts)

pub returns-in-Ok-clause-accepted : goal.returns-in-Ok-clause-accepted
returns-in-Ok-clause-accepted g c = judged-accepted g.B.Bodies.STANDARD c.args.spec.now c.args.bin.now (Ok c.in-Ok.pair) c.in-Ok.ensures.judged

pub returns-in-Ok-clause-refused : goal.returns-in-Ok-clause-refused
returns-in-Ok-clause-refused g c = judged-refused g.B.Bodies.STANDARD c.args.spec.now c.args.bin.now (Ok c.in-Ok.pair) c.in-Ok.ensures.judged

pub returns-in-Err-clause-accepted : goal.returns-in-Err-clause-accepted
returns-in-Err-clause-accepted g c = judged-accepted g.B.Bodies.STANDARD c.args.spec.now c.args.bin.now (Err c.in-Err.verdict) c.in-Err.ensures.judged

pub returns-in-Err-clause-refused : goal.returns-in-Err-clause-refused
returns-in-Err-clause-refused g c = judged-refused g.B.Bodies.STANDARD c.args.spec.now c.args.bin.now (Err c.in-Err.verdict) c.in-Err.ensures.judged
