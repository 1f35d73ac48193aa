use Rattle.std.proofs.Common.{refl}
use Rattle.mz_unify.proofs.Offered.{told-0, told-1, told-2}
use Rattle.mz_machine.proofs.body.reference_at.Goals as goal

pub returns-in-18 : goal.returns-in-18
returns-in-18 c = told-0 c.args.bytes.now 18 c.in-len3-up.len_at_least c.in-18.is refl refl

pub returns-in-82 : goal.returns-in-82
returns-in-82 c = told-1 c.args.bytes.now 82 c.in-len3-up.len_at_least c.in-82.is refl c.from-short.result refl c.from-short.ensures

pub returns-in-146 : goal.returns-in-146
returns-in-146 c = told-2 c.args.bytes.now 146 c.in-len3-up.len_at_least c.in-146.is refl c.from-short.result c.from.result refl c.from-short.ensures c.from.ensures
