use Rattle.std.proofs.Common.{arith}
use Rattle.mz_type_rules.proofs.Claims.{same_more, turns_more}
use Rattle.mz_type_rules.proofs.claim.wait.Goals as goal

pub returns-clause-same : goal.returns-clause-same
returns-clause-same c = same_more c.args.waiting.now.items c.push.new.self.items c.args.lists c.in_ok-push.ensures.items

pub returns-clause-small : goal.returns-clause-small
returns-clause-small c =
    let more = turns_more c.args.waiting.now.items c.push.new.self.items c.args.lists c.in_ok-push.ensures.items in
    omega (arith, more)
