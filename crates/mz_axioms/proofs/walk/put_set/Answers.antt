use Rattle.std.proofs.Common.{sym}
use Rattle.mz_axioms.proofs.Noting.{put-set}
use Rattle.mz_axioms.proofs.walk.put_set.Goals as goal

pub returns : goal.returns
returns c = put-set c.args.rows.now c.args.row c.in-Some.cited c.args.ids.now.items c.push.new.self.items (sym c.in-Some.ensures) c.in_ok-push.ensures.items
