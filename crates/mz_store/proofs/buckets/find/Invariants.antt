use Rattle.std.proofs.Common.{Some}
use Rattle.mz_store.proofs.Finding.{IsSought}
use Rattle.mz_store.proofs.buckets.find.Given as goal

abbrev pub invariant-chain : goal.invariant-chain
invariant-chain l = IsSought l.operands l.nodes l.head l.args (Some l.next)

abbrev pub decreases-chain : goal.decreases-chain
decreases-chain l = l.next.0
