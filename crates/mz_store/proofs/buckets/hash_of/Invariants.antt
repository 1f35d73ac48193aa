use Rattle.std.proofs.Common.{◌≡◌, drop}
use Rattle.mz_store.specs.Hashes.{hash_of}
use Rattle.mz_store.proofs.buckets.hash_of.Given as goal

abbrev pub invariant-loop-id : goal.invariant-loop-id
invariant-loop-id l = hash_of l.factor l.hash (drop l.id-index l.operands) ≡ hash_of l.factor l.head l.operands
