use Rattle.std.proofs.Common.{◌+◌, ap, sym, ◌∙◌, drop, arith}
use Rattle.std.proofs.lemmas.List.{drop_all, drop_more}
use Rattle.mz_store.specs.Hashes.{hash_of}
use Rattle.mz_store.proofs.buckets.hash_of.Goals as goal

pub loop-id-init : goal.loop-id-init
loop-id-init c = ap (λ p. hash_of c.args.factor p c.args.operands.now) c.from-hash.ensures

pub loop-id-preserved : goal.loop-id-preserved
loop-id-preserved c =
    ap (λ p. hash_of c.args.factor p (drop (c.loop-id.id-index + 1) c.args.operands.now)) c.mixed-hash.ensures
    ∙ sym (ap (hash_of c.args.factor c.loop-id.hash) (drop_more c.args.operands.now c.loop-id.id-index _ (omega arith)))
    ∙ c.loop-id.invariant

pub returns : goal.returns
returns c = sym (ap (hash_of c.args.factor c.loop-id.hash) (drop_all c.loop-id.id-index c.args.operands.now (omega arith))) ∙ c.loop-id.invariant
