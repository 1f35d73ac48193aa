use Rattle.std.proofs.Common.{arith}
use Rattle.mz_type.proofs.Weighing.{proofs_weight_cut, proofs_size_step}
use Rattle.mz_type.proofs.weights.+proof_weight.Goals as goal

pub proofs_weight-proof_weight-total-requires : goal.proofs_weight-proof_weight-total-requires
proofs_weight-proof_weight-total-requires t c =
    let items = c.as_slice-proof-items.result.now in
    let cut = proofs_weight_cut c.args.env.now items c.loop-proof.proof-index c.proof-item.result c.loop-proof-test.true c.proof-item.is in
    let size = proofs_size_step items c.loop-proof.proof-index c.proof-item.result c.loop-proof-test.true c.proof-item.is _ c.loop-proof.invariant.small in
    (omega (arith, size.0, c.decreases), omega (arith, cut, c.loop-proof.invariant.counts, c.requires))

pub proofs_weight-overflow_add-total : goal.proofs_weight-overflow_add-total
proofs_weight-overflow_add-total t c =
    let cut = proofs_weight_cut c.args.env.now c.as_slice-proof-items.result.now c.loop-proof.proof-index c.proof-item.result c.loop-proof-test.true c.proof-item.is in
    omega (arith, cut, c.loop-proof.invariant.counts, c.requires, c.proof_weight-total.ensures)

pub proofs_weight-loop-proof-preserved : goal.proofs_weight-loop-proof-preserved
proofs_weight-loop-proof-preserved t c =
    let items = c.as_slice-proof-items.result.now in
    let cut = proofs_weight_cut c.args.env.now items c.loop-proof.proof-index c.proof-item.result c.loop-proof-test.true c.proof-item.is in
    record {
      counts = omega (arith, cut, c.loop-proof.invariant.counts, c.proof_weight-total.ensures);
      small = (proofs_size_step items c.loop-proof.proof-index c.proof-item.result c.loop-proof-test.true c.proof-item.is _ c.loop-proof.invariant.small).1;
    }
