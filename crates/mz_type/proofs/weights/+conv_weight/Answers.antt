use Rattle.std.proofs.Common.{arith}
use Rattle.mz_type_rules.proofs.Offered.{convs_size_step}
use Rattle.mz_type.proofs.Weighing.{convs_weight_cut}
use Rattle.mz_type.proofs.weights.+conv_weight.Goals as goal

pub convs_weight-conv_weight-total-requires : goal.convs_weight-conv_weight-total-requires
convs_weight-conv_weight-total-requires t c =
    let items = c.as_slice-conv-items.result.now in
    let cut = convs_weight_cut c.args.env.now items c.loop-conv.conv-index c.conv-item.result c.loop-conv-test.true c.conv-item.is in
    let size = convs_size_step items c.loop-conv.conv-index c.conv-item.result c.loop-conv-test.true c.conv-item.is _ c.loop-conv.invariant.small in
    (omega (arith, size.0, c.decreases), omega (arith, cut, c.loop-conv.invariant.counts, c.requires))

pub convs_weight-overflow_add-total : goal.convs_weight-overflow_add-total
convs_weight-overflow_add-total t c =
    let cut = convs_weight_cut c.args.env.now c.as_slice-conv-items.result.now c.loop-conv.conv-index c.conv-item.result c.loop-conv-test.true c.conv-item.is in
    omega (arith, cut, c.loop-conv.invariant.counts, c.requires, c.conv_weight-total.ensures)

pub convs_weight-loop-conv-preserved : goal.convs_weight-loop-conv-preserved
convs_weight-loop-conv-preserved t c =
    let items = c.as_slice-conv-items.result.now in
    let cut = convs_weight_cut c.args.env.now items c.loop-conv.conv-index c.conv-item.result c.loop-conv-test.true c.conv-item.is in
    record {
      counts = omega (arith, cut, c.loop-conv.invariant.counts, c.conv_weight-total.ensures);
      small = (convs_size_step items c.loop-conv.conv-index c.conv-item.result c.loop-conv-test.true c.conv-item.is _ c.loop-conv.invariant.small).1;
    }
