use Rattle.std.proofs.Common.{refl, slice_index_or}
use Rattle.mz_axioms.proofs.Halving.{left-next, right-next}
use Rattle.mz_axioms.proofs.sets.Sets.halves.Goals as goal

pub ids-preserved : goal.ids-preserved
ids-preserved c =
    let nodes = c.args.self.now.nodes.items in
    let ids = c.args.ids.now in
    let i = c.ids.id-index in
    let id = slice_index_or ids i 0 in
    let within = c.requires i 0 c.ids-test.true in
    record {
      lefts = left-next nodes ids c.ids.lefts.items c.push.new.self.items i id c.index-node.result.now c.ids-test.true refl within c.index-node.ensures c.in_ok-push.ensures.items c.ids.invariant.lefts;
      rights = right-next nodes ids c.ids.rights.items c.push-in-ids.new.self.items i id c.index-node.result.now c.ids-test.true refl within c.index-node.ensures c.in_ok-push-2.ensures.items c.ids.invariant.rights;
    }
