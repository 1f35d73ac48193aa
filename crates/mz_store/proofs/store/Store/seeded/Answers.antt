use Rattle.std.proofs.Common.{ap}
use Rattle.mz_store.specs.Nodes.{all_made, sharing_of}
use Rattle.mz_store.specs.declared.item.DepsMode.TheVariants as of
use Rattle.mz_store.proofs.Chained.{none-variables}
use Rattle.mz_store.proofs.Growing.{kept-empty}
use Rattle.mz_store.proofs.Tabled.{table-variables}
use Rattle.mz_store.proofs.store.Store.seeded.Goals as goal

pub invariant_of-result : goal.invariant_of-result
invariant_of-result c = (
  kept-empty _ c.new-2.result.items c.new.result.items
      (ap (λ ns. (sharing_of of.All (all_made c.new-2.result.items ns)).entries) c.new.ensures.items)
      (ap (λ ns. (sharing_of of.All (all_made c.new-2.result.items ns)).context) c.new.ensures.items) c.new.ensures.items,
  table-variables c.new-3.result c.new-2.result.items c.new.result.items (none-variables c.new.result.items c.new.ensures.items) c.new-3.ensures,
)
