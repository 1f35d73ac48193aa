use Rattle.std.proofs.Common.{ap}
use Rattle.mz_store.specs.Nodes.{all_made, sharing_of}
use Rattle.mz_store.proofs.Chained.{none-variables}
use Rattle.mz_store.proofs.Growing.{kept-empty}
use Rattle.mz_store.proofs.Tabled.{table-variables}
use Rattle.mz_store.proofs.store.Store.clear.Goals as goal

pub invariant_of-self : goal.invariant_of-self
invariant_of-self c = (
  kept-empty _ c.clear-2.new.self.items c.clear.new.self.items
      (ap (λ ns. (sharing_of c.args.mode (all_made c.clear-2.new.self.items ns)).entries) c.clear.ensures.items)
      (ap (λ ns. (sharing_of c.args.mode (all_made c.clear-2.new.self.items ns)).context) c.clear.ensures.items) c.clear.ensures.items,
  table-variables c.forget.new.self c.clear-2.new.self.items c.clear.new.self.items (none-variables c.clear.new.self.items c.clear.ensures.items) c.forget.ensures,
)
