use Rattle.std.proofs.Common.{◌≡◌, ◌<◌, length, take}
use Rattle.mz_store.specs.Nodes.{AllLie}
use Rattle.mz_store.specs.Kept.{shared_by, AreKept}
use Rattle.mz_store.specs.Tables.{IsTable}
use Rattle.mz_store.proofs.table.Table.widen.Given as goal

abbrev pub invariant-terms : goal.invariant-terms
invariant-terms l = record {
  room : 0 < length l.self.buckets.items;
  lie : AllLie l.expressions.operands.items l.expressions.nodes.items;
  table : IsTable l.self l.expressions.operands.items (take l.i l.expressions.nodes.items);
  kept : AreKept l.expressions;
  same : shared_by l.expressions ≡ shared_by l.fn.expressions;
}
