use Rattle.std.proofs.Common.{◌≡◌, take}
use Rattle.mz_axioms.specs.Kept.{supports_kept}
use Rattle.mz_axioms.proofs.lists.supports_in.Given as goal

abbrev pub invariant-rows : goal.invariant-rows
invariant-rows l = record { so_far : l.supports.items ≡ supports_kept (take l.row-index l.table.rows.items) }
