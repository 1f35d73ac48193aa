use Rattle.std.proofs.Common.{◌≡◌, drop}
use Rattle.mz_machine.specs.OverStore.{exprs_of}
use Rattle.mz_machine.proofs.ReadExprs.{after}
use Rattle.mz_machine.proofs.arguments.read_exprs.Given as goal

-- those so far, and what the items that are left are, are what all are
abbrev pub invariant-items : goal.invariant-items
invariant-items l = after l.ids.items (exprs_of (drop l.item-index l.items)) ≡ exprs_of l.items
