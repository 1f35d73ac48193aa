use Rattle.std.proofs.Common.{ℕ, ◌≡◌, List, length, ◌+◌}
use Rattle.std.specs.Prelude.{reverse}
use Rattle.mz_trace.specs.Entries.{exprs_onto}
use Rattle.mz_trace.specs.declared.entry.Entry.{Entry}
use Rattle.mz_trace.proofs.stack.pop_exprs.Given as goal

abbrev pub invariant-operands : goal.invariant-operands
invariant-operands l =
    (length l.taken.items ≡ l.i) × (reverse l.initial.stack.items ≡ exprs_onto l.taken.items (reverse l.stack.items))
    × ((ns : List ℕ) × (ys : List Entry) × (reverse l.stack.items ≡ exprs_onto ns ys) × (length ns + l.i ≡ l.count))
