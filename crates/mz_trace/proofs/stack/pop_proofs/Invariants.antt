use Rattle.std.proofs.Common.{ℕ, ◌≡◌, List, length, map, ◌+◌}
use Rattle.std.specs.Prelude.{reverse}
use Rattle.mz_trace.specs.Entries.{proofs_onto}
use Rattle.mz_trace.specs.declared.entry.Entry.{Entry}
use Rattle.mz_trace.proofs.stack.pop_proofs.Given as goal

abbrev pub invariant-proofs : goal.invariant-proofs
invariant-proofs l =
    ((ps : List (ℕ × ℕ)) × (map (λ p. p.1) ps ≡ l.taken.items) × (length ps ≡ l.i) × (reverse l.initial.stack.items ≡ proofs_onto ps (reverse l.stack.items)))
    × ((ps : List (ℕ × ℕ)) × (ys : List Entry) × (reverse l.stack.items ≡ proofs_onto ps ys) × (length ps + l.i ≡ l.count))
