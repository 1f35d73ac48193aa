use Rattle.std.proofs.Common.{◌≡◌, length}
use Rattle.mz_logic_theory.specs.Legality.{Each}
use Rattle.mz_emit_bodies.proofs.shared.first_ids.Given as goal

abbrev pub invariant-loop-i : goal.invariant-loop-i
invariant-loop-i l = (length l.ids.items ≡ l.i) × Each l.ids.items (λ i id. id.0 ≡ i)
