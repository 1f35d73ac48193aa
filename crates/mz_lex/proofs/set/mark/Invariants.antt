use Rattle.std.proofs.Common.{◌≡◌, ◌↔◌, ◌⊎◌, ℕ, false, length, Contains, get_or, drop}
use Rattle.std.specs.Prelude.{IsTrue}
use Rattle.mz_lex.proofs.set.mark.Given as goal

-- what is set and what is left make the whole
abbrev pub invariant-loop-byte : goal.invariant-loop-byte
invariant-loop-byte l = (length l.there ≡ 256) × ((c : ℕ) → (IsTrue (get_or l.there c false) ⊎ Contains (drop l.byte-index l.bytes) c) ↔ (IsTrue (get_or l.initial.there c false) ⊎ Contains l.bytes c))
