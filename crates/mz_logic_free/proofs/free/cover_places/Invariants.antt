use Rattle.std.proofs.Common.{ℕ, ◌≡◌, ◌⊎◌, ◌↔◌, Contains, drop}
use Rattle.mz_logic_free.proofs.Walking.{Reaches}
use Rattle.mz_logic_free.proofs.free.cover_places.Given as goal

abbrev pub invariant-loop-place : goal.invariant-loop-place
invariant-loop-place l = (x : ℕ) → (Contains l.variables x ⊎ Reaches (λ j y. y ≡ j) (drop l.place-index l.place-items) x) ↔ (Contains l.initial.variables x ⊎ Reaches (λ j y. y ≡ j) l.places x)
