use Rattle.std.proofs.Common.{ℕ, ◌⊎◌, ◌↔◌, Contains, drop}
use Rattle.mz_logic_free.proofs.Walking.{Reaches}
use Rattle.mz_logic_free.proofs.Narrowing.{Common}
use Rattle.mz_logic_free.proofs.narrowed.push_common.Given as goal

abbrev pub invariant-loop-x : goal.invariant-loop-x
invariant-loop-x l = (x : ℕ) → (Contains l.few.items x ⊎ Reaches (Common l.variables l.places) (drop l.x-index l.sought) x) ↔ (Contains l.initial.few.items x ⊎ Reaches (Common l.variables l.places) l.sought x)
