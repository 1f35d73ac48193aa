-- Steps that go through, and what a turn did.
use Rattle.std.proofs.Common.{◌≡◌, ℕ, Option, Some, Result, Ok, ap}
use Rattle.mz_cmd.specs.declared.rule.K.{K}
use Rattle.mz_machine_theory.specs.Steps.{◌>>=◌, want, Turn, over, goes_on}

pub to_bind : {A B F : Type 0} (r : Result A F) (f : A → Result B F) (x : A) → r ≡ Ok x → (r >>= f) ≡ f x
to_bind {A = A} {F = F} r f x e = ap (λ (z : Result A F). z >>= f) e

pub to_want : {A B : Type 0} (o : Option A) (rule : K) (f : A → Result B K) (x : A) → o ≡ Some x → (want o rule >>= f) ≡ f x
to_want {A = A} o rule f x e = ap (λ (z : Option A). want z rule >>= f) e

-- the state after a turn
abbrev pub left_of : {S : Type 0} → Turn S → S
left_of (over s) = s
left_of (goes_on len s) = s
