-- Places by names that are the keys of a map: what tells that a name is new.
use Rattle.std.proofs.Common.{◌≡◌, true, false, Bool, Option, Some, None, refl}
use Rattle.std.specs.Prelude.{is_some, not}

-- nothing was kept
pub was-none : {A : Type 0} → (o : Option A) (b : Bool) → is_some o ≡ not b → b ≡ true → o ≡ None
was-none None b is new = refl
was-none (Some x) true is new = absurd cc
was-none (Some x) false is new = absurd cc
