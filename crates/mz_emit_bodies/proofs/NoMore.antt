-- Places of nothing behind the others change nothing.
use Rattle.std.specs.Prelude.{ℕ, ◌≡◌, ◌++◌, ◌∷◌, [], List, Option, None}
use Rattle.std.proofs.Common.{suc, zero, refl}
use Rattle.mz_emit_bodies.specs.Places.{place_of}

pub no_more : (ps : List (Option ℕ)) (j : ℕ) → place_of (ps ++ None ∷ []) j ≡ place_of ps j
no_more (p ∷ ps) (suc j) = no_more ps j
no_more [] zero = refl
no_more _ _ = refl
