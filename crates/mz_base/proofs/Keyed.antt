-- Names that are looked up by a test on what holds them, as a set that keeps its order does.
use Rattle.std.proofs.Common.{◌≡◌, ◌∙◌, ◌+◌, ℕ, suc, List, [], ◌∷◌, map, Bool, true, false, ◌||◌, Option, Some, None, ap, sym, refl, arith, position}
use Rattle.std.specs.Prelude.{⊤, option_map, if◌then◌else◌, bytes_eq}
use Rattle.std.specs.List.{list_any, position_from}
use Rattle.std.proofs.lemmas.Iterator.Adapters.{position_from-zero}
use Rattle.mz_base.specs.Names.{number_of, IsNew}
use Rattle.mz_base.proofs.Numbering.{first_or, or_later, not-first}

later-suc : (i : ℕ) (o : Option ℕ) → or_later None i (option_map suc o) ≡ or_later None (i + 1) o
later-suc i None = refl
later-suc i (Some k) = let e : i + suc k ≡ i + 1 + k = omega arith in ap Some e

later-zero : (o : Option ℕ) → or_later None 0 o ≡ o
later-zero None = refl
later-zero (Some k) = let e : 0 + k ≡ k = omega arith in ap Some e

module _ {K : Type 0} (f : K → List ℕ) (w : List ℕ) (p : K → Bool) where
  -- of each the test says whether it has this name
  abbrev pub Tells : List K → Type 0
  Tells [] = ⊤
  Tells (k ∷ ks) = (p k ≡ bytes_eq w (f k)) × Tells ks

  pub tells-each : ((k : K) → p k ≡ bytes_eq w (f k)) → (ks : List K) → Tells ks
  tells-each tests [] = tt
  tells-each tests (k ∷ ks) = (tests k, tells-each tests ks)

  from : (i : ℕ) (ks : List K) → Tells ks → position_from p i ks ≡ or_later None i (number_of (map f ks) w)
  from i [] tells = refl
  from i (k ∷ ks) (here, tells) = go (p k) (bytes_eq w (f k)) here (from (i + 1) ks tells)
    where
      go : (b c : Bool) → b ≡ c → position_from p (i + 1) ks ≡ or_later None (i + 1) (number_of (map f ks) w)
          → (if b then Some i else position_from p (i + 1) ks) ≡ or_later None i (first_or c (number_of (map f ks) w))
      go true true e rest = let same : i ≡ i + 0 = omega arith in ap Some same
      go true false e rest = absurd cc
      go false true e rest = absurd cc
      go false false e rest = rest ∙ sym (later-suc i (number_of (map f ks) w))

  -- the first place that passes is the number
  pub first-place : (ks : List K) → Tells ks → position p ks ≡ number_of (map f ks) w
  first-place ks tells = position_from-zero p ks ∙ from 0 ks tells ∙ later-zero (number_of (map f ks) w)

  -- where the name is new none passes
  pub no-place : (ks : List K) → Tells ks → IsNew (map f ks) w → list_any p ks ≡ false
  no-place [] tells new = refl
  no-place (k ∷ ks) (here, tells) new =
      let parts = not-first (bytes_eq w (f k)) (number_of (map f ks) w) new in
      ap (λ b. b || list_any p ks) (here ∙ parts.0) ∙ no-place ks tells parts.1
