-- Names that are each new to those before: one more, and all of them put into a set that keeps their order; what
-- putting one name there tells.
use Rattle.std.proofs.Common.{◌≡◌, ◌∙◌, ◌+◌, ◌||◌, ◌++◌, ℕ, List, [], ◌∷◌, length, map, Bool, true, false, Option, Some, None, ap, refl, subst, sym, append_assoc}
use Rattle.std.specs.Prelude.{if◌then◌else◌, bytes_eq, is_some, not, option_map, suc, MatchBool}
use Rattle.std.specs.List.{list_any}
use Rattle.std.proofs.lemmas.List.{append-nil, map-append}
use Rattle.indexmap.specs.IndexSet.{insert_all}
use Rattle.mz_base.specs.Names.{IsKnown, IsNew, number_of}
use Rattle.mz_base.proofs.Offered.{Tells, no-place, number-both, or_later, tells-each}
use Rattle.mz_spec_variables.specs.NewNames.{AreNew}

pub new-pushed : (before names : List (List ℕ)) (name : List ℕ) → AreNew before names → IsNew (before ++ names) name → AreNew before (names ++ name ∷ [])
new-pushed before [] name are new = (subst (λ all. IsNew all name) (append-nil before) new, tt)
new-pushed before (other ∷ names) name (here, are) new =
    (here, new-pushed (before ++ other ∷ []) names name are (subst (λ all. IsNew all name) (sym (append_assoc before (other ∷ []) names)) new))

module _ {K : Type 0} (f : K → List ℕ) (eq : K → K → Bool) (tests : (j k : K) → eq j k ≡ bytes_eq (f j) (f k)) where
  pub all-inserted : (before names : List K) → AreNew (map f before) (map f names) → insert_all eq before names ≡ before ++ names
  all-inserted before [] are = sym (append-nil before)
  all-inserted before (k ∷ names) (here, are) =
      ap (λ b. insert_all eq (if b then before else before ++ k ∷ []) names) (no-place f (f k) (eq k) before (tells-each f (f k) (eq k) (tests k) before) here)
      ∙ all-inserted (before ++ k ∷ []) names (subst (λ all. AreNew all (map f names)) (sym (map-append f before (k ∷ []))) are)
      ∙ append_assoc before (k ∷ []) names

-- a name of the first ones is one of all
pub known-before : (xs ys : List (List ℕ)) (w : List ℕ) (o : Option ℕ) → o ≡ number_of xs w → is_some o ≡ true → IsKnown (xs ++ ys) w
known-before xs ys w None at some = absurd cc
known-before xs ys w (Some n) at some = (n, number-both xs ys w ∙ ap (λ o. or_later o (length xs) (number_of ys w)) (sym at))

-- one that isn't found is new
pub new-told : (names : List (List ℕ)) (w : List ℕ) (o : Option ℕ) → o ≡ number_of names w → is_some o ≡ false → IsNew names w
new-told names w None at none = sym at
new-told names w (Some n) at none = absurd cc

module _ {K : Type 0} (f : K → List ℕ) (p : K → Bool) (k : K) where
  -- one of the keys passes where the name is one of theirs
  any-known : (ks : List K) → Tells f (f k) p ks → list_any p ks ≡ is_some (number_of (map f ks) (f k))
  any-known [] tells = refl
  any-known (j ∷ ks) (here, tells) =
      ap (λ b. b || list_any p ks) here ∙ go (bytes_eq (f k) (f j)) (number_of (map f ks) (f k)) (any-known ks tells)
    where
      go : (b : Bool) (o : Option ℕ) → list_any p ks ≡ is_some o → (b || list_any p ks) ≡ is_some (if b then Some 0 else option_map suc o)
      go true o any = refl
      go false None any = any
      go false (Some n) any = any

  -- the set tells whether the name is new to all, where it is new to those before the set's
  pub one-inserted : (first : List (List ℕ)) (ks new : List K) (all : List (List ℕ)) (added : Bool) → IsNew first (f k) → first ++ map f ks ≡ all → Tells f (f k) p ks
      → added ≡ not (list_any p ks) → new ≡ (if list_any p ks then ks else ks ++ k ∷ [])
      → MatchBool added (IsNew all (f k) × (first ++ map f new ≡ all ++ f k ∷ [])) (IsKnown all (f k) × (first ++ map f new ≡ all))
  one-inserted first ks new all added here kept tells told keys =
      go added (list_any p ks) (number_of (map f ks) (f k)) told (any-known ks tells) keys
      (ap (λ names. number_of names (f k)) (sym kept) ∙ number-both first (map f ks) (f k) ∙ ap (λ o. or_later o (length first) (number_of (map f ks) (f k))) here)
    where
      go : (added b : Bool) (o : Option ℕ) → added ≡ not b → b ≡ is_some o → new ≡ (if b then ks else ks ++ k ∷ []) → number_of all (f k) ≡ or_later None (length first) o
          → MatchBool added (IsNew all (f k) × (first ++ map f new ≡ all ++ f k ∷ [])) (IsKnown all (f k) × (first ++ map f new ≡ all))
      go true false None told any keys number = (
        number,
        ap (λ xs. first ++ map f xs) keys ∙ ap (λ names. first ++ names) (map-append f ks (k ∷ []))
            ∙ sym (append_assoc first (map f ks) (f k ∷ [])) ∙ ap (λ names. names ++ f k ∷ []) kept,
      )
      go true false (Some n) told any keys number = absurd cc
      go true true o told any keys number = absurd cc
      go false true (Some n) told any keys number = ((length first + n, number), ap (λ xs. first ++ map f xs) keys ∙ kept)
      go false true None told any keys number = absurd cc
      go false false o told any keys number = absurd cc
