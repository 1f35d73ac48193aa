-- Notations by their constants, and by their precedences.
use Rattle.std.specs.Prelude.{◌≡◌, ◌⊎◌, ◌++◌, ◌∷◌, [], ℕ, List, Option, Some, Contains, slice_get}
use Rattle.std.specs.Ordering.{nat_cmp}
use Rattle.std.specs.BTreeMap as tree
use Rattle.std.specs.BTreeMap.{BTreeMap}
use Rattle.mz_math_theory.specs.declared.notation.Notation.{Notation}
use Rattle.mz_math_theory.specs.declared.notation.Element.TheVariants.{Fixed as fixed}
use Rattle.mz_math_theory.specs.Clear.{JoinedBy, LedBy}
use Rattle.mz_lex.specs.Places.{place_of}
use Rattle.mz_math_operators.specs.declared.notations.Spot.{Spot}

-- the constant with which it begins, or the one behind its first parameter
abbrev pub IsHeadedBy : Notation → List ℕ → Type 0
IsHeadedBy k w = LedBy k w ⊎ JoinedBy k w

-- the constant stands there, with some precedence
abbrev pub StandsAt : List Notation → List ℕ → Spot → Type 0
StandsAt ks w s = (k : Notation) × (q : ℕ) × (slice_get ks s.notation ≡ Some k) × (slice_get k.elements s.element ≡ Some (fixed w q))

-- each constant of the notations has a place where it stands
abbrev pub AreFound : List (List ℕ × Spot) → List Notation → Type 0
AreFound ps ks = (i j : ℕ) (k : Notation) (w : List ℕ) (q : ℕ) → slice_get ks i ≡ Some k → slice_get k.elements j ≡ Some (fixed w q)
    → (s : Spot) × (place_of ps w ≡ Some s) × StandsAt ks w s

-- the constant at a place of one more notation has a place where it stands
abbrev pub IsNoted : List (List ℕ × Spot) → List Notation → Notation → ℕ → Type 0
IsNoted ps ks k j = (w : List ℕ) (q : ℕ) → slice_get k.elements j ≡ Some (fixed w q) → (s : Spot) × (place_of ps w ≡ Some s) × StandsAt (ks ++ k ∷ []) w s

-- the place that is kept for a precedence
abbrev pub place_at : BTreeMap ℕ ℕ → ℕ → Option ℕ
place_at m level = tree.get nat_cmp m level

-- for the precedence of each of the notations the place of one of that precedence is kept
abbrev pub AreLevelled : BTreeMap ℕ ℕ → List Notation → Type 0
AreLevelled m ks = (k : Notation) → Contains ks k → (i : ℕ) × (l : Notation) × (place_at m k.level ≡ Some i) × (slice_get ks i ≡ Some l) × (l.level ≡ k.level)
