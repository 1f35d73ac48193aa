-- Marks whose places are kept while the stream is read.
use Rattle.std.proofs.Common.{◌≡◌, ◌+◌, ℕ, zero, suc, Bool, true, false, List, [], ◌∷◌, ◌++◌, length, slice_get, Option, Some, None, ap, sym, ◌∙◌, subst, arith, length-append}
use Rattle.mz_match_rows.specs.declared.stream.Step.{Step}
use Rattle.mz_match_rows.specs.declared.stream.Cursor.{Cursor}
use Rattle.mz_match_rows.specs.Streams.{step_at, makes_mark, dummies_in, mark_by, mark_here, mark_from}
use Rattle.mz_match_rows.specs.Marks.{AreKept}

-- what holds of each element at its place, with one more at the end
pub each-more : {A : Type 0} (P : ℕ → A → Type 0) (xs : List A) (x : A) → ((j : ℕ) (y : A) → slice_get xs j ≡ Some y → P j y) → P (length xs) x
    → (j : ℕ) (y : A) → slice_get (xs ++ x ∷ []) j ≡ Some y → P j y
each-more P [] x each last zero y is = let same : x ≡ y = cc in subst (P 0) same last
each-more P [] x each last (suc j) y is = absurd cc
each-more P (z ∷ xs) x each last zero y is = each 0 y is
each-more P (z ∷ xs) x each last (suc j) y is = each-more (λ i. P (suc i)) xs x (λ i. each (suc i)) last j y is

-- the marks from a place on are those that follow the kept ones
abbrev pub Follow : List ℕ → ℕ → ℕ → ℕ → List Cursor → Type 0
Follow file start at d places = (j n : ℕ) (place : Cursor) → mark_from file n at d j ≡ Some place → (m : ℕ) × (mark_from file m start 0 (length places + j) ≡ Some place)

pub none-kept : (file : List ℕ) (start : ℕ) (places : List Cursor) → places ≡ [] → AreKept file start places × Follow file start start 0 places
none-kept file start places none =
    subst (λ ps. AreKept file start ps × Follow file start start 0 ps) (sym none) (λ j place is. absurd cc, λ j n place found. (n, subst (λ (i : ℕ). mark_from file n start 0 i ≡ Some place) (let same : j ≡ 0 + j = omega arith in same) found))

module _ (file : List ℕ) (start at d : ℕ) (s : Step) (places : List Cursor) (stands : step_at file at ≡ Some s) (follow : Follow file start at d places) where
  abbrev here : Cursor
  here = record { at = at; dummies = d }

  -- a command that makes a mark has one more kept
  pub kept-more : makes_mark s.code ≡ true → AreKept file start places → AreKept file start (places ++ here ∷ []) × Follow file start s.next (d + dummies_in s.code) (places ++ here ∷ [])
  kept-more makes kept =
      let (m, found) = follow 0 1 here made-here in (
        each-more (λ j place. (n : ℕ) × (mark_from file n start 0 j ≡ Some place)) places here kept
            (m, subst (λ (i : ℕ). mark_from file m start 0 i ≡ Some here) (let same : length places + 0 ≡ length places = omega arith in same) found),
        λ j n place later.
            let (m', found') = follow (suc j) (suc n) place (made-after j n place later) in
            (m', subst (λ (i : ℕ). mark_from file m' start 0 i ≡ Some place) (let same : length places + suc j ≡ length (places ++ here ∷ []) + j = omega (arith, length-append places (here ∷ [])) in same) found'),
      )
    where
      made-here : mark_from file 1 at d 0 ≡ Some here
      made-here = ap (mark_here (mark_from file 0) at d 0) stands ∙ ap (λ (b : Bool). mark_by (mark_from file 0 s.next (d + dummies_in s.code)) at d b 0) makes

      made-after : (j n : ℕ) (place : Cursor) → mark_from file n s.next (d + dummies_in s.code) j ≡ Some place → mark_from file (suc n) at d (suc j) ≡ Some place
      made-after j n place later =
          ap (mark_here (mark_from file n) at d (suc j)) stands ∙ ap (λ (b : Bool). mark_by (mark_from file n s.next (d + dummies_in s.code)) at d b (suc j)) makes ∙ later

  -- any other is passed
  pub kept-same : makes_mark s.code ≡ false → Follow file start s.next (d + dummies_in s.code) places
  kept-same makes j n place later =
      follow j (suc n) place (ap (mark_here (mark_from file n) at d j) stands ∙ ap (λ (b : Bool). mark_by (mark_from file n s.next (d + dummies_in s.code)) at d b j) makes ∙ later)

-- ---- a mark is made at one place

module _ (p q : Cursor) (f g : ℕ → ℕ → ℕ → Option Cursor) (same : (at d j : ℕ) → f at d j ≡ Some p → g at d j ≡ Some q → p ≡ q) where
  one-by : (at d j next d' : ℕ) (makes : Bool) → mark_by (f next d') at d makes j ≡ Some p → mark_by (g next d') at d makes j ≡ Some q → p ≡ q
  one-by at d j next d' false a b = same next d' j a b
  one-by at d zero next d' true a b = let both : Some p ≡ Some q = sym a ∙ b in cc
  one-by at d (suc j) next d' true a b = same next d' j a b

  one-here : (at d j : ℕ) (step : Option Step) → mark_here f at d j step ≡ Some p → mark_here g at d j step ≡ Some q → p ≡ q
  one-here at d j None a b = absurd cc
  one-here at d j (Some s) a b = one-by at d j s.next (d + dummies_in s.code) (makes_mark s.code) a b

pub one-place : (file : List ℕ) (n m at d j : ℕ) (p q : Cursor) → mark_from file n at d j ≡ Some p → mark_from file m at d j ≡ Some q → p ≡ q
one-place file zero m at d j p q a b = absurd cc
one-place file (suc n) zero at d j p q a b = absurd cc
one-place file (suc n) (suc m) at d j p q a b =
    one-here p q (mark_from file n) (mark_from file m) (λ at' d' j' a' b'. one-place file n m at' d' j' p q a' b') at d j (step_at file at) a b
