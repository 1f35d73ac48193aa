-- The elements of a notation, and those of them that are written out.
use Rattle.std.proofs.Common.{◌≡◌, ◌<◌, ◌≤◌, ◌+◌, ◌-◌, ◌++◌, ◌∙◌, arith, ℕ, zero, suc, List, [], ◌∷◌, length, drop, Some, slice_get, ap, ap₂, sym, refl, Contains}
use Rattle.std.proofs.Math.Seq.{drop-append-add}
use Rattle.std.proofs.lemmas.List.{length-append}
use Rattle.std.proofs.lemmas.Option.{none-some}
use Rattle.mz_base.proofs.Offered.{contains_at, place-of, slice_get-append}
use Rattle.mz_math_theory.specs.Listed.{AreListed, slots}
use Rattle.mz_math_theory.specs.Notation.{Element, Notation, fixed, slot}
use Rattle.mz_math_theory.specs.NotationAnswers.{KeepsLevels, KeepsOwnLevels}

-- ---- parameters one after another

slot-at : (from n k : ℕ) → k < n → drop k (slots from n) ≡ slot (from + k) ∷ drop (suc k) (slots from n)
slot-at from zero k below = absurd (omega (arith, below))
slot-at from (suc n) zero below = let e : from ≡ from + 0 = omega arith in ap (λ i. slot i ∷ slots (from + 1) n) e
slot-at from (suc n) (suc k) below =
    let e : from + 1 + k ≡ from + suc k = omega arith in
    slot-at (from + 1) n k (omega (arith, below)) ∙ ap (λ i. slot i ∷ drop (suc k) (slots (from + 1) n)) e

no-slot-at : (from n k : ℕ) → n ≤ k → drop k (slots from n) ≡ []
no-slot-at from zero zero past = refl
no-slot-at from zero (suc k) past = refl
no-slot-at from (suc n) zero past = absurd (omega (arith, past))
no-slot-at from (suc n) (suc k) past = no-slot-at (from + 1) n k (omega (arith, past))

slots-many : (from n : ℕ) → length (slots from n) ≡ n
slots-many from zero = refl
slots-many from (suc n) = ap suc (slots-many (from + 1) n)

no-constant : (from n i : ℕ) (w : List ℕ) (q : ℕ) → slice_get (slots from n) i ≡ Some (fixed w q) → ⊥
no-constant from zero i w q at = none-some _ at
no-constant from (suc n) zero w q at = cc
no-constant from (suc n) (suc i) w q at = no-constant (from + 1) n i w q at

-- ---- behind others

module _ (es xs : List Element) (n at m : ℕ) (is : es ≡ xs ++ slots 0 n) (m-is : m ≡ length xs) (past : m ≤ at) where
  behind : (k : ℕ) → at ≤ k → drop k es ≡ drop (k - m) (slots 0 n)
  behind k le =
      let e : k ≡ length xs + (k - m) = omega (arith, past, le, m-is) in
      ap₂ drop e is ∙ drop-append-add xs (slots 0 n) (k - m)

  many : length es ≡ m + n
  many = ap length is ∙ length-append xs (slots 0 n) ∙ ap₂ ◌+◌ (sym m-is) (slots-many 0 n)

  pub slot-behind : at - m < n → drop at es ≡ slot (at - m) ∷ drop (at + 1) es
  slot-behind below =
      let e : suc (at - m) ≡ at + 1 - m = omega (arith, past) in
      let zero_more : 0 + (at - m) ≡ at - m = omega arith in
      behind at (omega arith) ∙ slot-at 0 n (at - m) below
      ∙ ap₂ (λ i ys. slot i ∷ ys) zero_more (ap (λ k. drop k (slots 0 n)) e ∙ sym (behind (at + 1) (omega arith)))

  pub slot-within : at - m < n → at < length es
  slot-within below = let all = many in omega (arith, past, below, all)

  pub none-behind : n ≤ at - m → drop at es ≡ []
  none-behind le = behind at (omega arith) ∙ no-slot-at 0 n (at - m) le

  pub none-within : n ≤ at - m → length es ≤ at
  none-within le = let all = many in omega (arith, past, le, all)

-- ---- the constants are written out

pub listed-element : (es xs : List Element) (i : ℕ) (e : Element) → AreListed es xs → slice_get xs i ≡ Some e → slice_get es i ≡ Some e
listed-element es xs i e (n, is, few) at = ap (λ ys. slice_get ys i) is ∙ slice_get-append xs (slots 0 n) i e at

pub constant-listed : (es xs : List Element) (i : ℕ) (w : List ℕ) (q : ℕ) → AreListed es xs → slice_get es i ≡ Some (fixed w q) → slice_get xs i ≡ Some (fixed w q)
constant-listed es xs i w q (n, is, few) at = go xs i (sym (ap (λ ys. slice_get ys i) is) ∙ at)
  where
    go : (ys : List Element) (k : ℕ) → slice_get (ys ++ slots 0 n) k ≡ Some (fixed w q) → slice_get ys k ≡ Some (fixed w q)
    go [] k there = absurd (no-constant 0 n k w q there)
    go (y ∷ ys) zero there = there
    go (y ∷ ys) (suc k) there = go ys k there

module _ (es xs : List Element) (are : AreListed es xs) where
  among : (e : Element) → Contains xs e → Contains es e
  among e has = let (i, at) = place-of xs e has in contains_at es i e (listed-element es xs i e are at)

  listed : (w : List ℕ) (q : ℕ) → Contains es (fixed w q) → Contains xs (fixed w q)
  listed w q has = let (i, at) = place-of es (fixed w q) has in contains_at xs i (fixed w q) (constant-listed es xs i w q are at)

  pub keeps-own : KeepsOwnLevels xs → KeepsOwnLevels es
  keeps-own keeps w q p one other = keeps w q p (listed w q one) (listed w p other)

  pub listed-own : KeepsOwnLevels es → KeepsOwnLevels xs
  listed-own keeps w q p one other = keeps w q p (among (fixed w q) one) (among (fixed w p) other)

  pub keeps : (ks : List Notation) → KeepsLevels xs ks → KeepsLevels es ks
  keeps ks kept w q p has = kept w q p (listed w q has)

  pub listed-keeps : (ks : List Notation) → KeepsLevels es ks → KeepsLevels xs ks
  listed-keeps ks kept w q p has = kept w q p (among (fixed w q) has)

-- ---- an element by what stands from its place on

first-at : (es rest : List Element) (i : ℕ) (e : Element) → drop i es ≡ e ∷ rest → slice_get es i ≡ Some e
first-at [] rest zero e is = cc
first-at [] rest (suc i) e is = cc
first-at (x ∷ es) rest zero e is = heads is
  where
    heads : {y z : Element} {xs zs : List Element} → y ∷ xs ≡ z ∷ zs → Some y ≡ Some z
    heads same = cc
first-at (x ∷ es) rest (suc i) e is = first-at es rest i e is

pub none-at : (es : List Element) (i : ℕ) → drop i es ≡ [] → (e : Element) → slice_get es i ≡ Some e → ⊥
none-at [] zero is e at = none-some _ at
none-at [] (suc i) is e at = none-some _ at
none-at (x ∷ es) zero is e at = cc
none-at (x ∷ es) (suc i) is e at = none-at es i is e at

pub constant-at : (es rest : List Element) (i : ℕ) (e : Element) (w v : List ℕ) (level : ℕ) → drop i es ≡ e ∷ rest → e ≡ fixed v level → w ≡ v → slice_get es i ≡ Some (fixed w level)
constant-at es rest i e w v level here is word = first-at es rest i e here ∙ ap Some is ∙ ap (λ u. Some (fixed u level)) (sym word)

pub slot-no-constant : (es rest : List Element) (i : ℕ) (e : Element) (s : ℕ) → drop i es ≡ e ∷ rest → e ≡ slot s → (w : List ℕ) (q : ℕ) → slice_get es i ≡ Some (fixed w q) → ⊥
slot-no-constant es rest i e s here is w q at = differs (ap Some (sym is) ∙ sym (first-at es rest i e here) ∙ at)
  where
    differs : Some (slot s) ≡ Some (fixed w q) → ⊥
    differs e = cc
