-- What a loop has seen of a list, and what is left of it.
use Rattle.std.proofs.Common.{◌≡◌, ◌∙◌, ◌<◌, ◌≤◌, ◌+◌, ◌++◌, ◌⊎◌, ℕ, zero, suc, List, [], ◌∷◌, length, map, drop, get_or, Bool, true, false, ap, sym, subst, inl, inr, arith, append_assoc, Result, Ok, Err}
use Rattle.std.specs.Prelude.{◌↔◌, ◌||◌, IsTrue, refl}
use Rattle.std.specs.List.{list_any}
use Rattle.std.proofs.lemmas.List.{append-nil}
use Rattle.mz_base.proofs.Offered.{drop-item, drop-past, Decides, decides-after, fails-before, fails-after, judges-after, all_hold-first, all_hold-rest, all_hold-both}
use Rattle.mz_base.specs.Checks.{Checks, nothing, ask, each_in_order, ◌>>◌, AllHold, FailsFirst, Judges}
use Rattle.mz_spec_theory.specs.declared.refusal.Fault.{Fault}
use Rattle.mz_spec_theory.specs.declared.refusal.Halt.{Halt}
use Rattle.mz_spec_theory.specs.declared.refusal.Halt.TheVariants as halts
use Rattle.mz_spec_theory.specs.Reading.{OnFault}
use Rattle.mz_spec_theory.specs.Dependencies.{Every}

-- whatever stands for a missing one
pub item-is : {X : Type 0} → (xs : List X) (i : ℕ) (d : X) → i < length xs → get_or xs i d ≡ get_or xs i (get_or xs i d)
item-is [] i d within = absurd (omega (arith, within))
item-is (x ∷ xs) zero d within = refl
item-is (x ∷ xs) (suc i) d within = same xs i d (get_or xs i d) (omega (arith, within))
  where
    same : {X : Type 0} → (xs : List X) (i : ℕ) (d e : X) → i < length xs → get_or xs i d ≡ get_or xs i e
    same [] i d e within = absurd (omega (arith, within))
    same (x ∷ xs) zero d e within = refl
    same (x ∷ xs) (suc i) d e within = same xs i d e (omega (arith, within))

module _ {X Y : Type 0} (f : X → Y) (xs : List X) (i : ℕ) where
  -- ---- a fact on each
  module _ (P : Y → Type 0) (W : Type 0) where
    pub every-step : (x : X) → i < length xs → x ≡ get_or xs i x → (Every P (map f (drop i xs)) ↔ W) → P (f x) → Every P (map f (drop (i + 1) xs)) ↔ W
    every-step x within is (to, from) p =
        let at = drop-item xs i x within is in
        (λ all. to (subst (λ ys. Every P (map f ys)) (sym at) (p, all)), λ w. (subst (λ ys. Every P (map f ys)) at (from w)).1)

    pub every-out : (x : X) → i < length xs → x ≡ get_or xs i x → (Every P (map f (drop i xs)) ↔ W) → (P (f x) → ⊥) → W → ⊥
    every-out x within is (to, from) out w = out (subst (λ ys. Every P (map f ys)) (drop-item xs i x within is) (from w)).0

    pub every-end : length xs ≤ i → (Every P (map f (drop i xs)) ↔ W) → W
    every-end past (to, from) = to (subst (λ ys. Every P (map f ys)) (sym (drop-past xs i past)) tt)

  -- ---- a fact on one
  module _ (One : List Y → Type 0) (P : Y → Type 0) (W : Type 0) where
    -- it is so of the first, or of one behind it
    abbrev pub IsOneOf : Type 0
    IsOneOf = ((y : Y) (ys : List Y) → One (y ∷ ys) ↔ (P y ⊎ One ys)) × (One [] → ⊥)

    pub one-step : IsOneOf → (x : X) → i < length xs → x ≡ get_or xs i x → (One (map f (drop i xs)) ↔ W) → (P (f x) → ⊥) → One (map f (drop (i + 1) xs)) ↔ W
    one-step (parts, none) x within is (to, from) out =
        let at = drop-item xs i x within is in
        (λ one. to (subst (λ ys. One (map f ys)) (sym at) ((parts (f x) (map f (drop (i + 1) xs))).1 (inr one))), λ w. go ((parts (f x) (map f (drop (i + 1) xs))).0 (subst (λ ys. One (map f ys)) at (from w))))
      where
        go : P (f x) ⊎ One (map f (drop (i + 1) xs)) → One (map f (drop (i + 1) xs))
        go (inl p) = absurd (out p)
        go (inr one) = one

    pub one-found : IsOneOf → (x : X) → i < length xs → x ≡ get_or xs i x → (One (map f (drop i xs)) ↔ W) → P (f x) → W
    one-found (parts, none) x within is (to, from) p =
        to (subst (λ ys. One (map f ys)) (sym (drop-item xs i x within is)) ((parts (f x) (map f (drop (i + 1) xs))).1 (inl p)))

    pub one-end : IsOneOf → length xs ≤ i → (One (map f (drop i xs)) ↔ W) → W → ⊥
    one-end (parts, none) past (to, from) w = none (subst (λ ys. One (map f ys)) (drop-past xs i past) (from w))

-- ---- checks of each

module _ {X Y R : Type 0} (F : List X → List Y) (h : X → Y) (row : Y → Checks R) (whole : Checks R) (xs : List X) (i : ℕ) where
  -- F goes over a list
  abbrev pub GoesOver : Type 0
  GoesOver = ((x : X) (ys : List X) → F (x ∷ ys) ≡ h x ∷ F ys) × (F [] ≡ [])

  next-left : GoesOver → (x : X) → i < length xs → x ≡ get_or xs i x → each_in_order row (F (drop i xs)) ≡ (row (h x) >> each_in_order row (F (drop (i + 1) xs)))
  next-left (over, none) x within is = ap (each_in_order row) (ap F (drop-item xs i x within is) ∙ over x (drop (i + 1) xs))

  pub rows-step : GoesOver → (x : X) → i < length xs → x ≡ get_or xs i x → Decides (each_in_order row (F (drop i xs))) whole → AllHold (row (h x))
      → Decides (each_in_order row (F (drop (i + 1) xs))) whole
  rows-step over x within is d a = decides-after (row (h x)) _ whole a (subst (λ cs. Decides cs whole) (next-left over x within is) d)

  pub rows-fail : GoesOver → (x : X) (r : R) → i < length xs → x ≡ get_or xs i x → Decides (each_in_order row (F (drop i xs))) whole → FailsFirst (row (h x)) r → FailsFirst whole r
  rows-fail over x r within is d f = d.fails r (subst (λ cs. FailsFirst cs r) (sym (next-left over x within is)) (fails-before (row (h x)) _ r f))

  pub rows-done : GoesOver → length xs ≤ i → Decides (each_in_order row (F (drop i xs))) whole → AllHold whole
  rows-done (over, none) past d = d.holds (subst (λ ys. AllHold (each_in_order row ys)) (sym (ap F (drop-past xs i past) ∙ none)) tt)

-- one more is made, of the element at hand
module _ {X Y Z : Type 0} (f : X → Y) (h : Y → Z) (xs : List X) (i : ℕ) where
  pub item-step : (x : X) → i < length xs → x ≡ get_or xs i x → (made new whole : List Z) (z : Z) → new ≡ made ++ z ∷ [] → z ≡ h (f x) → made ++ map h (map f (drop i xs)) ≡ whole
      → new ++ map h (map f (drop (i + 1) xs)) ≡ whole
  item-step x within is made new whole z pushed same so_far =
      let rest = map h (map f (drop (i + 1) xs)) in
      ap (λ zs. zs ++ rest) (pushed ∙ ap (λ y. made ++ y ∷ []) same) ∙ append_assoc made (h (f x) ∷ []) rest ∙ ap (λ ys. made ++ map h (map f ys)) (sym (drop-item xs i x within is)) ∙ so_far

  pub items-end : (made whole : List Z) → length xs ≤ i → made ++ map h (map f (drop i xs)) ≡ whole → made ≡ whole
  items-end made whole past so_far = sym (append-nil made) ∙ ap (λ ys. made ++ map h (map f ys)) (sym (drop-past xs i past)) ∙ so_far

-- ---- a test on one

module _ {X Y : Type 0} (f : X → Y) (p : Y → Bool) (b : Bool) (xs : List X) (i : ℕ) where
  any-at : (x : X) → i < length xs → x ≡ get_or xs i x → list_any p (map f (drop i xs)) ≡ (p (f x) || list_any p (map f (drop (i + 1) xs)))
  any-at x within is = ap (λ ys. list_any p (map f ys)) (drop-item xs i x within is)

  pub any-step : (x : X) → i < length xs → x ≡ get_or xs i x → list_any p (map f (drop i xs)) ≡ b → p (f x) ≡ false → list_any p (map f (drop (i + 1) xs)) ≡ b
  any-step x within is so_far differs = sym (any-at x within is ∙ ap (λ c. c || list_any p (map f (drop (i + 1) xs))) differs) ∙ so_far

  pub any-found : (x : X) → i < length xs → x ≡ get_or xs i x → list_any p (map f (drop i xs)) ≡ b → p (f x) ≡ true → b ≡ true
  any-found x within is so_far found = sym so_far ∙ any-at x within is ∙ ap (λ c. c || list_any p (map f (drop (i + 1) xs))) found

  pub any-end : length xs ≤ i → list_any p (map f (drop i xs)) ≡ b → b ≡ false
  any-end past so_far = sym so_far ∙ ap (λ ys. list_any p (map f ys)) (drop-past xs i past)

-- ---- checks of two lists, one after the other

module _ {A R : Type 0} (f : A → Checks R) where
  pub fails-front : (xs ys : List A) (r : R) → FailsFirst (each_in_order f xs) r → FailsFirst (each_in_order f (xs ++ ys)) r
  fails-front [] ys r fails = absurd fails
  fails-front (x ∷ xs) ys r fails = go (f x) fails (fails-front xs ys r)
    where
      go : (cs : Checks R) → FailsFirst (cs >> each_in_order f xs) r → (FailsFirst (each_in_order f xs) r → FailsFirst (each_in_order f (xs ++ ys)) r) → FailsFirst (cs >> each_in_order f (xs ++ ys)) r
      go nothing here more = more here
      go (ask q P cs) (inl out) more = inl out
      go (ask q P cs) (inr (p, here)) more = inr (p, go cs here more)

  pub judges-behind : {B : Type 0} → (xs ys : List A) (r : Result B R) → AllHold (each_in_order f xs) → Judges r (each_in_order f ys) → Judges r (each_in_order f (xs ++ ys))
  judges-behind [] ys r all judges = judges
  judges-behind (x ∷ xs) ys r all judges =
      judges-after (f x) (each_in_order f (xs ++ ys)) r (all_hold-first (f x) (each_in_order f xs) all) (judges-behind xs ys r (all_hold-rest (f x) (each_in_order f xs) all) judges)

  pub judges-single : {B : Type 0} → (x : A) (r : Result B R) → Judges r (f x) → Judges r (each_in_order f (x ∷ []))
  judges-single x (Ok b) all = all_hold-both (f x) nothing all tt
  judges-single x (Err r) fails = fails-before (f x) nothing r fails

-- ---- where memory may run out

pub mem-before : (bs cs : Checks Fault) (halt : Halt) → OnFault halt (FailsFirst bs) → OnFault halt (FailsFirst (bs >> cs))
mem-before bs cs (halts.Fault f) fails = fails-before bs cs f fails
mem-before bs cs halts.Mem _ = tt

pub mem-after : (bs cs : Checks Fault) (halt : Halt) → AllHold bs → OnFault halt (FailsFirst cs) → OnFault halt (FailsFirst (bs >> cs))
mem-after bs cs (halts.Fault f) all fails = fails-after bs cs f all fails
mem-after bs cs halts.Mem all _ = tt

pub mem-decided : (left whole : Checks Fault) (halt : Halt) → Decides left whole → OnFault halt (FailsFirst left) → OnFault halt (FailsFirst whole)
mem-decided left whole (halts.Fault f) d fails = d.fails f fails
mem-decided left whole halts.Mem d _ = tt

-- ---- tests

pub test-out : {P : Type 0} (b : Bool) → (IsTrue b ↔ P) → b ≡ false → P → ⊥
test-out true (to, from) is p = cc
test-out false (to, from) is p = let e : false ≡ true = from p in cc

pub test-in : {P : Type 0} (b : Bool) → (IsTrue b ↔ P) → b ≡ true → P
test-in true (to, from) is = to refl
test-in false (to, from) is = absurd cc

-- ---- checks in other brackets

pub assoc : {R : Type 0} (fs bs cs : Checks R) → ((fs >> bs) >> cs) ≡ (fs >> (bs >> cs))
assoc nothing bs cs = refl
assoc (ask r P fs) bs cs = ap (ask r P) (assoc fs bs cs)
