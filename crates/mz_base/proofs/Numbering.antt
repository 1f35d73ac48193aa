-- Numbers of names in lists.
use Rattle.std.proofs.Common.{◌≡◌, ◌∙◌, ◌<◌, ◌+◌, ◌++◌, ℕ, zero, suc, List, [], ◌∷◌, length, Bool, true, false, Option, Some, None, ap, sym, refl, arith, get_or}
use Rattle.std.specs.Prelude.{option_map, if◌then◌else◌, bytes_eq}
use Rattle.std.proofs.lemmas.Bool.{false≢true, false_from_ne_true}
use Rattle.std.proofs.lemmas.Slice.Eq.{bytes_eq-Decides}
use Rattle.mz_base.specs.Names.{number_of, IsNew, IsKnown}

-- the number of a name, where the first of the names is this one or isn't
abbrev pub first_or : Bool → Option ℕ → Option ℕ
first_or b o = if b then Some 0 else option_map suc o

pub not-first : (b : Bool) (o : Option ℕ) → first_or b o ≡ None → (b ≡ false) × (o ≡ None)
not-first true o is = absurd cc
not-first false None is = (refl, refl)
not-first false (Some k) is = let some : Some (suc k) ≡ None = is in absurd cc

same-name : (x w : List ℕ) → x ≡ w → bytes_eq w x ≡ true
same-name x w is = (bytes_eq-Decides w x).1 (sym is)

other-name : (x w : List ℕ) → (x ≡ w → ⊥) → bytes_eq w x ≡ false
other-name x w other = false_from_ne_true (bytes_eq w x) (λ is. other (sym ((bytes_eq-Decides w x).0 is)))

-- ---- one list

-- a number is a place among the names
pub number-within : (names : List (List ℕ)) (name : List ℕ) (n : ℕ) → number_of names name ≡ Some n → n < length names
number-within [] name n e = absurd cc
number-within (other ∷ names) name n e = go (bytes_eq name other) (number_of names name) e (λ k. number-within names name k)
  where
    go : (b : Bool) (o : Option ℕ) → first_or b o ≡ Some n → ((k : ℕ) → o ≡ Some k → k < length names) → n < length (other ∷ names)
    go true o is more = let same : 0 ≡ n = cc in omega (arith, same)
    go false None is more = absurd cc
    go false (Some k) is more = let same : suc k ≡ n = cc in omega (arith, same, more k refl)

-- a new name is another than the first of them, and new among those behind it
pub new-first : (x : List ℕ) (xs : List (List ℕ)) (w : List ℕ) → IsNew (x ∷ xs) w → (x ≡ w → ⊥) × IsNew xs w
new-first x xs w new =
    let parts = not-first (bytes_eq w x) (number_of xs w) new in
    ((λ is. false≢true (sym parts.0 ∙ same-name x w is)), parts.1)

-- and than each of them
pub new-other : (xs : List (List ℕ)) (w : List ℕ) → IsNew xs w → (i : ℕ) → i < length xs → get_or xs i [] ≡ w → ⊥
new-other [] w new i less is = absurd (omega arith)
new-other (x ∷ xs) w new zero less is = (new-first x xs w new).0 is
new-other (x ∷ xs) w new (suc i) less is = new-other xs w (new-first x xs w new).1 i (omega arith) is

-- where each of the names is another one, it is new
pub all-others : (names : List (List ℕ)) (f : ℕ → List ℕ) (n : List ℕ) → ((i : ℕ) → i < length names → get_or names i [] ≡ f i)
    → ((i : ℕ) → i < length names → f i ≡ n → ⊥) → IsNew names n
all-others [] f n are others = refl
all-others (x ∷ xs) f n are others =
    let first : bytes_eq n x ≡ false = other-name x n (λ is. others 0 (omega arith) (sym (are 0 (omega arith)) ∙ is)) in
    ap (λ b. first_or b (number_of xs n)) first
    ∙ ap (option_map suc) (all-others xs (λ i. f (suc i)) n (λ i less. are (suc i) (omega arith)) (λ i less. others (suc i) (omega arith)))

-- a name that stands among them is known
pub known-first : (x : List ℕ) (xs : List (List ℕ)) (n : List ℕ) → x ≡ n → IsKnown (x ∷ xs) n
known-first x xs n is = (0, ap (λ b. first_or b (number_of xs n)) (same-name x n is))

pub known-later : (x : List ℕ) (xs : List (List ℕ)) (n : List ℕ) → IsKnown xs n → IsKnown (x ∷ xs) n
known-later x xs n (i, at) = go (bytes_eq n x)
  where
    go : (b : Bool) → (k : ℕ) × (first_or b (number_of xs n) ≡ Some k)
    go true = (0, refl)
    go false = (suc i, ap (option_map suc) at)

-- ---- two lists

-- the number among the first ones, or else the one counted behind them
abbrev pub or_later : Option ℕ → ℕ → Option ℕ → Option ℕ
or_later (Some n) many later = Some n
or_later None many None = None
or_later None many (Some k) = Some (many + k)

later-zero : (o : Option ℕ) → o ≡ or_later None 0 o
later-zero None = refl
later-zero (Some k) = let e : k ≡ 0 + k = omega arith in ap Some e

later-suc : (n : ℕ) (o : Option ℕ) → option_map suc (or_later None n o) ≡ or_later None (suc n) o
later-suc n None = refl
later-suc n (Some k) = let e : suc (n + k) ≡ suc n + k = omega arith in ap Some e

pub number-both : (xs ys : List (List ℕ)) (w : List ℕ) → number_of (xs ++ ys) w ≡ or_later (number_of xs w) (length xs) (number_of ys w)
number-both [] ys w = later-zero (number_of ys w)
number-both (x ∷ xs) ys w = go (bytes_eq w x) (number_of xs w) (number_of (xs ++ ys) w) (number-both xs ys w)
  where
    go : (b : Bool) (o p : Option ℕ) → p ≡ or_later o (length xs) (number_of ys w)
        → first_or b p ≡ or_later (first_or b o) (suc (length xs)) (number_of ys w)
    go true o p e = refl
    go false (Some n) p e = ap (option_map suc) e
    go false None p e = ap (option_map suc) e ∙ later-suc (length xs) (number_of ys w)

-- a name is new among both where it is new among each
pub new-both : (xs ys : List (List ℕ)) (w : List ℕ) → IsNew xs w → IsNew ys w → IsNew (xs ++ ys) w
new-both xs ys w here there =
    number-both xs ys w ∙ ap (λ o. or_later o (length xs) (number_of ys w)) here ∙ ap (or_later None (length xs)) there

pub new-parts : (xs ys : List (List ℕ)) (w : List ℕ) → IsNew (xs ++ ys) w → IsNew xs w × IsNew ys w
new-parts xs ys w new = go (number_of xs w) (number_of ys w) (sym (number-both xs ys w) ∙ new)
  where
    go : (o p : Option ℕ) → or_later o (length xs) p ≡ None → (o ≡ None) × (p ≡ None)
    go (Some n) p e = absurd cc
    go None None e = (refl, refl)
    go None (Some k) e = absurd cc

-- ---- one name more

-- a name keeps its number
pub number-more : (xs : List (List ℕ)) (x w : List ℕ) (i : ℕ) → number_of xs w ≡ Some i → number_of (xs ++ x ∷ []) w ≡ Some i
number-more xs x w i is = number-both xs (x ∷ []) w ∙ ap (λ o. or_later o (length xs) (number_of (x ∷ []) w)) is

-- a new name that comes last has the last number
pub number-last : (xs : List (List ℕ)) (w : List ℕ) → IsNew xs w → number_of (xs ++ w ∷ []) w ≡ Some (length xs)
number-last xs w new =
    let last : length xs + 0 ≡ length xs = omega arith in
    number-both xs (w ∷ []) w ∙ ap (λ o. or_later o (length xs) (number_of (w ∷ []) w)) new
    ∙ ap (λ b. or_later None (length xs) (first_or b None)) (same-name w w refl) ∙ ap Some last

-- one that is another than the last stays new
pub new-more : (xs : List (List ℕ)) (x w : List ℕ) → IsNew xs w → (x ≡ w → ⊥) → IsNew (xs ++ x ∷ []) w
new-more xs x w new other = new-both xs (x ∷ []) w new (ap (λ b. first_or b None) (other-name x w other))

pub new-last : (xs : List (List ℕ)) (x w : List ℕ) → IsNew (xs ++ x ∷ []) w → IsNew xs w × (x ≡ w → ⊥)
new-last xs x w new = let parts = new-parts xs (x ∷ []) w new in (parts.0, (new-first x [] w parts.1).0)
