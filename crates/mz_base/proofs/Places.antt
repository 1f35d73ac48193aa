-- What stands where in a list.
use Rattle.std.proofs.Common.{◌≡◌, ◌<◌, ◌≤◌, ◌+◌, ◌-◌, ◌⊎◌, ◌++◌, ◌∙◌, ℕ, zero, suc, List, [], ◌∷◌, length, drop, get_or, map, Some, refl, sym, ap, inl, inr, arith, append_assoc, length-append, take}
use Rattle.std.specs.Prelude.{slice_get, slice_range}
use Rattle.std.proofs.Math.Seq.{drop-cons, drop-append_seam, take-length}
use Rattle.std.proofs.lemmas.List.{drop_all}
use Rattle.std.proofs.lemmas.Option.{none-some, same_Some}

-- ---- one list, of elements or of none

pub nil-cons : {A : Type 0} {x : A} {xs : List A} → [] ≡ x ∷ xs → ⊥
nil-cons e = cc

pub same-head : {A : Type 0} {x y : A} {xs ys : List A} → x ∷ xs ≡ y ∷ ys → x ≡ y
same-head e = cc

pub same-tail : {A : Type 0} {x y : A} {xs ys : List A} → x ∷ xs ≡ y ∷ ys → xs ≡ ys
same-tail e = cc

pub some-length : {A : Type 0} (xs : List A) → (xs ≡ [] → ⊥) → 0 < length xs
some-length [] other = absurd (other refl)
some-length (x ∷ xs) other = omega arith

pub slice_get-some : {A : Type 0} (xs : List A) (i : ℕ) → i < length xs → (x : A) × (slice_get xs i ≡ Some x)
slice_get-some [] i lt = absurd (omega (arith, lt))
slice_get-some (x ∷ xs) zero lt = (x, refl)
slice_get-some (x ∷ xs) (suc i) lt = slice_get-some xs i (omega (arith, lt))

-- ---- two lists, one behind the other

pub slice_get-append : {A : Type 0} (xs ys : List A) (i : ℕ) (x : A) → slice_get xs i ≡ Some x → slice_get (xs ++ ys) i ≡ Some x
slice_get-append [] ys i x e = absurd (none-some x e)
slice_get-append (y ∷ xs) ys zero x e = e
slice_get-append (y ∷ xs) ys (suc i) x e = slice_get-append xs ys i x e

pub slice_get-within : {A : Type 0} (xs ys : List A) (i : ℕ) → i < length xs → slice_get (xs ++ ys) i ≡ slice_get xs i
slice_get-within [] ys i lt = absurd (omega (arith, lt))
slice_get-within (x ∷ xs) ys zero lt = refl
slice_get-within (x ∷ xs) ys (suc i) lt = slice_get-within xs ys i (omega (arith, lt))

pub slice_get-front : {A : Type 0} (xs ys : List A) (i : ℕ) (x : A) → i < length xs → slice_get (xs ++ ys) i ≡ Some x → slice_get xs i ≡ Some x
slice_get-front xs ys i x lt at = sym (slice_get-within xs ys i lt) ∙ at

pub slice_get-append_add : {A : Type 0} (xs ys : List A) (k : ℕ) → slice_get (xs ++ ys) (length xs + k) ≡ slice_get ys k
slice_get-append_add [] ys k = ap (slice_get ys) (omega arith)
slice_get-append_add (x ∷ xs) ys k = ap (slice_get (x ∷ (xs ++ ys))) shift ∙ slice_get-append_add xs ys k
  where
    shift : suc (length xs) + k ≡ suc (length xs + k)
    shift = omega arith

pub slice_get-append_cases : {A : Type 0} (xs ys : List A) (i : ℕ) (x : A) → slice_get (xs ++ ys) i ≡ Some x → (slice_get xs i ≡ Some x) ⊎ ((j : ℕ) × (slice_get ys j ≡ Some x))
slice_get-append_cases [] ys i x at = inr (i, at)
slice_get-append_cases (y ∷ xs) ys zero x at = inl at
slice_get-append_cases (y ∷ xs) ys (suc i) x at = slice_get-append_cases xs ys i x at

pub slice_range-end : (xs ys : List ℕ) → slice_range (xs ++ ys) (length xs) (length (xs ++ ys)) ≡ ys
slice_range-end xs ys =
    let many : length (xs ++ ys) - length xs ≡ length ys = (let e = length-append xs ys in omega (arith, e)) in
    ap (λ (n : ℕ). take n (drop (length xs) (xs ++ ys))) many ∙ ap (take (length ys)) (drop-append_seam xs ys) ∙ take-length ys

-- twice something behind a list
pub appended : {A : Type 0} (old a b p q : List A) → a ≡ old ++ p → b ≡ a ++ q → b ≡ old ++ (p ++ q)
appended old a b p q is-a is-b = is-b ∙ ap (λ t. t ++ q) is-a ∙ append_assoc old p q

-- ---- one more at the end

pub length-push : {A : Type 0} (xs : List A) (x : A) → length (xs ++ x ∷ []) ≡ suc (length xs)
length-push [] x = refl
length-push (y ∷ xs) x = ap suc (length-push xs x)

pub slice_get-last : {A : Type 0} (xs : List A) (x : A) → slice_get (xs ++ x ∷ []) (length xs) ≡ Some x
slice_get-last [] x = refl
slice_get-last (y ∷ xs) x = slice_get-last xs x

pub slice_get-push_cases : {A : Type 0} (xs : List A) (y : A) (i : ℕ) (x : A) → slice_get (xs ++ y ∷ []) i ≡ Some x → (slice_get xs i ≡ Some x) ⊎ ((i ≡ length xs) × (y ≡ x))
slice_get-push_cases [] y zero x e = inr (refl, same_Some y x e)
slice_get-push_cases [] y (suc i) x e = absurd (none-some x e)
slice_get-push_cases (z ∷ xs) y zero x e = inl e
slice_get-push_cases (z ∷ xs) y (suc i) x e = elim (slice_get-push_cases xs y i x e) [ inl here ↦ inl here | inr last ↦ inr (ap suc last.0, last.1) ]

-- ---- each element changed

pub slice_get-map_at : {A B : Type 0} (f : A → B) (xs : List A) (i : ℕ) (x : A) → slice_get xs i ≡ Some x → slice_get (map f xs) i ≡ Some (f x)
slice_get-map_at f [] i x at = absurd (none-some x at)
slice_get-map_at f (y ∷ xs) zero x at = ap (λ z. Some (f z)) (same_Some y x at)
slice_get-map_at f (y ∷ xs) (suc i) x at = slice_get-map_at f xs i x at

pub slice_get-map_back : {A B : Type 0} (f : A → B) (xs : List A) (i : ℕ) (y : B) → slice_get (map f xs) i ≡ Some y → (x : A) × (slice_get xs i ≡ Some x) × (f x ≡ y)
slice_get-map_back f [] i y at = absurd (none-some y at)
slice_get-map_back f (x ∷ xs) zero y at = (x, refl, same_Some (f x) y at)
slice_get-map_back f (x ∷ xs) (suc i) y at = slice_get-map_back f xs i y at

-- ---- from a place on

-- the element at hand, and what is left behind it
pub drop-item : {X : Type 0} (xs : List X) (i : ℕ) (x : X) → i < length xs → x ≡ get_or xs i x → drop i xs ≡ x ∷ drop (i + 1) xs
drop-item xs i x within is =
    let on : suc i ≡ i + 1 = omega arith in
    drop-cons xs i x within ∙ ap (λ y. y ∷ drop (suc i) xs) (sym is) ∙ ap (λ n. x ∷ drop n xs) on

pub drop-past : {X : Type 0} (xs : List X) (i : ℕ) → length xs ≤ i → drop i xs ≡ []
drop-past xs i past = drop_all i xs past

pub take-short : {X : Type 0} (n : ℕ) (xs : List X) → length (take n xs) ≤ n
take-short zero xs = omega arith
take-short (suc n) [] = omega arith
take-short (suc n) (x ∷ xs) = omega (arith, take-short n xs)

-- ---- numbers of places

pub one-further : (i l : ℕ) → suc i + l ≡ i + suc l
one-further i l = omega arith

pub below-or-last : (i n : ℕ) → i < n + 1 → (i < n) ⊎ (i ≡ n)
below-or-last zero zero below = inr refl
below-or-last zero (suc n) below = inl (omega arith)
below-or-last (suc i) zero below = absurd (omega (arith, below))
below-or-last (suc i) (suc n) below = elim (below-or-last i n (omega (arith, below))) [ inl less ↦ inl (omega (arith, less)) | inr same ↦ inr (ap suc same) ]
