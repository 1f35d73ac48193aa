-- Variables by their places, and the places of dependencies.
use Rattle.std.proofs.Common.{◌≡◌, ◌∙◌, ◌<◌, ◌≤◌, ◌+◌, ◌++◌, ℕ, zero, suc, List, [], ◌∷◌, length, map, take, drop, Bool, true, false, Option, Some, None, slice_get, All, ap, sym, refl, subst, inl, inr, arith}
use Rattle.std.proofs.lemmas.List.{append-nil, drop_all}
use Rattle.std.proofs.lemmas.List.Elements.{All-nil, All-cons}
use Rattle.std.proofs.lemmas.Bool.{eqb-true}
use Rattle.std.proofs.lemmas.Slice.Eq.{bytes_eq-Decides}
use Rattle.std.specs.Bool.{Decides}
use Rattle.std.specs.List.{list_any}
use Rattle.std.specs.Prelude.{◌||◌, ◌==◌, if◌then◌else◌, bytes_eq}
use Rattle.mz_lex.specs.Lexemes.{Lexeme}
use Rattle.mz_spec_theory.specs.View.{Variable, is_among}
use Rattle.mz_spec_theory.specs.Dependencies.{Every, IsCalled, IsBoundAmong, dep_places}

-- a variable of that name is bound
pub bound-place : (vs : List Variable) (l : Lexeme) → IsBoundAmong vs l → (k : ℕ) × (w : Variable) × (slice_get vs k ≡ Some w) × (w.is_bound ≡ true) × IsCalled w.name l.text
bound-place [] l none = absurd none
bound-place (v ∷ vs) l (inl (is_bound, called)) = (0, v, refl, is_bound, called)
bound-place (v ∷ vs) l (inr one) = let found = bound-place vs l one in (suc found.0, found.1, found.2, found.3, found.4)

-- a variable that is among dependencies has the name of one of them
pub among : (P : List ℕ → Type 0) (ds : List Lexeme) (o : Option Lexeme) → Every (λ d. P d.text) ds → is_among ds o ≡ true → (t : List ℕ) × IsCalled o t × P t
among P ds None all is = absurd cc
among P [] (Some l) all is = absurd cc
among P (d ∷ ds) (Some l) (p, all) is = go (bytes_eq d.text l.text) (bytes_eq-Decides d.text l.text) is (among P ds (Some l) all)
  where
    go : (b : Bool) → Decides b (d.text ≡ l.text) → (b || list_any (λ e. bytes_eq e.text l.text) ds) ≡ true → (is_among ds (Some l) ≡ true → (t : List ℕ) × IsCalled (Some l) t × P t)
        → (t : List ℕ) × IsCalled (Some l) t × P t
    go true by e more = (l.text, refl, subst P (by.0 refl) p)
    go false by e more = more e

pub every-text : (vs : List Variable) (ds : List Lexeme) → Every (IsBoundAmong vs) ds
    → Every (λ d. (k : ℕ) × (w : Variable) × (slice_get vs k ≡ Some w) × (w.is_bound ≡ true) × IsCalled w.name d.text) ds
every-text vs [] all = tt
every-text vs (d ∷ ds) (one, all) = (bound-place vs d one, every-text vs ds all)

-- what holds of the places of such variables holds of all
pub all-places : (P : ℕ → Type 0) (i : ℕ) (vs : List Variable) (ds : List Lexeme) → ((k : ℕ) (v : Variable) → slice_get vs k ≡ Some v → is_among ds v.name ≡ true → P (i + k)) → All P (dep_places i vs ds)
all-places P i [] ds each = All-nil P
all-places P i (v ∷ vs) ds each = go (is_among ds v.name) refl (all-places P (i + 1) vs ds (λ k w at is. subst P (let e : i + suc k ≡ (i + 1) + k = omega arith in e) (each (suc k) w at is)))
  where
    go : (b : Bool) → is_among ds v.name ≡ b → All P (dep_places (i + 1) vs ds) → All P (if b then i ∷ dep_places (i + 1) vs ds else dep_places (i + 1) vs ds)
    go true is rest = All-cons P i (dep_places (i + 1) vs ds) (subst P (let e : i + 0 ≡ i = omega arith in e) (each 0 v refl is)) rest
    go false is rest = rest

pub no-deps : (i : ℕ) (vs : List Variable) → dep_places i vs [] ≡ []
no-deps i [] = refl
no-deps i (v ∷ vs) = go v.name (no-deps (i + 1) vs)
  where
    go : (o : Option Lexeme) → dep_places (i + 1) vs [] ≡ [] → (if is_among [] o then i ∷ dep_places (i + 1) vs [] else dep_places (i + 1) vs []) ≡ []
    go None e = e
    go (Some l) e = e

pub get-back : {X Y : Type 0} → (f : X → Y) (xs : List X) (k : ℕ) (y : Y) → slice_get (map f xs) k ≡ Some y → (x : X) × (slice_get xs k ≡ Some x) × (y ≡ f x)
get-back f [] k y at = absurd cc
get-back f (x ∷ xs) zero y at = (x, refl, let same : f x ≡ y = cc in sym same)
get-back f (x ∷ xs) (suc k) y at = get-back f xs k y at

pub get-take : (vs : List Variable) (i k : ℕ) (w : Variable) → slice_get (take i vs) k ≡ Some w → (k < i) × (slice_get vs k ≡ Some w)
get-take [] zero k w at = absurd cc
get-take [] (suc i) k w at = absurd cc
get-take (v ∷ vs) zero k w at = absurd cc
get-take (v ∷ vs) (suc i) zero w at = (omega arith, at)
get-take (v ∷ vs) (suc i) (suc k) w at = let rest = get-take vs i k w at in (omega (arith, rest.0), rest.1)

-- past the last variable no place is left
pub all-seen : {X : Type 0} → (f : X → Variable) (ds : List Lexeme) (xs : List X) (i : ℕ) (found whole : List ℕ) → length xs ≤ i → found ++ dep_places i (map f (drop i xs)) ds ≡ whole → found ≡ whole
all-seen f ds xs i found whole past so_far = sym (append-nil found) ∙ ap (λ ys. found ++ dep_places i (map f ys) ds) (sym (drop_all i xs past)) ∙ so_far

-- nothing depends on nothing
pub nothing-among : {X : Type 0} → (f : X → Lexeme) (vs : List Variable) (xs : List X) (b : Bool) → b ≡ (length xs == 0) → b ≡ true → [] ≡ dep_places 0 vs (map f xs)
nothing-among f vs [] b is empty = sym (no-deps 0 vs)
nothing-among f vs (x ∷ xs) b is empty = absurd (let e : length (x ∷ xs) ≡ 0 = eqb-true (length (x ∷ xs)) 0 (sym is ∙ empty) in omega (arith, e))

pub every-join : {A : Type 0} → (P : A → Type 0) (xs ys : List A) → Every P xs → Every P ys → Every P (xs ++ ys)
every-join P [] ys a b = b
every-join P (x ∷ xs) ys (p, a) b = (p, every-join P xs ys a b)
