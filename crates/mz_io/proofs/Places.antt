-- The first room that serves, and the rooms without it.
use Rattle.std.proofs.Common.{◌≡◌, ◌<◌, ◌+◌, [], ◌∷◌, ◌||◌, ℕ, suc, List, length, map, get_or, Bool, true, false, Option, Some, None, arith, refl, ap, sym, ◌∙◌, ◌≤◌, string_bytes, IfSome, IfNone, inl, inr}
use Rattle.std.proofs.lemmas.Bool.{and_parts, leb-true}
use Rattle.std.proofs.lemmas.Slice.Eq.{bytes_eq-Decides}
use Rattle.std.proofs.lemmas.List.Quantifiers.{position-Some}
use Rattle.std.proofs.lemmas.List.Folds.{list_any_at}
use Rattle.std.proofs.lemmas.Option.{slice_get_cases}
use Rattle.mz_io.specs.Memory.{room_view}
use Rattle.mz_io.specs.declared.room.Room.{Room}
use Rattle.std.specs.Prelude.{find, position, remove}
use Rattle.std.specs.List.{position_or_len, list_any}
use Rattle.mz_io.specs.Outside.{without_first, serves}
use Rattle.mz_io.proofs.Files.{position-is, find-none}

one_more : (n : ℕ) → 1 + n ≡ suc n
one_more n = omega arith

removed_at : {X : Type 0} (p : X → Bool) (x : X) (xs : List X) (b : Bool) → p x ≡ b →
    without_first p xs ≡ remove xs (position_or_len p xs) →
    without_first p (x ∷ xs) ≡ remove (x ∷ xs) (position_or_len p (x ∷ xs))
removed_at p x xs true e ih = rw e refl
removed_at p x xs false e ih = rw (e, one_more) (ap (λ rest. x ∷ rest) ih)

pub without_first-remove : {X : Type 0} (p : X → Bool) (xs : List X) → without_first p xs ≡ remove xs (position_or_len p xs)
without_first-remove p [] = refl
without_first-remove p (x ∷ xs) = removed_at p x xs (p x) refl (without_first-remove p xs)

mapped_at : {X Y : Type 0} (p : Y → Bool) (f : X → Y) (x : X) (xs : List X) (b : Bool) → p (f x) ≡ b →
    without_first p (map f xs) ≡ map f (without_first (λ y. p (f y)) xs) →
    without_first p (map f (x ∷ xs)) ≡ map f (without_first (λ y. p (f y)) (x ∷ xs))
mapped_at p f x xs true e ih = rw e refl
mapped_at p f x xs false e ih = rw e (ap (λ rest. f x ∷ rest) ih)

pub without_first-map : {X Y : Type 0} (p : Y → Bool) (f : X → Y) (xs : List X) → without_first p (map f xs) ≡ map f (without_first (λ y. p (f y)) xs)
without_first-map p f [] = refl
without_first-map p f (x ∷ xs) = mapped_at p f x xs (p (f x)) refl (without_first-map p f xs)

-- the rooms after the first one that serves was taken out
pub without_first-at : {X Y : Type 0} (p : Y → Bool) (f : X → Y) (xs : List X) (i : ℕ) → position (λ x. p (f x)) xs ≡ Some i →
    map f (remove xs i) ≡ without_first p (map f xs)
without_first-at p f xs i e =
    let at = position-is (λ x. p (f x)) xs i e in
    sym (without_first-map p f xs ∙ ap (map f) (without_first-remove (λ x. p (f x)) xs ∙ ap (remove xs) at.0))

any_at : {X : Type 0} (p : X → Bool) (x : X) (xs : List X) (b : Bool) → p x ≡ b → find p (x ∷ xs) ≡ None →
    (find p xs ≡ None → list_any p xs ≡ false) → list_any p (x ∷ xs) ≡ false
any_at p x xs true e none ih = let here = rw e at none in cc
any_at p x xs false e none ih = rw e (ih (rw e at none))

any-none : {X : Type 0} (p : X → Bool) (xs : List X) → find p xs ≡ None → list_any p xs ≡ false
any-none p [] none = refl
any-none p (x ∷ xs) none = any_at p x xs (p x) refl none (any-none p xs)

any-map : {X Y : Type 0} (p : Y → Bool) (f : X → Y) (xs : List X) → list_any p (map f xs) ≡ list_any (λ x. p (f x)) xs
any-map p f [] = refl
any-map p f (x ∷ xs) = ap (λ b. p (f x) || b) (any-map p f xs)

-- no room serves
pub any-map_none : {X Y : Type 0} (p : Y → Bool) (f : X → Y) (xs : List X) → position (λ x. p (f x)) xs ≡ None → list_any p (map f xs) ≡ false
any-map_none p f xs e = any-map p f xs ∙ any-none _ xs (find-none _ xs e)

pub at_first : {X : Type 0} (p : X → Bool) (xs : List X) (place : Option ℕ) → place ≡ position p xs →
    IfSome place (λ i. (i < length xs) × ((d : X) → p (get_or xs i d) ≡ true))
at_first p xs None e = tt
at_first p xs (Some i) e = ((position-is p xs i (sym e)).1, λ d. (position-Some p xs i d (sym e)).1)

-- the rooms after the first one that serves was taken out, or that none serves
pub after_first : {X Y : Type 0} (p : Y → Bool) (f : X → Y) (xs : List X) (place : Option ℕ) → place ≡ position (λ x. p (f x)) xs →
    IfSome place (λ i. map f (remove xs i) ≡ without_first p (map f xs))
after_first p f xs None e = tt
after_first p f xs (Some i) e = without_first-at p f xs i (sym e)

any-some : {X : Type 0} (p : X → Bool) (xs : List X) (i : ℕ) → position p xs ≡ Some i → list_any p xs ≡ true
any-some p xs i e =
    elim ((slice_get_cases xs i).1) [
      | inl (x, within, at, same) ↦ list_any_at p xs i x within (position-Some p xs i x e).1
      | inr (past, at) ↦ absurd (let within = (position-is p xs i e).1 in omega arith)
    ]

pub some_serves : {X Y : Type 0} (p : Y → Bool) (f : X → Y) (xs : List X) (place : Option ℕ) → place ≡ position (λ x. p (f x)) xs →
    IfSome place (λ _. list_any p (map f xs) ≡ true)
some_serves p f xs None e = tt
some_serves p f xs (Some i) e = any-map p f xs ∙ any-some _ xs i (sym e)

pub none_serves : {X Y : Type 0} (p : Y → Bool) (f : X → Y) (xs : List X) (place : Option ℕ) → place ≡ position (λ x. p (f x)) xs →
    IfNone place (list_any p (map f xs) ≡ true → ⊥)
none_serves p f xs None e = λ some. let none = any-map_none p f xs (sym e) in cc
none_serves p f xs (Some i) e = tt

serves-parts : (name : List ℕ) (size : ℕ) (room : Room) → serves name size (room_view room) ≡ true → (string_bytes room.name ≡ name) × (size ≤ room.size)
serves-parts name size room e =
    let parts = and_parts _ _ e in
    ((bytes_eq-Decides (string_bytes room.name) name).0 parts.0, leb-true _ _ parts.1)

pub serves_there : (name : List ℕ) (size : ℕ) (rooms : List Room) (place : Option ℕ) → place ≡ position (λ room. serves name size (room_view room)) rooms →
    IfSome place (λ i. (i < length rooms) × ((d : Room) → (string_bytes (get_or rooms i d).name ≡ name) × (size ≤ (get_or rooms i d).size)))
serves_there name size rooms None e = tt
serves_there name size rooms (Some i) e =
    ((position-is _ rooms i (sym e)).1, λ d. serves-parts name size (get_or rooms i d) (position-Some _ rooms i d (sym e)).1)
