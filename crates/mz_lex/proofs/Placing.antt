-- Places by keys: what a look-up and one more key give, and lists that grow.
use Rattle.std.proofs.Common.{◌≡◌, ◌≢◌, ◌≤◌, ◌<◌, ◌+◌, ◌⊎◌, ◌++◌, ◌∙◌, ℕ, List, [], ◌∷◌, length, Bool, true, false, Option, Some, None, Ok, Err, ap, sym, refl, subst, inl, inr, arith, drop, slice_get, Contains, map, length-append}
use Rattle.std.specs.Prelude.{OnErr, Result, bytes_eq, if◌then◌else◌}
use Rattle.std.specs.Bool.{Decides}
use Rattle.std.specs.Cmp.Lexicographic.{bytes_decides}
use Rattle.std.specs.Map.{lookup}
use Rattle.std.proofs.lemmas.Bool.{cases_Bool, cond-true, cond-false, true≢false}
use Rattle.std.proofs.lemmas.Option.{get_or_from_slice_get, slice_get_within, same_Some}
use Rattle.std.proofs.lemmas.Slice.Eq.{bytes_eq-Decides}
use Rattle.indexmap.specs.IndexMap.{insert_entry}
use Rattle.mz_base.proofs.Offered.{slice_get-append, slice_get-push_cases, contains_at, other-bytes, length-push, below-or-last, drop-item}
use Rattle.mz_lex.specs.Names.{AreFoundBeyond}
use Rattle.mz_lex.specs.Places.{place_of, LeadsTo}

-- ---- keys of a map

bytes-turned : (a b : List ℕ) → bytes_eq a b ≡ bytes_eq b a
bytes-turned a b = go (bytes_eq a b) (bytes_eq b a) (bytes_eq-Decides a b) (bytes_eq-Decides b a)
  where
    go : (x y : Bool) → Decides x (a ≡ b) → Decides y (b ≡ a) → x ≡ y
    go true y d e = sym (e.1 (sym (d.0 refl)))
    go false true d e = d.1 (sym (e.0 refl))
    go false false d e = refl

module _ {K P : Type 0} (f : K → List ℕ) where
  -- the entries by the keys' names
  abbrev pub named : List (K × P) → List (List ℕ × P)
  named es = map (λ e. (f e.0, e.1)) es

  pub look-is : (w : List ℕ) (test : K → Bool) → ((k : K) → test k ≡ bytes_eq w (f k)) → (es : List (K × P)) → lookup test es ≡ place_of (named es) w
  look-is w test tests [] = refl
  look-is w test tests (e ∷ es) =
      ap (λ b. if b then Some e.1 else lookup test es) (tests e.0)
      ∙ ap (λ r. if bytes_eq w (f e.0) then Some e.1 else r) (look-is w test tests es)

  -- what is found from an entry on
  module _ (w : List ℕ) (es : List (K × P)) (i : ℕ) (e : K × P) (at : slice_get es i ≡ Some e) where
    entry : place_of (named (drop i es)) w ≡ (if bytes_eq w (f e.0) then Some e.1 else place_of (named (drop (i + 1) es)) w)
    entry = ap (λ xs. place_of (named xs) w) (drop-item es i e (slice_get_within es i e at) (sym (get_or_from_slice_get es i e e at)))

    pub found-here : bytes_eq w (f e.0) ≡ true → Some e.1 ≡ place_of (named (drop i es)) w
    found-here same = sym (entry ∙ cond-true (bytes_eq w (f e.0)) (Some e.1) (place_of (named (drop (i + 1) es)) w) same)

    pub found-behind : bytes_eq w (f e.0) ≡ false → place_of (named (drop (i + 1) es)) w ≡ place_of (named (drop i es)) w
    found-behind other = sym (entry ∙ cond-false (bytes_eq w (f e.0)) (Some e.1) (place_of (named (drop (i + 1) es)) w) other)

  module _ (eq : K → K → Bool) (tests : (j k : K) → eq j k ≡ bytes_eq (f j) (f k)) (k : K) (x : P) (w : List ℕ) where
    -- one more name
    pub put-is : (es : List (K × P)) → place_of (named (insert_entry eq es k x)) w ≡ (if bytes_eq (f k) w then Some x else place_of (named es) w)
    put-is [] = ap (λ b. if b then Some x else None) (bytes-turned w (f k))
    put-is (e ∷ es) = ap (λ b. place_of (named (if b then (e.0, x) ∷ es else e ∷ insert_entry eq es k x)) w) (tests k e.0) ∙ split (bytes_eq (f k) (f e.0))
        ∙ go (bytes_eq (f k) (f e.0)) (bytes_eq w (f e.0)) (bytes_eq (f k) w)
        (bytes_eq-Decides (f k) (f e.0)) (bytes_eq-Decides w (f e.0)) (bytes_eq-Decides (f k) w)
        (place_of (named (insert_entry eq es k x)) w) (put-is es)
      where
        split : (b : Bool) → place_of (named (if b then (e.0, x) ∷ es else e ∷ insert_entry eq es k x)) w
            ≡ (if b then (if bytes_eq w (f e.0) then Some x else place_of (named es) w) else (if bytes_eq w (f e.0) then Some e.1 else place_of (named (insert_entry eq es k x)) w))
        split true = refl
        split false = refl

        go : (b c d : Bool) → Decides b (f k ≡ f e.0) → Decides c (w ≡ f e.0) → Decides d (f k ≡ w) → (new : Option P) → new ≡ (if d then Some x else place_of (named es) w)
            → (if b then (if c then Some x else place_of (named es) w) else (if c then Some e.1 else new)) ≡ (if d then Some x else (if c then Some e.1 else place_of (named es) w))
        go true true true same here it new is = refl
        go true true false same here it new is = let e : false ≡ true = it.1 (same.0 refl ∙ sym (here.0 refl)) in absurd cc
        go true false true same here it new is = let e : false ≡ true = here.1 (sym (it.0 refl) ∙ same.0 refl) in absurd cc
        go true false false same here it new is = refl
        go false true true same here it new is = let e : false ≡ true = same.1 (it.0 refl ∙ here.0 refl) in absurd cc
        go false true false same here it new is = refl
        go false false true same here it new is = is
        go false false false same here it new is = is

-- ---- lists that grow

module _ {X : Type 0} (HasWord : X → List ℕ → Type 0) (ps qs : List (List ℕ × ℕ)) (xs : List X) (bs : List ℕ) where
  -- the items lead to their places, where the key that is added is none of theirs
  pub leads-kept : LeadsTo HasWord ps xs → ((x : X) → Contains xs x → HasWord x bs → ⊥) → ((w : List ℕ) → place_of qs w ≡ (if bytes_eq bs w then Some (length xs) else place_of ps w)) → LeadsTo HasWord qs xs
  leads-kept is new more i x w at has = more w ∙ cond-false (bytes_eq bs w) (Some (length xs)) (place_of ps w) other ∙ is i x w at has
    where
      other : bytes_eq bs w ≡ false
      other = elim (cases_Bool (bytes_eq bs w)) [
        | inl same ↦ absurd (new x (contains_at xs i x at) (subst (HasWord x) (sym ((bytes_decides bs w).0 same)) has))
        | inr differs ↦ differs
      ]

  pub leads-more : (y : X) → ((w : List ℕ) → HasWord y w → bs ≡ w) → LeadsTo HasWord ps xs → ((x : X) → Contains xs x → HasWord x bs → ⊥)
      → ((w : List ℕ) → place_of qs w ≡ (if bytes_eq bs w then Some (length xs) else place_of ps w)) → LeadsTo HasWord qs (xs ++ y ∷ [])
  leads-more y own is new more i x w at has = elim (slice_get-push_cases xs y i x at) [
    | inl there ↦ leads-kept is new more i x w there has
    | inr last ↦ more w ∙ cond-true (bytes_eq bs w) (Some (length xs)) (place_of ps w) ((bytes_decides bs w).1 (own w (subst (λ z. HasWord z w) (sym last.1) has))) ∙ ap Some (sym last.0)
  ]

-- ---- names

pub on-err : {T E P : Type 0} (r : Result T E) → P → OnErr r P
on-err (Ok x) p = tt
on-err (Err e) p = p

module _ (few : ℕ) (ps : List (List ℕ × ℕ)) (names : List (List ℕ)) where
  pub found-front : (ends : List (List ℕ)) → AreFoundBeyond few ps (names ++ ends) → AreFoundBeyond few ps names
  found-front ends is i w at some =
      let here = is i w (slice_get-append names ends i w at) some in
      (λ j there. here.0 j (slice_get-append names ends j w there), λ many. here.1 (let longer = length-append names ends in omega (arith, many, longer)))

  -- where there are few, nothing is asked of the keys
  pub found-few : (qs : List (List ℕ × ℕ)) → length names ≤ few → AreFoundBeyond few ps names → AreFoundBeyond few qs names
  found-few qs at_most is i w at some = ((is i w at some).0, λ many. absurd (omega (arith, at_most, many)))

  pub found-beyond : (least : ℕ) → (least < length names → few < length names) → AreFoundBeyond few ps names → AreFoundBeyond least ps names
  found-beyond least beyond is i w at some = ((is i w at some).0, λ many. (is i w at some).1 (beyond many))

-- each of the first n that stands once has its place
abbrev pub AreNoted : ℕ → List (List ℕ × ℕ) → List (List ℕ) → Type 0
AreNoted n ps names = (i : ℕ) (w : List ℕ) → i < n → slice_get names i ≡ Some w → ((j : ℕ) → slice_get names j ≡ Some w → j ≡ i) → place_of ps w ≡ Some i

module _ (ps qs : List (List ℕ × ℕ)) (names : List (List ℕ)) (name : List ℕ) where
  pub noted-more : (n : ℕ) → slice_get names n ≡ Some name → AreNoted n ps names → ((w : List ℕ) → place_of qs w ≡ (if bytes_eq name w then Some n else place_of ps w)) → AreNoted (n + 1) qs names
  noted-more n own is more i w below at once = elim (cases_Bool (bytes_eq name w)) [
    | inl same ↦ more w ∙ cond-true (bytes_eq name w) (Some n) (place_of ps w) same ∙ ap Some (once n (own ∙ ap Some ((bytes_decides name w).0 same)))
    | inr other ↦ more w ∙ cond-false (bytes_eq name w) (Some n) (place_of ps w) other ∙ is i w (before other) at once
  ]
    where
      before : bytes_eq name w ≡ false → i < n
      before other = elim (below-or-last i n below) [
        | inl less ↦ less
        | inr last ↦ absurd (true≢false (sym ((bytes_decides name w).1 (same_Some name w (sym own ∙ ap (slice_get names) (sym last) ∙ at))) ∙ other))
      ]

  -- one more name, where it is none of those before
  module _ (new : name ≢ [] → Contains names name → ⊥) where
    differs : (i : ℕ) (w : List ℕ) → slice_get names i ≡ Some w → w ≢ [] → name ≡ w → ⊥
    differs i w there some same = new (λ none. some (sym same ∙ none)) (subst (Contains names) (sym same) (contains_at names i w there))

    pub once-more : (few : ℕ) → AreFoundBeyond few ps names → (i j : ℕ) (w : List ℕ) → slice_get (names ++ name ∷ []) i ≡ Some w → slice_get (names ++ name ∷ []) j ≡ Some w → w ≢ [] → j ≡ i
    once-more few is i j w at also some = elim (slice_get-push_cases names name i w at) [
      | inl here ↦ elim (slice_get-push_cases names name j w also) [ inl there ↦ (is i w here some).0 j there | inr last ↦ absurd (differs i w here some last.1) ]
      | inr end ↦ elim (slice_get-push_cases names name j w also) [ inl there ↦ absurd (differs j w there some end.1) | inr last ↦ last.0 ∙ sym end.0 ]
    ]

    pub found-short : (few : ℕ) → length names < few → AreFoundBeyond few ps names → AreFoundBeyond few ps (names ++ name ∷ [])
    found-short few short is i w at some =
        (λ j also. once-more few is i j w at also some, λ many. absurd (let longer = length-push names name in omega (arith, short, many, longer)))

    pub found-more : (few : ℕ) → AreFoundBeyond 0 ps names → ((w : List ℕ) → place_of qs w ≡ (if bytes_eq name w then Some (length names) else place_of ps w)) → AreFoundBeyond few qs (names ++ name ∷ [])
    found-more few is more i w at some = (λ j also. once-more 0 is i j w at also some, λ many. place (slice_get-push_cases names name i w at))
      where
        place : (slice_get names i ≡ Some w) ⊎ ((i ≡ length names) × (name ≡ w)) → place_of qs w ≡ Some i
        place (inl there) =
            more w
            ∙ cond-false (bytes_eq name w) (Some (length names)) (place_of ps w) (other-bytes name w (differs i w there some))
            ∙ (is i w there some).1 (let within = slice_get_within names i w there in omega (arith, within))
        place (inr last) = more w ∙ cond-true (bytes_eq name w) (Some (length names)) (place_of ps w) ((bytes_decides name w).1 last.1) ∙ ap Some (sym last.0)
