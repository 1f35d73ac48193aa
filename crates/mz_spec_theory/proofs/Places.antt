-- Variables by their places and names.
use Rattle.std.proofs.Common.{◌≡◌, ◌≢◌, ◌∙◌, ◌++◌, ◌<◌, ◌≤◌, ◌+◌, ◌⊎◌, ℕ, zero, suc, List, [], ◌∷◌, length, map, take, Bool, true, false, Option, Some, None, slice_get, Contains, ap, sym, refl, subst, inl, inr, arith, append_assoc}
use Rattle.std.proofs.lemmas.List.{append-nil, length-map}
use Rattle.std.specs.Prelude.{◌-◌, IsTrue, if◌then◌else◌}
use Rattle.std.proofs.lemmas.List.Elements.{Contains-append_left}
use Rattle.mz_base.proofs.Offered.{slice_get-append, place-of, contains_at, all_hold-first, all_hold-rest, new-last, new-parts}
use Rattle.mz_base.specs.Identifiers.{is_name}
use Rattle.mz_lex.specs.Lexemes.{Lexeme}
use Rattle.mz_base.specs.Checks.{AllHold}
use Rattle.mz_math_theory.specs.Kept.{AreVariables}
use Rattle.mz_base.specs.Names.{IsNew}
use Rattle.mz_spec_theory.specs.View.{Variable, name_texts, params_of, dummies_of}
use Rattle.mz_spec_theory.specs.Rules.{are_others, is_other, IsBinder, AreBinders}
use Rattle.mz_spec_theory.specs.Dependencies.{Every, IsCalled}
use Rattle.mz_spec_theory.specs.State.{State, bytes_of, variable_bytes}
use Rattle.mz_spec_theory.proofs.VariablePlaces.{get-back}
use Rattle.mz_spec_theory.proofs.Naming.{IsNamed}

-- ---- names

-- a variable's name is none of those before it
unseen : (seen : List (List ℕ)) (vs : List Variable) (k : ℕ) (w : Variable) (t : List ℕ) → AllHold (are_others seen vs) → slice_get vs k ≡ Some w → IsCalled w.name t → IsNew seen t
unseen seen [] k w t all at called = absurd cc
unseen seen (v ∷ vs) zero w t all at called = let same : v ≡ w = cc in go w.name called (subst (λ u. AllHold (is_other seen u.name)) same (all_hold-first (is_other seen v.name) _ all))
  where
    go : (o : Option Lexeme) → IsCalled o t → AllHold (is_other seen o) → IsNew seen t
    go None called all = absurd called
    go (Some l) called all = subst (IsNew seen) called all.0
unseen seen (v ∷ vs) (suc k) w t all at called =
    (new-parts seen (name_texts v.name) t (unseen (seen ++ name_texts v.name) vs k w t (all_hold-rest (is_other seen v.name) _ all) at called)).0

called-text : (o : Option Lexeme) (t : List ℕ) → IsCalled o t → name_texts o ≡ t ∷ []
called-text None t called = absurd called
called-text (Some l) t called = ap (λ x. x ∷ []) called

clash : (seen : List (List ℕ)) (v w : Variable) (vs : List Variable) (k : ℕ) (t : List ℕ) → AllHold (are_others seen (v ∷ vs)) → slice_get vs k ≡ Some w → IsCalled v.name t → IsCalled w.name t → ⊥
clash seen v w vs k t all at a b =
    (new-last seen t t (subst (λ ts. IsNew (seen ++ ts) t) (called-text v.name t a) (unseen (seen ++ name_texts v.name) vs k w t (all_hold-rest (is_other seen v.name) _ all) at b))).1 refl

-- no two variables share a name
pub one-place : (seen : List (List ℕ)) (vs : List Variable) (j k : ℕ) (v w : Variable) (t : List ℕ) → AllHold (are_others seen vs) → slice_get vs j ≡ Some v → slice_get vs k ≡ Some w
    → IsCalled v.name t → IsCalled w.name t → j ≡ k
one-place seen [] j k v w t all at_j at_k a b = absurd cc
one-place seen (u ∷ vs) zero zero v w t all at_j at_k a b = refl
one-place seen (u ∷ vs) zero (suc k) v w t all at_j at_k a b = let same : u ≡ v = cc in absurd (clash seen u w vs k t all at_k (subst (λ x. IsCalled x.name t) (sym same) a) b)
one-place seen (u ∷ vs) (suc j) zero v w t all at_j at_k a b = let same : u ≡ w = cc in absurd (clash seen u v vs j t all at_j (subst (λ x. IsCalled x.name t) (sym same) b) a)
one-place seen (u ∷ vs) (suc j) (suc k) v w t all at_j at_k a b = ap suc (one-place (seen ++ name_texts u.name) vs j k v w t (all_hold-rest (is_other seen u.name) _ all) at_j at_k a b)

-- ---- binders

pub binder-at : (σ : State) (before vs : List Variable) (i : ℕ) (v : Variable) → AreBinders σ before vs → slice_get vs i ≡ Some v → IsBinder σ (before ++ take i vs) v
binder-at σ before [] i v are at = absurd cc
binder-at σ before (u ∷ vs) zero v are at = let same : u ≡ v = cc in subst (λ bs. IsBinder σ bs v) (sym (append-nil before)) (subst (IsBinder σ before) same are.0)
binder-at σ before (u ∷ vs) (suc i) v are at = subst (λ bs. IsBinder σ bs v) (append_assoc before (u ∷ []) (take i vs)) (binder-at σ (before ++ u ∷ []) vs i v are.1 at)

-- ---- parameters and dummies by their places

-- the k-th variable is the i-th parameter
abbrev IsParamAt : List Variable → ℕ → Variable → Type 0
IsParamAt vs i v = (k : ℕ) × (slice_get vs k ≡ Some v) × (v.is_dummy ≡ false) × (i ≡ length (params_of (take k vs)))

abbrev IsDummyAt : List Variable → ℕ → Variable → Type 0
IsDummyAt vs i v = (k : ℕ) × (slice_get vs k ≡ Some v) × (v.is_dummy ≡ true) × (i ≡ length (dummies_of (take k vs)))

pub param-at : (vs : List Variable) (i : ℕ) (v : Variable) → slice_get (params_of vs) i ≡ Some v → IsParamAt vs i v
param-at [] i v at = absurd cc
param-at (u ∷ vs) i v at = go u.is_dummy refl i at (λ j there. param-at vs j v there)
  where
    further : (j : ℕ) → IsParamAt vs j v → (i : ℕ) → ((k : ℕ) → length (params_of (take (suc k) (u ∷ vs))) ≡ (i - j) + length (params_of (take k vs))) → j ≤ i → IsParamAt (u ∷ vs) i v
    further j (k, here, plain, is) i more le = (suc k, here, plain, let e = more k in omega (arith, e, is, le))

    go : (b : Bool) → u.is_dummy ≡ b → (i : ℕ) → slice_get (if b then params_of vs else u ∷ params_of vs) i ≡ Some v → ((j : ℕ) → slice_get (params_of vs) j ≡ Some v → IsParamAt vs j v) → IsParamAt (u ∷ vs) i v
    go true is i at more_at = further i (more_at i at) i (λ k. ap (λ b. length (if b then params_of (take k vs) else u ∷ params_of (take k vs))) is ∙ (let e : length (params_of (take k vs)) ≡ (i - i) + length (params_of (take k vs)) = omega arith in e)) (omega arith)
    go false is zero at more_at = let same : u ≡ v = cc in (0, ap Some same, subst (λ x. x.is_dummy ≡ false) same is, refl)
    go false is (suc i) at more_at = further i (more_at i at) (suc i) (λ k. ap (λ b. length (if b then params_of (take k vs) else u ∷ params_of (take k vs))) is ∙ (let e : suc (length (params_of (take k vs))) ≡ (suc i - i) + length (params_of (take k vs)) = omega arith in e)) (omega arith)

pub dummy-at : (vs : List Variable) (i : ℕ) (v : Variable) → slice_get (dummies_of vs) i ≡ Some v → IsDummyAt vs i v
dummy-at [] i v at = absurd cc
dummy-at (u ∷ vs) i v at = go u.is_dummy refl i at (λ j there. dummy-at vs j v there)
  where
    further : (j : ℕ) → IsDummyAt vs j v → (i : ℕ) → ((k : ℕ) → length (dummies_of (take (suc k) (u ∷ vs))) ≡ (i - j) + length (dummies_of (take k vs))) → j ≤ i → IsDummyAt (u ∷ vs) i v
    further j (k, here, plain, is) i more le = (suc k, here, plain, let e = more k in omega (arith, e, is, le))

    go : (b : Bool) → u.is_dummy ≡ b → (i : ℕ) → slice_get (if b then u ∷ dummies_of vs else dummies_of vs) i ≡ Some v → ((j : ℕ) → slice_get (dummies_of vs) j ≡ Some v → IsDummyAt vs j v) → IsDummyAt (u ∷ vs) i v
    go false is i at more_at = further i (more_at i at) i (λ k. ap (λ b. length (if b then u ∷ dummies_of (take k vs) else dummies_of (take k vs))) is ∙ (let e : length (dummies_of (take k vs)) ≡ (i - i) + length (dummies_of (take k vs)) = omega arith in e)) (omega arith)
    go true is zero at more_at = let same : u ≡ v = cc in (0, ap Some same, subst (λ x. x.is_dummy ≡ true) same is, refl)
    go true is (suc i) at more_at = further i (more_at i at) (suc i) (λ k. ap (λ b. length (if b then u ∷ dummies_of (take k vs) else dummies_of (take k vs))) is ∙ (let e : suc (length (dummies_of (take k vs))) ≡ (suc i - i) + length (dummies_of (take k vs)) = omega arith in e)) (omega arith)

-- no two parameters share a name
pub one-param : (vs : List Variable) (i j : ℕ) (v w : Variable) (t : List ℕ) → AllHold (are_others [] vs) → slice_get (params_of vs) i ≡ Some v → slice_get (params_of vs) j ≡ Some w
    → IsCalled v.name t → IsCalled w.name t → i ≡ j
one-param vs i j v w t others at_i at_j a b =
    let p = param-at vs i v at_i in
    let q = param-at vs j w at_j in
    let same = one-place [] vs p.0 q.0 v w t others p.1 q.1 a b in
    p.3 ∙ ap (λ k. length (params_of (take k vs))) same ∙ sym q.3

-- ---- the names of parameters and dummies

called-bytes : (o : Option Lexeme) (w : List ℕ) → w ≢ [] → bytes_of o ≡ w → IsCalled o w
called-bytes None w some is = absurd (some (sym is))
called-bytes (Some l) w some is = is

-- a name among those of parameters and dummies is a variable's, and its place names that variable's
abbrev IsNameAt : List Variable → ℕ → List ℕ → Type 0
IsNameAt vs i w = ((v : Variable) × IsParamAt vs i v × (variable_bytes v ≡ w)) ⊎ ((v : Variable) × (length (params_of vs) ≤ i) × IsDummyAt vs (i - length (params_of vs)) v × (variable_bytes v ≡ w))

get-either : {X : Type 0} → (xs ys : List X) (i : ℕ) (x : X) → slice_get (xs ++ ys) i ≡ Some x → (slice_get xs i ≡ Some x) ⊎ ((length xs ≤ i) × (slice_get ys (i - length xs) ≡ Some x))
get-either [] ys i x at = inr (omega arith, subst (λ n. slice_get ys n ≡ Some x) (let e : i ≡ i - 0 = omega arith in e) at)
get-either (z ∷ xs) ys zero x at = inl at
get-either (z ∷ xs) ys (suc i) x at = elim (get-either xs ys i x at) [
  | inl here ↦ inl here
  | inr (le, there) ↦ inr (omega (arith, le), subst (λ n. slice_get ys n ≡ Some x) (let e : i - length xs ≡ suc i - suc (length xs) = omega arith in e) there)
]

name-at : (vs : List Variable) (i : ℕ) (w : List ℕ) → slice_get (map variable_bytes (params_of vs) ++ map variable_bytes (dummies_of vs)) i ≡ Some w → IsNameAt vs i w
name-at vs i w at = elim (get-either (map variable_bytes (params_of vs)) (map variable_bytes (dummies_of vs)) i w at) [
  | inl here ↦ (let found = get-back variable_bytes (params_of vs) i w here in inl (found.0, param-at vs i found.0 found.1, sym found.2))
  | inr (le, there) ↦ (
      let long = length-map (params_of vs) variable_bytes in
      let found = get-back variable_bytes (dummies_of vs) (i - length (map variable_bytes (params_of vs))) w there in
      inr (found.0, omega (arith, long, le), subst (λ n. IsDummyAt vs (i - n) found.0) long (dummy-at vs (i - length (map variable_bytes (params_of vs))) found.0 found.1), sym found.2)
      )
]

module _ (vs : List Variable) (others : AllHold (are_others [] vs)) where
  -- one place in the statement for one name
  one-variable : (j k : ℕ) (v w : Variable) (t : List ℕ) → t ≢ [] → slice_get vs j ≡ Some v → slice_get vs k ≡ Some w → variable_bytes v ≡ t → variable_bytes w ≡ t → (j ≡ k) × (v ≡ w)
  one-variable j k v w t some at_j at_k a b =
      let same = one-place [] vs j k v w t others at_j at_k (called-bytes v.name t some a) (called-bytes w.name t some b) in
      (same, let there : slice_get vs k ≡ Some v = subst (λ i. slice_get vs i ≡ Some v) same at_j in cc)

  distinct : (i j : ℕ) (w : List ℕ) → w ≢ [] → IsNameAt vs i w → IsNameAt vs j w → i ≡ j
  distinct i j w some (inl (v, (k, at, plain, is), a)) (inl (u, (l, at_l, plain_l, is_l), b)) =
      let same = one-variable k l v u w some at at_l a b in
      is ∙ ap (λ n. length (params_of (take n vs))) same.0 ∙ sym is_l
  distinct i j w some (inl (v, (k, at, plain, is), a)) (inr (u, le, (l, at_l, plain_l, is_l), b)) =
      let same = one-variable k l v u w some at at_l a b in
      absurd (let e : true ≡ false = sym plain_l ∙ sym (ap (λ x. x.is_dummy) same.1) ∙ plain in cc)
  distinct i j w some (inr (v, le, (k, at, plain, is), a)) (inl (u, (l, at_l, plain_l, is_l), b)) =
      let same = one-variable k l v u w some at at_l a b in
      absurd (let e : true ≡ false = sym plain ∙ ap (λ x. x.is_dummy) same.1 ∙ plain_l in cc)
  distinct i j w some (inr (v, le, (k, at, plain, is), a)) (inr (u, le_u, (l, at_l, plain_l, is_l), b)) =
      let same = one-variable k l v u w some at at_l a b in
      let e = is ∙ ap (λ n. length (dummies_of (take n vs))) same.0 ∙ sym is_l in
      omega (arith, e, le, le_u)

every-named : (vs : List Variable) (k : ℕ) (v : Variable) → Every IsNamed vs → slice_get vs k ≡ Some v → IsNamed v
every-named [] k v all at = absurd cc
every-named (u ∷ vs) zero v all at = let same : u ≡ v = cc in subst IsNamed same all.0
every-named (u ∷ vs) (suc k) v all at = every-named vs k v all.1 at

bytes-named : (v : Variable) (w : List ℕ) → IsNamed v → w ≢ [] → variable_bytes v ≡ w → IsTrue (is_name w)
bytes-named v w named some is = go v.name (λ l e. named l e) is
  where
    go : (o : Option Lexeme) → ((l : Lexeme) → o ≡ Some l → IsTrue (is_name l.text)) → bytes_of o ≡ w → IsTrue (is_name w)
    go None named is = absurd (some (sym is))
    go (Some l) named is = subst (λ t. IsTrue (is_name t)) is (named l refl)

-- parameters, then dummies, have names of their own, which are identifiers
pub split-variables : (vs : List Variable) → AllHold (are_others [] vs) → Every IsNamed vs → AreVariables (map variable_bytes (params_of vs) ++ map variable_bytes (dummies_of vs))
split-variables vs others named = record {
  distinct = λ i j w some at_i at_j. distinct vs others i j w some (name-at vs i w at_i) (name-at vs j w at_j);
  identifiers = λ w some has. let found = place-of (map variable_bytes (params_of vs) ++ map variable_bytes (dummies_of vs)) w has in go w some found.0 (name-at vs found.0 w found.1);
}
  where
    go : (w : List ℕ) → w ≢ [] → (i : ℕ) → IsNameAt vs i w → IsTrue (is_name w)
    go w some i (inl (v, (k, at, plain, is), a)) = bytes-named v w (every-named vs k v named at) some a
    go w some i (inr (v, le, (k, at, plain, is), a)) = bytes-named v w (every-named vs k v named at) some a

-- those of the first part alone
pub front-variables : (xs ys : List (List ℕ)) → AreVariables (xs ++ ys) → AreVariables xs
front-variables xs ys are = record {
  distinct = λ i j w some at_i at_j. are.distinct i j w some (slice_get-append xs ys i w at_i) (slice_get-append xs ys j w at_j);
  identifiers = λ w some has. are.identifiers w some (Contains-append_left xs ys w has);
}

-- ---- one more name

module _ (names : List (List ℕ)) (w : List ℕ) (rest : List (List ℕ)) (are : AreVariables (names ++ w ∷ rest)) where
  here : slice_get (names ++ w ∷ rest) (length names) ≡ Some w
  here = at_length names
    where
      at_length : (ns : List (List ℕ)) → slice_get (ns ++ w ∷ rest) (length ns) ≡ Some w
      at_length [] = refl
      at_length (n ∷ ns) = at_length ns

  empty-decided : (v : List ℕ) → (v ≡ []) ⊎ (v ≢ [])
  empty-decided [] = inl refl
  empty-decided (c ∷ cs) = inr (λ e. cc)

  pub next-named : (w ≡ []) ⊎ IsTrue (is_name w)
  next-named = elim (empty-decided w) [ inl none ↦ inl none | inr some ↦ inr (are.identifiers w some (contains_at (names ++ w ∷ rest) (length names) w here)) ]

  get-front : (ns ms : List (List ℕ)) (i : ℕ) → slice_get ns i ≡ Some w → (slice_get (ns ++ ms) i ≡ Some w) × (i < length ns)
  get-front [] ms i at = absurd cc
  get-front (n ∷ ns) ms zero at = (at, omega arith)
  get-front (n ∷ ns) ms (suc i) at = let rest = get-front ns ms i at in (rest.0, omega (arith, rest.1))

  pub next-other : w ≢ [] → Contains names w → ⊥
  next-other some has =
      let found = place-of names w has in
      let front = get-front names (w ∷ rest) found.0 found.1 in
      let same = are.distinct found.0 (length names) w some front.0 here in
      omega (arith, same, front.1)
