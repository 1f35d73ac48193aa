-- Variables found by an index of their names.
use Rattle.std.proofs.Common.{◌≡◌, ◌∙◌, ◌<◌, ◌≤◌, ◌+◌, ◌⊎◌, ◌↔◌, ℕ, zero, suc, List, [], ◌∷◌, length, map, take, Bool, true, false, Option, Some, None, slice_get, get_or, Contains, ap, sym, refl, subst, inl, inr, arith, eq-or-lt_of_le}
use Rattle.std.specs.Prelude.{◌||◌, ⊤, if◌then◌else◌, bytes_eq, MatchOption, AllPairs, eqb}
use Rattle.std.specs.Bool.{Decides}
use Rattle.std.specs.Ordering.{nat_cmp}
use Rattle.std.specs.List.{list_any, dedup}
use Rattle.std.specs.List.Sorted.{IsPermutation, IsSorted}
use Rattle.std.proofs.lemmas.List.Elements.{All-contains, Contains-append_left, Contains-append_right, Contains-append_cases}
use Rattle.std.proofs.lemmas.List.Kept.{Contains-dedup_nat, Contains-from_dedup, AllPairs-from_increasing}
use Rattle.std.proofs.lemmas.List.Sorted.{Contains-permutation, IsPermutation-sym}
use Rattle.std.proofs.lemmas.Map.Keys.{IsStrictlyIncreasing-dedup}
use Rattle.std.proofs.lemmas.Option.{slice_get_within, slice_get-get_or}
use Rattle.std.proofs.lemmas.Slice.Eq.{bytes_eq-Decides}
use Rattle.std.proofs.lemmas.Bool.{or_right}
use Rattle.mz_base.proofs.Offered.{slice_get-map_at, contains_tail, contains_head, contains_cases}
use Rattle.mz_lex.specs.Lexemes.{Lexeme}
use Rattle.mz_logic_theory.proofs.Offered.{one_at}
use Rattle.mz_lex.specs.Places.{place_of}
use Rattle.mz_spec_variables.specs.Code.{variable}
use Rattle.mz_spec_variables.specs.declared.variables.Variable.{Variable as VariableRead}
use Rattle.mz_spec_variables.specs.Index.{IsNamedAt, IsIndexUpTo, IsIndexOf, found_in, all_found}
use Rattle.mz_spec_theory.specs.Dependencies.{IsCalled, IsBoundAmong, dep_places}
use Rattle.mz_spec_theory.specs.View.{Variable, is_among}
use Rattle.mz_spec_theory.proofs.Offered.{bound-place, all-places, get-back, get-take}

called-same : (o : Option Lexeme) (a b : List ℕ) → IsCalled o a → IsCalled o b → a ≡ b
called-same None a b p q = absurd p
called-same (Some l) a b p q = sym p ∙ q

last-or-before : (k n : ℕ) → k < n + 1 → (k ≡ n) ⊎ (k < n)
last-or-before k n below = eq-or-lt_of_le (let le : k ≤ n = omega (arith, below) in le)

-- ---- an index of one variable more

pub no-index : (vs : List Variable) → IsIndexUpTo 0 vs []
no-index vs = record { leads = λ t k below named. omega (arith, below); distinct = λ t j k before below a b. absurd (omega (arith, before)) }

module _ (vs : List Variable) (n : ℕ) (v : Variable) (at : slice_get vs n ≡ Some v) (old new : List (List ℕ × ℕ)) (index : IsIndexUpTo n vs old) where
  same-name : (t : List ℕ) → IsNamedAt vs t n → IsCalled v.name t
  same-name t (w, here, called) = subst (λ (u : Variable). IsCalled u.name t) (sym (one_at at here)) called

  module _ (t0 : List ℕ) (called : IsCalled v.name t0) (fresh : place_of old t0 ≡ None) (made : (w : List ℕ) → place_of new w ≡ (if bytes_eq t0 w then Some n else place_of old w)) where
    is-it : (t : List ℕ) → IsNamedAt vs t n → t0 ≡ t
    is-it t named = called-same v.name t0 t called (same-name t named)

    gone : (k : ℕ) → k < n → IsNamedAt vs t0 k → ⊥
    gone = subst (λ o. MatchOption o ((k : ℕ) → k < n → IsNamedAt vs t0 k → ⊥) (λ k. (k < n) × IsNamedAt vs t0 k)) fresh (index.leads t0)

    lead : (t : List ℕ) (b : Bool) (o : Option ℕ) → Decides b (t0 ≡ t) → MatchOption o ((k : ℕ) → k < n → IsNamedAt vs t k → ⊥) (λ k. (k < n) × IsNamedAt vs t k)
        → MatchOption (if b then Some n else o) ((k : ℕ) → k < n + 1 → IsNamedAt vs t k → ⊥) (λ k. (k < n + 1) × IsNamedAt vs t k)
    lead t true o by old = (omega arith, (v, at, subst (IsCalled v.name) (by.0 refl) called))
    lead t false None by old = λ k below named. elim (last-or-before k n below) [
      | inl last ↦ (let e : false ≡ true = by.1 (is-it t (subst (IsNamedAt vs t) last named)) in cc)
      | inr before ↦ old k before named
    ]
    lead t false (Some k) by (below, named) = (omega (arith, below), named)

    pub named-step : IsIndexUpTo (n + 1) vs new
    named-step = record { leads = λ t. subst (λ o. MatchOption o ((k : ℕ) → k < n + 1 → IsNamedAt vs t k → ⊥) (λ k. (k < n + 1) × IsNamedAt vs t k)) (sym (made t)) (lead t (bytes_eq t0 t) (place_of old t) (bytes_eq-Decides t0 t) (index.leads t)); distinct = apart }
      where
        both : (t : List ℕ) (k : ℕ) → k < n → IsNamedAt vs t n → IsNamedAt vs t k → ⊥
        both t k before last named = gone k before (subst (λ s. IsNamedAt vs s k) (sym (is-it t last)) named)

        apart : (t : List ℕ) (j k : ℕ) → j < n + 1 → k < n + 1 → IsNamedAt vs t j → IsNamedAt vs t k → j ≡ k
        apart t j k j-below k-below a b = go (last-or-before j n j-below) (last-or-before k n k-below)
          where
            go : (j ≡ n) ⊎ (j < n) → (k ≡ n) ⊎ (k < n) → j ≡ k
            go (inl p) (inl q) = p ∙ sym q
            go (inl p) (inr q) = absurd (both t k q (subst (IsNamedAt vs t) p a) b)
            go (inr p) (inl q) = absurd (both t j p (subst (IsNamedAt vs t) q b) a)
            go (inr p) (inr q) = index.distinct t j k p q a b

  module _ (unnamed : v.name ≡ None) where
    not-it : (t : List ℕ) → IsNamedAt vs t n → ⊥
    not-it t named = subst (λ o. IsCalled o t) unnamed (same-name t named)

    lead-on : (t : List ℕ) (o : Option ℕ) → MatchOption o ((k : ℕ) → k < n → IsNamedAt vs t k → ⊥) (λ k. (k < n) × IsNamedAt vs t k)
        → MatchOption o ((k : ℕ) → k < n + 1 → IsNamedAt vs t k → ⊥) (λ k. (k < n + 1) × IsNamedAt vs t k)
    lead-on t None old = λ k below named. elim (last-or-before k n below) [ inl last ↦ not-it t (subst (IsNamedAt vs t) last named) | inr before ↦ old k before named ]
    lead-on t (Some k) (below, named) = (omega (arith, below), named)

    pub unnamed-step : IsIndexUpTo (n + 1) vs old
    unnamed-step = record { leads = λ t. lead-on t (place_of old t) (index.leads t); distinct = apart }
      where
        apart : (t : List ℕ) (j k : ℕ) → j < n + 1 → k < n + 1 → IsNamedAt vs t j → IsNamedAt vs t k → j ≡ k
        apart t j k j-below k-below a b = go (last-or-before j n j-below) (last-or-before k n k-below)
          where
            go : (j ≡ n) ⊎ (j < n) → (k ≡ n) ⊎ (k < n) → j ≡ k
            go (inl p) q = absurd (not-it t (subst (IsNamedAt vs t) p a))
            go (inr p) (inl q) = absurd (not-it t (subst (IsNamedAt vs t) q b))
            go (inr p) (inr q) = index.distinct t j k p q a b

-- ---- a bound variable that is found

take-get : (vs : List Variable) (i k : ℕ) (w : Variable) → k < i → slice_get vs k ≡ Some w → slice_get (take i vs) k ≡ Some w
take-get [] i k w below at = absurd cc
take-get (v ∷ vs) zero k w below at = absurd (omega (arith, below))
take-get (v ∷ vs) (suc i) zero w below at = at
take-get (v ∷ vs) (suc i) (suc k) w below at = take-get vs i k w (omega (arith, below)) at

among-at : (vs : List Variable) (l : Lexeme) (k : ℕ) (w : Variable) → slice_get vs k ≡ Some w → w.is_bound ≡ true → IsCalled w.name l.text → IsBoundAmong vs l
among-at [] l k w at bound called = absurd cc
among-at (v ∷ vs) l zero w at bound called = (let same : v ≡ w = one_at refl at in inl (subst (λ (u : Variable). (u.is_bound ≡ true) × IsCalled u.name l.text) (sym same) (bound, called)))
among-at (v ∷ vs) l (suc k) w at bound called = inr (among-at vs l k w at bound called)

module _ (vs : List Variable) (places : List (List ℕ × ℕ)) (index : IsIndexOf vs places) (end : ℕ) (l : Lexeme) where
  -- a variable of the name stands at the place, before the end
  abbrev pub IsBoundThere : ℕ → Type 0
  IsBoundThere k = (k < end) × (v : Variable) × (slice_get vs k ≡ Some v) × (v.is_bound ≡ true)

  found-none : place_of places l.text ≡ None → IsBoundAmong (take end vs) l → ⊥
  found-none none one =
      let (k, w, at, bound, called) = bound-place (take end vs) l one in
      let there = get-take vs end k w at in
      subst (λ o. MatchOption o ((j : ℕ) → j < length vs → IsNamedAt vs l.text j → ⊥) (λ j. (j < length vs) × IsNamedAt vs l.text j)) none (index.leads l.text) k (slice_get_within vs k w there.1) (w, there.1, called)

  pub none-bound : place_of places l.text ≡ None → (b : Bool) → b ≡ false → (b ≡ true) ↔ IsBoundAmong (take end vs) l
  none-bound none b is = (λ holds. (let e : false ≡ true = sym is ∙ holds in cc), λ one. absurd (found-none none one))

  pub some-bound : (p : ℕ) → place_of places l.text ≡ Some p → (b : Bool) → (b ≡ true) ↔ IsBoundThere p → (b ≡ true) ↔ IsBoundAmong (take end vs) l
  some-bound p found b (to, from) = (forth, back)
    where
      lead : (p < length vs) × IsNamedAt vs l.text p
      lead = subst (λ o. MatchOption o ((j : ℕ) → j < length vs → IsNamedAt vs l.text j → ⊥) (λ j. (j < length vs) × IsNamedAt vs l.text j)) found (index.leads l.text)

      forth : b ≡ true → IsBoundAmong (take end vs) l
      forth holds =
          let (below, v, at, bound) = to holds in
          let (u, here, called) = lead.1 in
          let same = one_at here at in
          among-at (take end vs) l p v (take-get vs end p v below at) bound (subst (λ (w : Variable). IsCalled w.name l.text) same called)

      back : IsBoundAmong (take end vs) l → b ≡ true
      back one =
          let (k, w, at, bound, called) = bound-place (take end vs) l one in
          let there = get-take vs end k w at in
          let same : k ≡ p = index.distinct l.text k p (slice_get_within vs k w there.1) lead.0 (w, there.1, called) lead.1 in
          from (subst IsBoundThere same (there.0, w, there.1, bound))

-- ---- the places of dependencies

among-called : (ds : List Lexeme) (o : Option Lexeme) (t : List ℕ) → IsCalled o t → is_among ds o ≡ list_any (λ d. bytes_eq d.text t) ds
among-called ds None t called = absurd called
among-called ds (Some l) t called = ap (λ s. list_any (λ d. bytes_eq d.text s) ds) called

among-name : (ds : List Lexeme) (o : Option Lexeme) → is_among ds o ≡ true → (t : List ℕ) × IsCalled o t
among-name ds None is = absurd cc
among-name ds (Some l) is = (l.text, refl)

found-cases : (places : List (List ℕ × ℕ)) (ds : List Lexeme) (x : ℕ) → Contains (found_in places ds) x → (t : List ℕ) × (list_any (λ d. bytes_eq d.text t) ds ≡ true) × (place_of places t ≡ Some x)
found-cases places [] x (k, below, _) = absurd (omega (arith, below))
found-cases places (d ∷ ds) x has = go (place_of places d.text) refl (Contains-append_cases (all_found (place_of places d.text)) (found_in places ds) x has) (found-cases places ds x)
  where
    go : (o : Option ℕ) → place_of places d.text ≡ o → Contains (all_found o) x ⊎ Contains (found_in places ds) x
        → (Contains (found_in places ds) x → (t : List ℕ) × (list_any (λ e. bytes_eq e.text t) ds ≡ true) × (place_of places t ≡ Some x))
        → (t : List ℕ) × ((bytes_eq d.text t || list_any (λ e. bytes_eq e.text t) ds) ≡ true) × (place_of places t ≡ Some x)
    go o is (inr rest) behind = (let (t, any, at) = behind rest in (t, or_right (bytes_eq d.text t) _ any, at))
    go None is (inl (k, below, _)) behind = absurd (omega (arith, below))
    go (Some p) is (inl here) behind = elim (contains_cases p x [] here) [
      | inl same ↦ (d.text, ap (λ b. b || list_any (λ e. bytes_eq e.text d.text) ds) ((bytes_eq-Decides d.text d.text).1 refl), is ∙ ap Some same)
      | inr (k, below, _) ↦ absurd (omega (arith, below))
    ]

found-has : (places : List (List ℕ × ℕ)) (ds : List Lexeme) (t : List ℕ) (x : ℕ) → list_any (λ d. bytes_eq d.text t) ds ≡ true → place_of places t ≡ Some x → Contains (found_in places ds) x
found-has places [] t x any at = absurd cc
found-has places (d ∷ ds) t x any at = go (bytes_eq d.text t) (bytes_eq-Decides d.text t) any (λ rest. found-has places ds t x rest at)
  where
    go : (b : Bool) → Decides b (d.text ≡ t) → (b || list_any (λ e. bytes_eq e.text t) ds) ≡ true → (list_any (λ e. bytes_eq e.text t) ds ≡ true → Contains (found_in places ds) x) → Contains (found_in places (d ∷ ds)) x
    go true by any behind =
        Contains-append_left (all_found (place_of places d.text)) (found_in places ds) x
        (subst (λ o. Contains (all_found o) x) (sym (ap (place_of places) (by.0 refl) ∙ at)) (contains_head x []))
    go false by any behind = Contains-append_right (all_found (place_of places d.text)) (found_in places ds) x (behind any)

dep-has : (ds : List Lexeme) (i : ℕ) (vs : List Variable) (k : ℕ) (v : Variable) → slice_get vs k ≡ Some v → is_among ds v.name ≡ true → Contains (dep_places i vs ds) (i + k)
dep-has ds i [] k v at is = absurd cc
dep-has ds i (u ∷ vs) zero v at is =
    let same : u ≡ v = one_at refl at in
    subst (λ b. Contains (if b then i ∷ dep_places (i + 1) vs ds else dep_places (i + 1) vs ds) (i + 0)) (sym (subst (λ (w : Variable). is_among ds w.name ≡ true) (sym same) is))
    (subst (Contains (i ∷ dep_places (i + 1) vs ds)) (let e : i ≡ i + 0 = omega arith in e) (contains_head i (dep_places (i + 1) vs ds)))
dep-has ds i (u ∷ vs) (suc k) v at is =
    go (is_among ds u.name) (subst (Contains (dep_places (i + 1) vs ds)) (let e : (i + 1) + k ≡ i + suc k = omega arith in e) (dep-has ds (i + 1) vs k v at is))
  where
    go : (b : Bool) → Contains (dep_places (i + 1) vs ds) (i + suc k) → Contains (if b then i ∷ dep_places (i + 1) vs ds else dep_places (i + 1) vs ds) (i + suc k)
    go true has = contains_tail i (i + suc k) (dep_places (i + 1) vs ds) has
    go false has = has

-- ---- lists in order

-- each is below all behind it
abbrev Ascends : List ℕ → Type 0
Ascends [] = ⊤
Ascends (x ∷ xs) = ((y : ℕ) → Contains xs y → x < y) × Ascends xs

pairs-ascend : (xs : List ℕ) → AllPairs (λ x y. x < y) xs → Ascends xs
pairs-ascend [] pairs = tt
pairs-ascend (x ∷ xs) pairs = (
  λ y (k, below, is). subst (λ z. x < z) is (pairs 0 (suc k) y (omega arith) (omega (arith, below))),
  pairs-ascend xs (λ i j d before below. pairs (suc i) (suc j) d (omega (arith, before)) (omega (arith, below))),
)

dep-ascend : (ds : List Lexeme) (i : ℕ) (vs : List Variable) → Ascends (dep_places i vs ds)
dep-ascend ds i [] = tt
dep-ascend ds i (v ∷ vs) = go (is_among ds v.name) (dep-ascend ds (i + 1) vs)
  where
    above : (y : ℕ) → Contains (dep_places (i + 1) vs ds) y → i < y
    above y has = All-contains (λ j. i < j) (dep_places (i + 1) vs ds) y (all-places (λ j. i < j) (i + 1) vs ds (λ k w at is. omega arith)) has

    go : (b : Bool) → Ascends (dep_places (i + 1) vs ds) → Ascends (if b then i ∷ dep_places (i + 1) vs ds else dep_places (i + 1) vs ds)
    go true rest = (above, rest)
    go false rest = rest

one-order : (xs ys : List ℕ) → Ascends xs → Ascends ys → ((z : ℕ) → Contains xs z ↔ Contains ys z) → xs ≡ ys
one-order [] [] a b same = refl
one-order [] (y ∷ ys) a b same = (let (k, below, _) = (same y).1 (contains_head y ys) in absurd (omega (arith, below)))
one-order (x ∷ xs) [] a b same = (let (k, below, _) = (same x).0 (contains_head x xs) in absurd (omega (arith, below)))
one-order (x ∷ xs) (y ∷ ys) (low-x, a) (low-y, b) same = go (contains_cases y x ys ((same x).0 (contains_head x xs))) (contains_cases x y xs ((same y).1 (contains_head y ys))) (one-order xs ys a b)
  where
    there : (u v : ℕ) (us ws : List ℕ) → u ≡ v → ((z : ℕ) → Contains us z → u < z) → ((z : ℕ) → Contains (u ∷ us) z → Contains (v ∷ ws) z) → (z : ℕ) → Contains us z → Contains ws z
    there u v us ws is low more z has = elim (contains_cases v z ws (more z (contains_tail u z us has))) [
      | inl e ↦ absurd (let less = low z has in omega (arith, e, is, less))
      | inr rest ↦ rest
    ]

    joined : x ≡ y → (((z : ℕ) → Contains xs z ↔ Contains ys z) → xs ≡ ys) → x ∷ xs ≡ y ∷ ys
    joined is rest = ap (λ u. u ∷ xs) is ∙ ap (λ us. y ∷ us) (rest (λ z. (there x y xs ys is low-x (λ u. (same u).0) z, there y x ys xs (sym is) low-y (λ u. (same u).1) z)))

    go : (y ≡ x) ⊎ Contains ys x → (x ≡ y) ⊎ Contains xs y → (((z : ℕ) → Contains xs z ↔ Contains ys z) → xs ≡ ys) → x ∷ xs ≡ y ∷ ys
    go (inl is) other rest = joined (sym is) rest
    go (inr in-ys) (inl is) rest = joined is rest
    go (inr in-ys) (inr in-xs) rest = absurd (let p = low-y x in-ys in let q = low-x y in-xs in omega (arith, p, q))

module _ (vs : List Variable) (places : List (List ℕ × ℕ)) (index : IsIndexOf vs places) (ds : List Lexeme) where
  found-dep : (x : ℕ) → Contains (found_in places ds) x → Contains (dep_places 0 vs ds) x
  found-dep x has =
      let (t, any, at) = found-cases places ds x has in
      let (below, (v, here, called)) = subst (λ o. MatchOption o ((j : ℕ) → j < length vs → IsNamedAt vs t j → ⊥) (λ j. (j < length vs) × IsNamedAt vs t j)) at (index.leads t) in
      subst (Contains (dep_places 0 vs ds)) (let e : 0 + x ≡ x = omega arith in e) (dep-has ds 0 vs x v here (among-called ds v.name t called ∙ any))

  -- the k-th variable is among the dependencies
  abbrev IsDep : ℕ → Type 0
  IsDep x = (v : Variable) × (slice_get vs x ≡ Some v) × (is_among ds v.name ≡ true)

  dep-found : (x : ℕ) → Contains (dep_places 0 vs ds) x → Contains (found_in places ds) x
  dep-found x has =
      let (v, here, is) = All-contains IsDep (dep_places 0 vs ds) x (all-places IsDep 0 vs ds (λ k w at is. subst IsDep (let e : k ≡ 0 + k = omega arith in e) (w, at, is))) has in
      let (t, called) = among-name ds v.name is in
      found-has places ds t x (sym (among-called ds v.name t called) ∙ is) (go t (place_of places t) refl (index.leads t) (v, here, called) (slice_get_within vs x v here))
    where
      go : (t : List ℕ) (o : Option ℕ) → place_of places t ≡ o → MatchOption o ((j : ℕ) → j < length vs → IsNamedAt vs t j → ⊥) (λ j. (j < length vs) × IsNamedAt vs t j) → IsNamedAt vs t x → x < length vs → place_of places t ≡ Some x
      go t None is none named below = absurd (none x below named)
      go t (Some p) is (p-below, at) named below = is ∙ ap Some (index.distinct t p x p-below below at named)

  -- in order, each once
  pub sorted-places : (sorted out : List ℕ) → IsPermutation (found_in places ds) sorted → IsSorted nat_cmp sorted → out ≡ dedup eqb sorted → out ≡ dep_places 0 vs ds
  sorted-places sorted out moved in-order is =
      is ∙ one-order (dedup eqb sorted) (dep_places 0 vs ds) (pairs-ascend (dedup eqb sorted) (AllPairs-from_increasing (dedup eqb sorted) (IsStrictlyIncreasing-dedup sorted in-order))) (dep-ascend ds 0 vs)
      (λ x. (
        λ has. found-dep x (Contains-permutation sorted (found_in places ds) x (IsPermutation-sym (found_in places ds) sorted moved) (Contains-from_dedup eqb sorted x has)),
        λ has. Contains-dedup_nat sorted x (Contains-permutation (found_in places ds) sorted x moved (dep-found x has)),
      ))

-- ---- what a loop reads

pub get-item : {X Y : Type 0} → (f : X → Y) (xs : List X) (i : ℕ) (x : X) → i < length xs → x ≡ get_or xs i x → slice_get (map f xs) i ≡ Some (f x)
get-item f xs i x below is = slice_get-map_at f xs i x (slice_get-get_or xs i x below ∙ ap Some (sym is))

-- the same of a variable as it is read
pub read-bound : (xs : List VariableRead) (end p : ℕ) (b : Bool) → (b ≡ true) ↔ ((p < end) × (v : VariableRead) × (slice_get xs p ≡ Some v) × (v.is_bound ≡ true))
    → (b ≡ true) ↔ ((p < end) × (v : Variable) × (slice_get (map variable xs) p ≡ Some v) × (v.is_bound ≡ true))
read-bound xs end p b (to, from) = (forth, back)
  where
    forth : b ≡ true → (p < end) × (v : Variable) × (slice_get (map variable xs) p ≡ Some v) × (v.is_bound ≡ true)
    forth holds = let (below, v, at, bound) = to holds in (below, variable v, slice_get-map_at variable xs p v at, bound)

    back : (p < end) × (v : Variable) × (slice_get (map variable xs) p ≡ Some v) × (v.is_bound ≡ true) → b ≡ true
    back (below, w, at, bound) =
        let found = get-back variable xs p w at in
        from (below, found.0, found.1, subst (λ (u : Variable). u.is_bound ≡ true) found.2 bound)

-- it stands where it is read
pub bound-here : (xs : List VariableRead) (end p : ℕ) (v : VariableRead) → end ≤ length xs → p < end → v ≡ get_or xs p v → (v.is_bound ≡ true) ↔ ((p < end) × (w : VariableRead) × (slice_get xs p ≡ Some w) × (w.is_bound ≡ true))
bound-here xs end p v within below is = (λ bound. (below, v, here, bound), λ (_, w, at, bound). subst (λ (u : VariableRead). u.is_bound ≡ true) (one_at at here) bound)
  where
    here : slice_get xs p ≡ Some v
    here = slice_get-get_or xs p v (omega (arith, within, below)) ∙ ap Some (sym is)
