-- The variables of a good statement over what is declared are those over the reader's state.
use Rattle.std.proofs.Common.{◌≡◌, ◌∙◌, ◌++◌, ◌+◌, ℕ, zero, suc, Bool, true, false, List, [], ◌∷◌, length, map, take, Some, slice_get, All, ap, ap₂, sym, refl, subst, arith}
use Rattle.std.proofs.lemmas.List.{append-nil, map-append}
use Rattle.std.proofs.lemmas.List.Elements.{All-nil, All-cons}
use Rattle.std.specs.Prelude.{if◌then◌else◌}
use Rattle.mz_base.specs.Checks.{AllHold, each_in_order}
use Rattle.mz_base.specs.Names.{IsKnown}
use Rattle.mz_base.proofs.Offered.{all_hold-first, all_hold-rest}
use Rattle.mz_lex.specs.Lexemes.{Lexeme}
use Rattle.mz_logic_theory.specs.declared.binder.Binder.{Binder}
use Rattle.mz_logic_theory.specs.declared.binder.ResultType.{ResultType}
use Rattle.mz_math_theory.specs.Notation.{Variables}
use Rattle.mz_spec_theory.specs.Dependencies.{Every, IsCalled, IsBoundAmong, dep_places}
use Rattle.mz_spec_theory.specs.Rules.{are_others, is_known, type_checks, HaveBinders, DependsOnNothing, IsResult}
use Rattle.mz_spec_theory.specs.State.{State, sort_number, binder_of, param_binders, dummy_binders, result_of, signature_of, scope_of, reader_of, variable_bytes}
use Rattle.mz_spec_theory.specs.Statement.{TypeText}
use Rattle.mz_spec_theory.specs.View.{Variable, params_of, dummies_of, names_of, is_among}
use Rattle.mz_spec_theory.proofs.Offered.{among, binder-at, bound-place, dummy-at, get-take, no-deps, one-place, param-at}
use Rattle.mz_spec_proved_theory.specs.Theory.{Theory, in_order, binder_over, binders_over, signature_over, variables_over, reader_over, IsType}

-- what a state declares
abbrev pub theory : State → Theory
theory σ = record { sort_names = σ.sort_names; term_names = σ.term_names; assertion_names = σ.assertion_names; env = σ.env; table = σ.table }

-- ---- lists

map-same : {X Y : Type 0} → (f g : X → Y) (xs : List X) → ((k : ℕ) (x : X) → slice_get xs k ≡ Some x → f x ≡ g x) → map f xs ≡ map g xs
map-same f g [] each = refl
map-same f g (x ∷ xs) each = ap₂ (λ y ys. y ∷ ys) (each 0 x refl) (map-same f g xs (λ k y at. each (suc k) y at))

places-append : (i : ℕ) (xs ys : List Variable) (ls : List Lexeme) → dep_places i (xs ++ ys) ls ≡ dep_places i xs ls ++ dep_places (i + length xs) ys ls
places-append i [] ys ls = ap (λ n. dep_places n ys ls) (let e : i ≡ i + 0 = omega arith in e)
places-append i (x ∷ xs) ys ls =
    go (is_among ls x.name) (places-append (i + 1) xs ys ls ∙ ap (λ n. dep_places (i + 1) xs ls ++ dep_places n ys ls) (let e : (i + 1) + length xs ≡ i + suc (length xs) = omega arith in e))
  where
    go : (b : Bool) → dep_places (i + 1) (xs ++ ys) ls ≡ dep_places (i + 1) xs ls ++ dep_places (i + suc (length xs)) ys ls
        → (if b then i ∷ dep_places (i + 1) (xs ++ ys) ls else dep_places (i + 1) (xs ++ ys) ls)
        ≡ (if b then i ∷ dep_places (i + 1) xs ls else dep_places (i + 1) xs ls) ++ dep_places (i + suc (length xs)) ys ls
    go true is = ap (λ js. i ∷ js) is
    go false is = is

no-places : (i : ℕ) (vs : List Variable) (ls : List Lexeme) → ((k : ℕ) (v : Variable) → slice_get vs k ≡ Some v → is_among ls v.name ≡ false) → dep_places i vs ls ≡ []
no-places i [] ls none = refl
no-places i (v ∷ vs) ls none =
    ap (λ (b : Bool). if b then i ∷ dep_places (i + 1) vs ls else dep_places (i + 1) vs ls) (none 0 v refl) ∙ no-places (i + 1) vs ls (λ k w at. none (suc k) w at)

-- ---- types

known-all : (names : List (List ℕ)) (ls : List Lexeme) → AllHold (each_in_order (is_known names) ls) → All (λ l. IsKnown names l.text) ls
known-all names [] all = All-nil (λ l. IsKnown names l.text)
known-all names (l ∷ ls) all = All-cons (λ l. IsKnown names l.text) l ls all.0 (known-all names ls all.1)

pub types-known : (σ : State) (vs : List Variable) (ts : List TypeText) → AllHold (each_in_order (type_checks σ (names_of vs)) ts) → All (IsType (theory σ) vs) ts
types-known σ vs [] all = All-nil (IsType (theory σ) vs)
types-known σ vs (t ∷ ts) all =
    let here = all_hold-first (type_checks σ (names_of vs) t) (each_in_order (type_checks σ (names_of vs)) ts) all in
    All-cons (IsType (theory σ) vs) t ts (here.0, known-all (names_of vs) t.deps here.1)
    (types-known σ vs ts (all_hold-rest (type_checks σ (names_of vs) t) (each_in_order (type_checks σ (names_of vs)) ts) all))

-- ---- variables

module _ (σ : State) (vs : List Variable) (results : List TypeText) (others : AllHold (are_others [] vs)) (binders : HaveBinders σ vs results) where
  abbrev ps : List Variable
  ps = params_of vs

  abbrev ds : List Variable
  ds = dummies_of vs

  -- a parameter has the name
  abbrev Called : List ℕ → Type 0
  Called x = (j : ℕ) × (w : Variable) × (slice_get ps j ≡ Some w) × IsCalled w.name x

  no-dummy : (ls : List Lexeme) → Every (λ l. Called l.text) ls → (k : ℕ) (v : Variable) → slice_get ds k ≡ Some v → is_among ls v.name ≡ false
  no-dummy ls called k v at = go (is_among ls v.name) refl
    where
      never : is_among ls v.name ≡ true → ⊥
      never is =
          let (t, named, (j, w, there, also)) = among Called ls v.name called is in
          let p = param-at vs j w there in
          let q = dummy-at vs k v at in
          let same : slice_get vs q.0 ≡ Some w = subst (λ i. slice_get vs i ≡ Some w) (one-place [] vs p.0 q.0 w v t others p.1 q.1 also named) p.1 in
          let one : w ≡ v = (let got = q.1 in cc) in
          let clash : false ≡ true = sym p.2 ∙ ap (λ (x : Variable). x.is_dummy) one ∙ q.2 in
          cc

      go : (b : Bool) → is_among ls v.name ≡ b → is_among ls v.name ≡ false
      go true is = absurd (never is)
      go false is = is

  deps-same : (ls : List Lexeme) → Every (λ l. Called l.text) ls → dep_places 0 (in_order vs) ls ≡ dep_places 0 ps ls
  deps-same ls called =
      places-append 0 ps ds ls ∙ ap (λ js. dep_places 0 ps ls ++ js) (no-places (0 + length ps) ds ls (no-dummy ls called)) ∙ append-nil (dep_places 0 ps ls)

  called-all : (us : List Variable) (ls : List Lexeme) → ((k : ℕ) (w : Variable) → slice_get us k ≡ Some w → slice_get ps k ≡ Some w) → Every (IsBoundAmong us) ls → Every (λ l. Called l.text) ls
  called-all us [] there all = tt
  called-all us (l ∷ ls) there (one, all) = let found = bound-place us l one in ((found.0, found.1, there found.0 found.1 found.2, found.4), called-all us ls there all)

  param-deps : (k : ℕ) (v : Variable) → slice_get ps k ≡ Some v → dep_places 0 (in_order vs) v.type.deps ≡ dep_places 0 ps v.type.deps
  param-deps k v at =
      deps-same v.type.deps (called-all (take k ps) v.type.deps (λ i w there. (get-take ps k i w there).1) (binder-at σ [] ps k v binders.0 at).1)

  dummy-deps : (k : ℕ) (v : Variable) → slice_get ds k ≡ Some v → dep_places 0 (in_order vs) v.type.deps ≡ dep_places 0 ps v.type.deps
  dummy-deps k v at =
      let none : v.type.deps ≡ [] = nothing ds k binders.1 at in
      ap (dep_places 0 (in_order vs)) none ∙ no-deps 0 (in_order vs) ∙ sym (ap (dep_places 0 ps) none ∙ no-deps 0 ps)
    where
      nothing : (us : List Variable) (j : ℕ) → Every DependsOnNothing us → slice_get us j ≡ Some v → v.type.deps ≡ []
      nothing [] j all there = absurd cc
      nothing (u ∷ us) zero all there = let same : u ≡ v = cc in subst DependsOnNothing same all.0
      nothing (u ∷ us) (suc j) all there = nothing us j all.1 there

  result-deps : (t : TypeText) → IsResult ps t → dep_places 0 (in_order vs) t.deps ≡ dep_places 0 ps t.deps
  result-deps t is = deps-same t.deps (called-all ps t.deps (λ k w at. at) is)

  pub params-same : binders_over (theory σ) vs ps ≡ param_binders σ vs
  params-same = map-same (binder_over (theory σ) vs) (binder_of σ ps) ps (λ k v at. ap (λ js. record { sort = sort_number σ v.type; bound = v.is_bound; deps = js }) (param-deps k v at))

  pub dummies-same : binders_over (theory σ) vs ds ≡ dummy_binders σ vs
  dummies-same = map-same (binder_over (theory σ) vs) (binder_of σ ps) ds (λ k v at. ap (λ js. record { sort = sort_number σ v.type; bound = v.is_bound; deps = js }) (dummy-deps k v at))

  pub scope-same : variables_over (theory σ) vs ≡ scope_of σ vs
  scope-same = ap₂ (λ ns bs. record { names = ns; binders = bs }) (map-append variable_bytes ps ds)
      (map-append (binder_over (theory σ) vs) ps ds ∙ ap₂ (λ (xs ys : List Binder). xs ++ ys) params-same dummies-same)

  pub reader-same : reader_over (theory σ) vs ≡ reader_of σ vs
  reader-same = ap (λ (s : Variables). record { env = σ.env; table = σ.table; scope = s }) scope-same

  pub result-same : (t : TypeText) → IsResult ps t → (signature_over (theory σ) vs t).result ≡ result_of σ vs t
  result-same t is = ap (λ js. record { sort = sort_number σ t; deps = js }) (result-deps t is)

  pub signature-same : (t : TypeText) → IsResult ps t → signature_over (theory σ) vs t ≡ signature_of σ vs t
  signature-same t is = ap₂ (λ (bs : List Binder) (r : ResultType). record { params = bs; result = r }) params-same (result-same t is)
