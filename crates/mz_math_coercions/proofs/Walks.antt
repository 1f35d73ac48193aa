-- Coercions in chains, and what a walk along them reaches.
use Rattle.std.proofs.Common.{◌≡◌, ◌<◌, ◌≤◌, ◌+◌, ◌↔◌, ◌⊎◌, ◌++◌, ◌∙◌, ℕ, zero, suc, List, [], ◌∷◌, length, Bool, true, false, Some, None, Option, slice_get, slice_set, get_or, ap, sym, refl, subst, inl, inr, arith, Contains, length-append, append-nil, append_assoc}
use Rattle.std.specs.Prelude.{cond, if◌then◌else◌, MatchOption}
use Rattle.std.specs.Map.{lookup}
use Rattle.std.proofs.lemmas.Bool.{true≢false, cases_order}
use Rattle.std.proofs.lemmas.Option.{slice_get_within, same_Some, none-some}
use Rattle.std.proofs.lemmas.List.{get_or-set_same, get_or-set_other}
use Rattle.std.proofs.lemmas.List.Elements.{Contains-append_left, Contains-push, Contains-push_cases}
use Rattle.indexmap.specs.IndexMap.{insert_entry}
use Rattle.mz_base.proofs.Offered.{contains_at, contains_cases, contains_head, contains_tail, nil-cons, place-of, slice_get-append, slice_get-front, slice_get-last, slice_get-push_cases}
use Rattle.mz_math_theory.specs.declared.coercion.Coercion.{Coercion}
use Rattle.mz_math_theory.specs.Coercions.{IsPath}
use Rattle.mz_math_theory.specs.CoercionAnswers.{HasPath}
use Rattle.mz_math_theory.proofs.Offered.{path-join}
use Rattle.mz_math_coercions.specs.Graph.{AreChained, IsLink}
use Rattle.mz_math_coercions.specs.Reached.{AreFoundIn, AreReached, Has, IsStep}

-- ---- the sorts that are listed

looked-up : (s : ℕ) (test : ℕ → Bool) → ((k : ℕ) → test k ≡ true → s ≡ k) → (es : List (ℕ × ℕ)) (p : ℕ) → lookup test es ≡ Some p → Contains es (s, p)
looked-up s test same [] p is = absurd (none-some _ is)
looked-up s test same ((k, v) ∷ es) p is = go (test k) refl is (looked-up s test same es p)
  where
    go : (b : Bool) → test k ≡ b → cond b (Some v) (lookup test es) ≡ Some p → (lookup test es ≡ Some p → Contains es (s, p)) → Contains ((k, v) ∷ es) (s, p)
    go true here at later = subst (λ x. Contains ((k, v) ∷ es) (x, p)) (sym (same k here)) (subst (λ x. Contains ((k, v) ∷ es) (k, x)) (same_Some _ _ at) (contains_head (k, v) es))
    go false here at later = contains_tail (k, v) (s, p) es (later at)

not-looked-up : (s : ℕ) (test : ℕ → Bool) → test s ≡ true → (es : List (ℕ × ℕ)) → lookup test es ≡ None → Has es s → ⊥
not-looked-up s test own [] is (p, (k, below, _)) = absurd (omega (arith, below))
not-looked-up s test own ((k, v) ∷ es) is (p, has) = go (test k) refl is (not-looked-up s test own es)
  where
    go : (b : Bool) → test k ≡ b → cond b (Some v) (lookup test es) ≡ None → (lookup test es ≡ None → Has es s → ⊥) → ⊥
    go true here at later = none-some _ (sym at)
    go false here at later = elim (contains_cases (k, v) (s, p) es has) [
      | inl first ↦ absurd (true≢false (sym own ∙ ap test (sym (ap (λ (e : ℕ × ℕ). e.0) first)) ∙ here))
      | inr rest ↦ later at (p, rest)
    ]

pub looked : (s : ℕ) (test : ℕ → Bool) → ((k : ℕ) → test k ≡ true → s ≡ k) → test s ≡ true → (es : List (ℕ × ℕ)) (o : Option ℕ) → o ≡ lookup test es → MatchOption o (Has es s → ⊥) (λ p. Contains es (s, p))
looked s test same own es None is = not-looked-up s test own es (sym is)
looked s test same own es (Some p) is = looked-up s test same es p (sym is)

pub pushed-only : (s v t p : ℕ) (now new : List (ℕ × ℕ)) → new ≡ now ++ (s, v) ∷ [] → Contains new (t, p) → Contains now (t, p) ⊎ ((t ≡ s) × (p ≡ v))
pushed-only s v t p now new is has = elim (Contains-push_cases now (s, v) (t, p) (subst (λ (xs : List (ℕ × ℕ)). Contains xs (t, p)) is has)) [
  | inl old ↦ inl old
  | inr same ↦ inr (sym (ap (λ (e : ℕ × ℕ). e.0) same), sym (ap (λ (e : ℕ × ℕ). e.1) same))
]

pub pushed-there : (s v : ℕ) (now new : List (ℕ × ℕ)) → new ≡ now ++ (s, v) ∷ [] → Has new s
pushed-there s v now new is = (v, subst (λ (xs : List (ℕ × ℕ)). Contains xs (s, v)) (sym is) (Contains-push now (s, v)))

-- ---- the entries of a map

pub found-in : (entries steps : List (ℕ × ℕ)) (s : ℕ) (o : Option ℕ) → AreFoundIn entries steps → MatchOption o (Has entries s → ⊥) (λ p. Contains entries (s, p)) → MatchOption o (Has steps s → ⊥) (λ p. Contains steps (s, p))
found-in entries steps s None is none = λ has. none (is.1 s has)
found-in entries steps s (Some p) is has = is.0 s p has

pub found-none : (entries : List (ℕ × ℕ)) → entries ≡ [] → AreFoundIn entries []
found-none entries none = (λ s p has. subst (λ (es : List (ℕ × ℕ)). Contains es (s, p)) none has, λ s has. subst (λ (es : List (ℕ × ℕ)). Has es s) (sym none) has)

module _ (s v : ℕ) (eq : ℕ → ℕ → Bool) (same : (k : ℕ) → eq s k ≡ true → s ≡ k) where
  entry-only : (es : List (ℕ × ℕ)) (e : ℕ × ℕ) → Contains (insert_entry eq es s v) e → Contains es e ⊎ (e ≡ (s, v))
  entry-only [] e has = elim (contains_cases (s, v) e [] has) [ inl first ↦ inr (sym first) | inr rest ↦ inl rest ]
  entry-only ((k, w) ∷ es) e has = go (eq s k) refl has (entry-only es e)
    where
      go : (b : Bool) → eq s k ≡ b → Contains (if b then (k, v) ∷ es else (k, w) ∷ insert_entry eq es s v) e → (Contains (insert_entry eq es s v) e → Contains es e ⊎ (e ≡ (s, v))) → Contains ((k, w) ∷ es) e ⊎ (e ≡ (s, v))
      go true here among later = elim (contains_cases (k, v) e es among) [
        | inl first ↦ inr (sym first ∙ ap (λ (x : ℕ). (x, v)) (sym (same k here)))
        | inr rest ↦ inl (contains_tail (k, w) e es rest)
      ]
      go false here among later = elim (contains_cases (k, w) e (insert_entry eq es s v) among) [
        | inl first ↦ inl (subst (Contains ((k, w) ∷ es)) first (contains_head (k, w) es))
        | inr rest ↦ elim (later rest) [ inl old ↦ inl (contains_tail (k, w) e es old) | inr new ↦ inr new ]
      ]

  entry-all : (es : List (ℕ × ℕ)) (t : ℕ) → Has (es ++ (s, v) ∷ []) t → Has (insert_entry eq es s v) t
  entry-all [] t has = has
  entry-all ((k, w) ∷ es) t (p, has) = go (eq s k) refl (entry-all es t)
    where
      go : (b : Bool) → eq s k ≡ b → (Has (es ++ (s, v) ∷ []) t → Has (insert_entry eq es s v) t) → Has (if b then (k, v) ∷ es else (k, w) ∷ insert_entry eq es s v) t
      go true here later = elim (contains_cases (k, w) (t, p) (es ++ (s, v) ∷ []) has) [
        | inl first ↦ (v, subst (λ x. Contains ((k, v) ∷ es) (x, v)) (ap (λ (e : ℕ × ℕ). e.0) first) (contains_head (k, v) es))
        | inr rest ↦ elim (Contains-push_cases es (s, v) (t, p) rest) [
          | inl old ↦ (p, contains_tail (k, v) (t, p) es old)
          | inr new ↦ (v, subst (λ x. Contains ((k, v) ∷ es) (x, v)) (sym (same k here) ∙ ap (λ (e : ℕ × ℕ). e.0) new) (contains_head (k, v) es))
        ]
      ]
      go false here later = elim (contains_cases (k, w) (t, p) (es ++ (s, v) ∷ []) has) [
        | inl first ↦ (w, subst (λ x. Contains ((k, w) ∷ insert_entry eq es s v) (x, w)) (ap (λ (e : ℕ × ℕ). e.0) first) (contains_head (k, w) (insert_entry eq es s v)))
        | inr rest ↦ let there = later (p, rest) in (there.0, contains_tail (k, w) (t, there.0) (insert_entry eq es s v) there.1)
      ]

  -- one more entry
  pub found-push : (es new steps : List (ℕ × ℕ)) → new ≡ insert_entry eq es s v → AreFoundIn es steps → AreFoundIn new (steps ++ (s, v) ∷ [])
  found-push es new steps made is = (only, all)
    where
      only : (t p : ℕ) → Contains new (t, p) → Contains (steps ++ (s, v) ∷ []) (t, p)
      only t p has = elim (entry-only es (t, p) (subst (λ (xs : List (ℕ × ℕ)). Contains xs (t, p)) made has)) [
        | inl old ↦ Contains-append_left steps ((s, v) ∷ []) (t, p) (is.0 t p old)
        | inr last ↦ subst (Contains (steps ++ (s, v) ∷ [])) (sym last) (Contains-push steps (s, v))
      ]

      all : (t : ℕ) → Has (steps ++ (s, v) ∷ []) t → Has new t
      all t (p, has) = subst (λ (xs : List (ℕ × ℕ)). Has xs t) (sym made) (entry-all es t (elim (Contains-push_cases steps (s, v) (t, p) has) [
        | inl old ↦ let there = is.1 t (p, old) in (there.0, Contains-append_left es ((s, v) ∷ []) (t, there.0) there.1)
        | inr last ↦ (p, subst (Contains (es ++ (s, v) ∷ [])) last (Contains-push es (s, v)))
      ]))

-- ---- chains

-- one coercion more, which isn't below b
pub link-more : (cs : List Coercion) (c : Coercion) (s b n : ℕ) → b ≤ length cs → IsLink cs s b n → IsLink (cs ++ c ∷ []) s b n
link-more cs c s b n low link = (
  link.0,
  λ q d at begins below. elim (slice_get-push_cases cs c q d at) [ inl old ↦ link.1 q d old begins below | inr new ↦ let e = new.0 in absurd (omega (arith, e, low, below)) ],
  λ q is. let (d, at, begins) = link.2 q is in (d, slice_get-append cs (c ∷ []) q d at, begins),
)

-- which begins elsewhere
link-other : (cs : List Coercion) (c : Coercion) (s n : ℕ) → (c.from ≡ s → ⊥) → IsLink cs s (length cs) n → IsLink (cs ++ c ∷ []) s (length cs + 1) n
link-other cs c s n other link = (
  let le = link.0 in omega (arith, le),
  λ q d at begins below. elim (slice_get-push_cases cs c q d at) [
    | inl old ↦ link.1 q d old begins (slice_get_within cs q d old)
    | inr new ↦ absurd (other (ap (λ x. x.from) new.1 ∙ begins))
  ],
  λ q is. let (d, at, begins) = link.2 q is in (d, slice_get-append cs (c ∷ []) q d at, begins),
)

link-new : (cs : List Coercion) (c : Coercion) (n : ℕ) → n ≡ length cs + 1 → IsLink (cs ++ c ∷ []) c.from (length cs + 1) n
link-new cs c n is = (
  omega (arith, is),
  λ q d at begins below. omega (arith, is, below),
  λ q e. (c, subst (λ i. slice_get (cs ++ c ∷ []) i ≡ Some c) (let at : length cs ≡ q = omega (arith, is, e) in at) (slice_get-last cs c), refl),
)

get_or-front : (xs : List ℕ) (x i : ℕ) → i < length xs → get_or (xs ++ x ∷ []) i 0 ≡ get_or xs i 0
get_or-front [] x i below = absurd (omega (arith, below))
get_or-front (y ∷ xs) x zero below = refl
get_or-front (y ∷ xs) x (suc i) below = get_or-front xs x i (omega (arith, below))

get_or-end : (xs : List ℕ) (x i : ℕ) → i ≡ length xs → get_or (xs ++ x ∷ []) i 0 ≡ x
get_or-end [] x zero is = refl
get_or-end [] x (suc i) is = absurd (omega (arith, is))
get_or-end (y ∷ xs) x zero is = absurd (omega (arith, is))
get_or-end (y ∷ xs) x (suc i) is = get_or-end xs x i (omega (arith, is))

pub chained-longer : (cs : List Coercion) (last before more : List ℕ) → AreChained cs last before → ((i : ℕ) → get_or more i 0 ≡ get_or last i 0) → AreChained cs more before
chained-longer cs last before more chained same = (λ s. subst (IsLink cs s (length cs)) (sym (same s)) (chained.0 s), chained.1, chained.2)

get_or-none : (links : List ℕ) (i : ℕ) → links ≡ [] → get_or links i 0 ≡ zero
get_or-none [] zero is = refl
get_or-none [] (suc i) is = refl
get_or-none (x ∷ links) i is = absurd (nil-cons (sym is))

pub none-chained : (cs : List Coercion) (last before : List ℕ) → cs ≡ [] → last ≡ [] → before ≡ [] → AreChained cs last before
none-chained cs last before no-cs no-last no-before =
    subst (λ (xs : List ℕ). AreChained cs last xs) (sym no-before) (subst (λ (xs : List ℕ). AreChained cs xs []) (sym no-last) (subst (λ (xs : List Coercion). AreChained xs [] []) (sym no-cs) (links, (λ p c at. absurd (none-some _ at)), refl)))
  where
    links : (s : ℕ) → IsLink [] s 0 (get_or [] s 0)
    links s = let e : get_or [] s 0 ≡ zero = get_or-none [] s refl in (omega (arith, e), (λ q c at. absurd (none-some _ at)), λ q is. absurd (omega (arith, e, is)))

module _ (cs : List Coercion) (last before more : List ℕ) (c : Coercion) (chained : AreChained cs last before)
    (within : c.from < length more) (same : (i : ℕ) → get_or more i 0 ≡ get_or last i 0) where
  pub chained-push : (n : ℕ) → n ≡ length cs + 1 → AreChained (cs ++ c ∷ []) (slice_set more c.from n) (before ++ get_or more c.from 0 ∷ [])
  chained-push n is = (λ s. firsts s, befores, length-append before _ ∙ ap (λ i. i + 1) chained.2 ∙ sym (length-append cs (c ∷ [])))
    where
      whole : length (cs ++ c ∷ []) ≡ length cs + 1
      whole = length-append cs (c ∷ [])

      firsts : (s : ℕ) → IsLink (cs ++ c ∷ []) s (length (cs ++ c ∷ [])) (get_or (slice_set more c.from n) s 0)
      firsts s = subst (λ b. IsLink (cs ++ c ∷ []) s b (get_or (slice_set more c.from n) s 0)) (sym whole) (elim (cases_order c.from s) [
        | inl here ↦ subst (λ x. IsLink (cs ++ c ∷ []) x (length cs + 1) (get_or (slice_set more c.from n) x 0)) here
            (link-new cs c _ (get_or-set_same more c.from n 0 within ∙ is))
        | inr order ↦ let other : c.from ≡ s → ⊥ = λ e. elim order [ inl less ↦ absurd (omega (arith, less, e)) | inr above ↦ absurd (omega (arith, above, e)) ] in
            link-other cs c s _ other (subst (IsLink cs s (length cs)) (sym (get_or-set_other more c.from s n 0 (λ e. other (sym e)) ∙ same s)) (chained.0 s))
      ])

      befores : (p : ℕ) (d : Coercion) → slice_get (cs ++ c ∷ []) p ≡ Some d → IsLink (cs ++ c ∷ []) d.from p (get_or (before ++ get_or more c.from 0 ∷ []) p 0)
      befores p d at = elim (slice_get-push_cases cs c p d at) [
        | inl old ↦ let below = slice_get_within cs p d old in let many = chained.2 in
            link-more cs c d.from p _ (omega (arith, below)) (subst (IsLink cs d.from p) (sym (get_or-front before _ p (omega (arith, below, many)))) (chained.1 p d old))
        | inr new ↦ let many = chained.2 in let e = new.0 in
            link-more cs c d.from p _ (omega (arith, e))
            (subst (IsLink cs d.from p) (sym (get_or-end before _ p (omega (arith, e, many)) ∙ same c.from))
            (subst (λ i. IsLink cs d.from i (get_or last c.from 0)) (sym e) (subst (λ (x : Coercion). IsLink cs x.from (length cs) (get_or last c.from 0)) new.1 (chained.0 c.from))))
      ]

-- ---- the coercions from one sort

-- what is known where those from a place on are done
pub record IsFollowed (cs : List Coercion) (s : ℕ) (old steps : List (ℕ × ℕ)) (next : ℕ) : Type 0 where
  pub kept : (more : List (ℕ × ℕ)) × (steps ≡ old ++ more)
  pub only : (t p : ℕ) → Contains steps (t, p) → Contains old (t, p) ⊎ IsStep cs s p t
  pub link : (b : ℕ) × IsLink cs s b next × ((p t : ℕ) → b ≤ p → IsStep cs s p t → Has steps t)

pub none-followed : (cs : List Coercion) (last before : List ℕ) (s next : ℕ) (old : List (ℕ × ℕ)) → AreChained cs last before → next ≡ get_or last s 0 → IsFollowed cs s old old next
none-followed cs last before s next old chained is = record {
  kept = ([], sym (append-nil old));
  only = λ t p has. inl has;
  link = (length cs, subst (IsLink cs s (length cs)) (sym is) (chained.0 s), λ p t past step. (let within = slice_get_within cs p step.0 step.1 in absurd (omega (arith, past, within))));
}

has-kept : (old steps more : List (ℕ × ℕ)) (t : ℕ) → steps ≡ old ++ more → Has old t → Has steps t
has-kept old steps more t is (p, has) = (p, subst (λ (xs : List (ℕ × ℕ)). Contains xs (t, p)) (sym is) (Contains-append_left old more (t, p) has))

module _ (cs : List Coercion) (last before : List ℕ) (chained : AreChained cs last before) (s : ℕ) (old steps new : List (ℕ × ℕ)) (next place : ℕ)
    (so_far : IsFollowed cs s old steps next) (is : next ≡ place + 1) where
  pub place-there : (c : Coercion) × (slice_get cs place ≡ Some c) × (c.from ≡ s)
  place-there = (so_far.link.1).2 place is

  module _ (c : Coercion) (at : slice_get cs place ≡ Some c) (kept : (more : List (ℕ × ℕ)) × (new ≡ steps ++ more))
      (only : (t p : ℕ) → Contains new (t, p) → Contains steps (t, p) ⊎ ((t ≡ c.to) × (p ≡ place))) where
    begins : c.from ≡ s
    begins = let (d, at-d, from) = place-there in ap (λ x. x.from) (same_Some _ _ (sym at ∙ at-d)) ∙ from

    pub followed-kept : (more : List (ℕ × ℕ)) × (new ≡ old ++ more)
    followed-kept = (so_far.kept.0 ++ kept.0, kept.1 ∙ ap (λ xs. xs ++ kept.0) so_far.kept.1 ∙ append_assoc old so_far.kept.0 kept.0)

    pub followed-only : (t p : ℕ) → Contains new (t, p) → Contains old (t, p) ⊎ IsStep cs s p t
    followed-only t p has = elim (only t p has) [
      | inl before-it ↦ so_far.only t p before-it
      | inr same ↦ inr (subst (λ x. IsStep cs s x t) (sym same.1) (c, at, begins, sym same.0))
    ]

    pub one-followed : (n : ℕ) → n ≡ get_or before place 0 → Has new c.to → IsFollowed cs s old new n
    one-followed n is-n there = record {
      kept = followed-kept;
      only = followed-only;
      link = (place, subst (λ x. IsLink cs x place n) begins (subst (IsLink cs c.from place) (sym is-n) (chained.1 place c at)), done);
    }
      where
        done : (p t : ℕ) → place ≤ p → IsStep cs s p t → Has new t
        done p t past step = go (cases_order p place)
          where
            b : ℕ
            b = so_far.link.0

            above : b ≤ p → Has new t
            above past-b = has-kept steps new kept.0 t kept.1 (so_far.link.2 p t past-b step)

            go : (p ≡ place) ⊎ ((p < place) ⊎ (place < p)) → Has new t
            go (inl same) =
                let e : step.0 ≡ c = same_Some _ _ (sym step.1 ∙ ap (slice_get cs) same ∙ at) in
                subst (Has new) (ap (λ x. x.to) (sym e) ∙ step.3) there
            go (inr (inl less)) = absurd (omega (arith, less, past))
            go (inr (inr more)) = by (cases_order p b)
              where
                by : (p ≡ b) ⊎ ((p < b) ⊎ (b < p)) → Has new t
                by (inl same) = above (omega (arith, same))
                by (inr (inr high)) = above (omega (arith, high))
                by (inr (inl low)) = let under = (so_far.link.1).1 p step.0 step.1 step.2 low in absurd (omega (arith, under, more, is))

pub all-followed : (cs : List Coercion) (s : ℕ) (old steps : List (ℕ × ℕ)) (next : ℕ) → IsFollowed cs s old steps next → next ≡ 0 → (p t : ℕ) → IsStep cs s p t → Has steps t
all-followed cs s old steps next so_far none p t step = go (cases_order p so_far.link.0)
  where
    above : so_far.link.0 ≤ p → Has steps t
    above past = so_far.link.2 p t past step

    go : (p ≡ so_far.link.0) ⊎ ((p < so_far.link.0) ⊎ (so_far.link.0 < p)) → Has steps t
    go (inl same) = above (omega (arith, same))
    go (inr (inr high)) = above (omega (arith, high))
    go (inr (inl low)) = let under = (so_far.link.1).1 p step.0 step.1 step.2 low in absurd (omega (arith, under, none))

-- ---- all coercions from what is reached

-- what is known when the first ones have been gone on from
pub record IsWalked (cs : List Coercion) (first steps : List (ℕ × ℕ)) (i : ℕ) : Type 0 where
  pub kept : (more : List (ℕ × ℕ)) × (steps ≡ first ++ more)
  pub only : (t : ℕ) → Has steps t → (s : ℕ) × Has first s × HasPath cs s t
  pub via : (t p : ℕ) → Contains steps (t, p) → Contains first (t, p) ⊎ ((s : ℕ) × Has steps s × IsStep cs s p t)
  pub closed : (k t p : ℕ) → k < i → slice_get steps k ≡ Some (t, p) → (q u : ℕ) → IsStep cs t q u → Has steps u

pub none-walked : (cs : List Coercion) (first : List (ℕ × ℕ)) → IsWalked cs first first 0
none-walked cs first = record {
  kept = ([], sym (append-nil first));
  only = λ t has. (t, has, ([], refl));
  via = λ t p has. inl has;
  closed = λ k t p below at. absurd (omega (arith, below));
}

module _ (cs : List Coercion) (first steps new : List (ℕ × ℕ)) (i : ℕ) (so_far : IsWalked cs first steps i) (s p : ℕ) (at : slice_get steps i ≡ Some (s, p))
    (kept : (more : List (ℕ × ℕ)) × (new ≡ steps ++ more))
    (only : (t q : ℕ) → Contains new (t, q) → Contains steps (t, q) ⊎ IsStep cs s q t) (done : (q t : ℕ) → IsStep cs s q t → Has new t) where
  pub one-walked : IsWalked cs first new (i + 1)
  one-walked = record {
    kept = (so_far.kept.0 ++ kept.0, kept.1 ∙ ap (λ xs. xs ++ kept.0) so_far.kept.1 ∙ append_assoc first so_far.kept.0 kept.0);
    only = reached;
    via = way;
    closed = closed;
  }
    where
      still : (t : ℕ) → Has steps t → Has new t
      still t has = has-kept steps new kept.0 t kept.1 has

      here : Has steps s
      here = (p, contains_at steps i (s, p) at)

      reached : (t : ℕ) → Has new t → (r : ℕ) × Has first r × HasPath cs r t
      reached t (q, has) = elim (only t q has) [
        | inl old ↦ so_far.only t (q, old)
        | inr step ↦ let (r, first-r, (path, on)) = so_far.only s here in (r, first-r, (path ++ q ∷ [], path-join cs r s t path (q ∷ []) on (step.0, step.1, step.2, step.3)))
      ]

      way : (t q : ℕ) → Contains new (t, q) → Contains first (t, q) ⊎ ((r : ℕ) × Has new r × IsStep cs r q t)
      way t q has = elim (only t q has) [
        | inl old ↦ elim (so_far.via t q old) [ inl start ↦ inl start | inr came ↦ inr (came.0, still came.0 came.1, came.2) ]
        | inr step ↦ inr (s, still s here, step)
      ]

      closed : (k t q : ℕ) → k < i + 1 → slice_get new k ≡ Some (t, q) → (r u : ℕ) → IsStep cs t r u → Has new u
      closed k t q below is r u step = go (cases_order k i)
        where
          in-i : i < length steps
          in-i = slice_get_within steps i (s, p) at

          old-at : k < length steps → slice_get steps k ≡ Some (t, q)
          old-at within = slice_get-front steps kept.0 k (t, q) within (ap (λ xs. slice_get xs k) (sym kept.1) ∙ is)

          go : (k ≡ i) ⊎ ((k < i) ⊎ (i < k)) → Has new u
          go (inl same) =
              let e = same_Some _ _ (sym at ∙ ap (slice_get steps) (sym same) ∙ old-at (omega (arith, same, in-i))) in
              done r u (subst (λ x. IsStep cs x r u) (ap (λ (x : ℕ × ℕ). x.0) (sym e)) step)
          go (inr (inl less)) = still u (so_far.closed k t q less (old-at (omega (arith, less, in-i))) r u step)
          go (inr (inr more)) = absurd (omega (arith, more, below))

-- nothing is left to go on from
pub all-walked : (cs : List Coercion) (first steps : List (ℕ × ℕ)) (i : ℕ) → IsWalked cs first steps i → length steps ≤ i → AreReached cs first steps
all-walked cs first steps i so_far whole = record {
  only = so_far.only;
  all = λ s t has path. along path.0 s t (start s has) path.1;
  via = so_far.via;
}
  where
    start : (s : ℕ) → Has first s → Has steps s
    start s has = has-kept first steps so_far.kept.0 s so_far.kept.1 has

    next : (t q u : ℕ) → Has steps t → IsStep cs t q u → Has steps u
    next t q u (p, has) step = let (k, at) = place-of steps (t, p) has in let below = slice_get_within steps k (t, p) at in so_far.closed k t p (omega (arith, below, whole)) at q u step

    along : (path : List ℕ) (s t : ℕ) → Has steps s → IsPath cs s path t → Has steps t
    along [] s t has on = subst (Has steps) on has
    along (p ∷ path) s t has (c, at, begins, rest) = along path c.to t (next s p c.to has (c, at, begins, refl)) rest

-- ---- links that aren't there

pub zero-more : (links : List ℕ) (i : ℕ) → get_or (links ++ 0 ∷ []) i 0 ≡ get_or links i 0
zero-more [] zero = refl
zero-more [] (suc i) = refl
zero-more (x ∷ links) zero = refl
zero-more (x ∷ links) (suc i) = zero-more links i

-- ---- from one sort

pub one-first : (s n t p : ℕ) (first : List (ℕ × ℕ)) → first ≡ (s, n) ∷ [] → Contains first (t, p) → (t ≡ s) × (p ≡ n)
one-first s n t p first is has = elim (contains_cases (s, n) (t, p) [] (subst (λ (xs : List (ℕ × ℕ)). Contains xs (t, p)) is has)) [
  | inl same ↦ (sym (ap (λ (e : ℕ × ℕ). e.0) same), sym (ap (λ (e : ℕ × ℕ). e.1) same))
  | inr none ↦ let (k, below, _) = none in absurd (omega (arith, below))
]

pub from-one : (cs : List Coercion) (s n : ℕ) (first steps : List (ℕ × ℕ)) → first ≡ (s, n) ∷ [] → AreReached cs first steps → (t : ℕ) → Has steps t ↔ HasPath cs s t
from-one cs s n first steps is reached t = (
  λ has. let (r, (p, in-first), (path, on)) = reached.only t has in (path, subst (λ x. IsPath cs x path t) ((one-first s n r p first is in-first).0) on),
  λ path. reached.all s t (n, subst (λ (xs : List (ℕ × ℕ)). Contains xs (s, n)) (sym is) (contains_head (s, n) [])) path,
)
