-- What regular variables depend on, narrowed to variables that are sought.
use Rattle.std.proofs.Common.{◌≡◌, ◌∙◌, ◌⊎◌, ◌↔◌, ◌++◌, ℕ, List, [], ◌∷◌, Bool, true, false, Some, slice_get, Contains, IsTrue, Result, Ok, Err, OnOk, OnErr, ap, sym, refl, subst, inl, inr}
use Rattle.std.specs.Prelude.{cond, if◌then◌else◌}
use Rattle.std.specs.Map.{lookup}
use Rattle.std.proofs.lemmas.List.Elements.{Contains-append_left, Contains-append_right, Contains-append_cases}
use Rattle.std.proofs.lemmas.Option.{none-some, same_Some}
use Rattle.indexmap.specs.IndexMap.{insert_entry}
use Rattle.mz_base.proofs.Offered.{contains_none, contains_tail, contains_head, contains_cases}
use Rattle.mz_logic_theory.specs.declared.binder.Binder.{Binder}
use Rattle.mz_logic_theory.proofs.Offered.{one_at}
use Rattle.mz_logic_free.specs.Narrowed.{AreNarrowed}
use Rattle.mz_logic_free.proofs.Sharing.{HasAny, IsOther}
use Rattle.mz_logic_free.proofs.Walking.{Reaches}

-- ---- entries of a map

pub looked-up : (y : ℕ) (p : ℕ → Bool) → ((k : ℕ) → p k ≡ true → y ≡ k) → (es : List (ℕ × List ℕ)) (ws : List ℕ) → Some ws ≡ lookup p es → Contains es (y, ws)
looked-up y p is [] ws at = absurd (none-some ws (sym at))
looked-up y p is (e ∷ es) ws at = go (p e.0) refl at (looked-up y p is es ws)
  where
    go : (b : Bool) → p e.0 ≡ b → Some ws ≡ cond b (Some e.1) (lookup p es) → (Some ws ≡ lookup p es → Contains es (y, ws)) → Contains (e ∷ es) (y, ws)
    go true same here later = subst (Contains (e ∷ es)) (ap (λ k. (k, e.1)) (sym (is e.0 same)) ∙ ap (λ vs. (y, vs)) (sym (same_Some ws e.1 here))) (contains_head e es)
    go false other rest later = contains_tail e (y, ws) es (later rest)

pub inserted : (y : ℕ) (vs : List ℕ) (eq : ℕ → ℕ → Bool) → ((k : ℕ) → eq y k ≡ true → y ≡ k) → (es : List (ℕ × List ℕ)) (z : ℕ) (ws : List ℕ) → Contains (insert_entry eq es y vs) (z, ws) → Contains es (z, ws) ⊎ ((z ≡ y) × (ws ≡ vs))
inserted y vs eq is [] z ws has = elim (contains_cases (y, vs) (z, ws) [] has) [
  | inl same ↦ inr (ap (λ (e : ℕ × List ℕ). e.0) (sym same), ap (λ (e : ℕ × List ℕ). e.1) (sym same))
  | inr behind ↦ absurd (contains_none (z, ws) behind)
]
inserted y vs eq is (e ∷ es) z ws has = go (eq y e.0) refl has (inserted y vs eq is es z ws)
  where
    go : (b : Bool) → eq y e.0 ≡ b → Contains (if b then (e.0, vs) ∷ es else e ∷ insert_entry eq es y vs) (z, ws)
        → (Contains (insert_entry eq es y vs) (z, ws) → Contains es (z, ws) ⊎ ((z ≡ y) × (ws ≡ vs))) → Contains (e ∷ es) (z, ws) ⊎ ((z ≡ y) × (ws ≡ vs))
    go true at h later = elim (contains_cases (e.0, vs) (z, ws) es h) [
      | inl same ↦ inr (ap (λ (f : ℕ × List ℕ). f.0) (sym same) ∙ sym (is e.0 at), ap (λ (f : ℕ × List ℕ). f.1) (sym same))
      | inr behind ↦ inl (contains_tail e (z, ws) es behind)
    ]
    go false at h later = elim (contains_cases e (z, ws) (insert_entry eq es y vs) h) [
      | inl same ↦ inl (subst (Contains (e ∷ es)) same (contains_head e es))
      | inr behind ↦ elim (later behind) [ inl old ↦ inl (contains_tail e (z, ws) es old) | inr new ↦ inr new ]
    ]

-- a call that goes through or doesn't
pub either-way : {A E : Type 0} → (r : Result A E) (P Q R : Type 0) → OnOk r P → OnErr r Q → (P → R) → (Q → R) → R
either-way (Ok _) P Q R p q f g = f p
either-way (Err _) P Q R p q f g = g q

-- ---- one more

pub narrowed-none : (ctx : List Binder) (variables : List ℕ) (ns : List (ℕ × List ℕ)) → ns ≡ [] → AreNarrowed ctx variables ns
narrowed-none ctx variables ns empty y few has = absurd (contains_none (y, few) (subst (λ es. Contains es (y, few)) empty has))

pub narrowed-more : (ctx : List Binder) (variables : List ℕ) (ns ms : List (ℕ × List ℕ)) (y : ℕ) (b : Binder) → AreNarrowed ctx variables ns → Some b ≡ slice_get ctx y
    → ((z : ℕ) (ws : List ℕ) → Contains ms (z, ws) → Contains ns (z, ws) ⊎ ((z ≡ y) × ((x : ℕ) → Contains variables x → Contains ws x ↔ Contains b.deps x))) → AreNarrowed ctx variables ms
narrowed-more ctx variables ns ms y b old at grows z ws has = elim (grows z ws has) [
  | inl had ↦ old z ws had
  | inr (same, is) ↦ λ c there x sought. subst (λ (d : Binder). Contains ws x ↔ Contains d.deps x) (one_at (sym at) (subst (λ k. slice_get ctx k ≡ Some c) same there)) (is x sought)
]

-- ---- what is common

module _ (variables places : List ℕ) where
  -- y is j, which is one of the variables and at one of the places
  abbrev pub Common : ℕ → ℕ → Type 0
  Common j y = (y ≡ j) × (Contains variables j × Contains places j)

  pub pushed : (x : ℕ) (old new : List ℕ) → Contains variables x × Contains places x → new ≡ old ++ x ∷ [] → (y : ℕ) → Contains new y ↔ (Contains old y ⊎ Common x y)
  pushed x old new common is y = (
    λ h. elim (Contains-append_cases old (x ∷ []) y (subst (λ zs. Contains zs y) is h)) [ inl had ↦ inl had | inr here ↦ inr (last here, common) ],
    λ h. subst (λ zs. Contains zs y) (sym is) (elim h [
      | inl had ↦ Contains-append_left old (x ∷ []) y had
      | inr (same, _) ↦ Contains-append_right old (x ∷ []) y (subst (Contains (x ∷ [])) (sym same) (contains_head x []))
    ]),
  )
    where
      last : Contains (x ∷ []) y → y ≡ x
      last has = elim (contains_cases x y [] has) [ inl same ↦ sym same | inr none ↦ absurd (contains_none y none) ]

  pub unpushed : (x : ℕ) (old : List ℕ) → (Contains variables x × Contains places x → ⊥) → (y : ℕ) → Contains old y ↔ (Contains old y ⊎ Common x y)
  unpushed x old out y = (inl, λ h. elim h [ inl had ↦ had | inr (_, common) ↦ absurd (out common) ])

  pub reached : (xs few old : List ℕ) → ((x : ℕ) → Contains few x ↔ (Contains old x ⊎ Reaches Common xs x)) → (x : ℕ) → Contains few x ↔ (Contains old x ⊎ (Contains xs x × (Contains variables x × Contains places x)))
  reached xs few old is x = (
    λ h. elim ((is x).0 h) [
      | inl had ↦ inl had
      | inr (j, at, (same, common)) ↦ inr (subst (λ y. Contains xs y × (Contains variables y × Contains places y)) (sym same) (at, common))
    ],
    λ h. (is x).1 (elim h [ inl had ↦ inl had | inr (at, common) ↦ inr (x, at, (refl, common)) ]),
  )

  pub few-are : (xs few old : List ℕ) → old ≡ [] → (xs ≡ variables) ⊎ (xs ≡ places) → ((x : ℕ) → Contains few x ↔ (Contains old x ⊎ (Contains xs x × (Contains variables x × Contains places x))))
      → (x : ℕ) → Contains variables x → Contains few x ↔ Contains places x
  few-are xs few old empty one is x sought = (
    λ h. elim ((is x).0 h) [ inl had ↦ absurd (contains_none x (subst (λ ys. Contains ys x) empty had)) | inr (_, (_, at)) ↦ at ],
    λ at. (is x).1 (inr (elim one [ inl these ↦ subst (λ ys. Contains ys x) (sym these) sought | inr those ↦ subst (λ ys. Contains ys x) (sym those) at ], (sought, at))),
  )

-- ---- what is asked of few

-- one of the variables that are sought is at one of the places where it is at one of fewer
pub others-same : (variables own places few : List ℕ) → ((x : ℕ) → Contains variables x → Contains few x ↔ Contains places x) → (b : Bool) → IsTrue b ↔ HasAny (IsOther variables own) few
    → IsTrue b ↔ HasAny (IsOther variables own) places
others-same variables own places few same b (to, from) = (
  λ is. (let (x, other, at) = to is in (x, other, (same x other.0).0 at)),
  λ (x, other, at). from (x, other, (same x other.0).1 at),
)

pub few-or-all : (variables ps qs : List ℕ) (N : Type 0) → (ps ≡ qs) ⊎ N → (N → (x : ℕ) → Contains variables x → Contains ps x ↔ Contains qs x) → (x : ℕ) → Contains variables x → Contains ps x ↔ Contains qs x
few-or-all variables ps qs N (inl is) told x sought = (subst (λ zs. Contains zs x) is, subst (λ zs. Contains zs x) (sym is))
few-or-all variables ps qs N (inr has) told x sought = told has x sought
