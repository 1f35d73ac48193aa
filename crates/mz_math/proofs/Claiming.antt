-- The provable sort for which an expression stands, among those that its sort reaches.
use Rattle.std.proofs.Common.{◌≡◌, ◌≢◌, ◌<◌, ◌≤◌, ◌↔◌, ◌+◌, ◌⊎◌, ◌∙◌, ℕ, List, Option, None, Some, ap, arith, inl, inr, length, slice_get, subst, sym}
use Rattle.std.specs.Prelude.{IfSome, MatchOption}
use Rattle.std.proofs.lemmas.Bool.{cases_eq}
use Rattle.std.proofs.lemmas.Option.{none-some, same_Some, slice_get_within}
use Rattle.mz_base.proofs.Offered.{contains_at, place-of}
use Rattle.mz_logic_theory.specs.Declaration.{Declaration, sorts}
use Rattle.mz_logic_theory.specs.Modifiers.{MayBeClaimSort}
use Rattle.mz_math_theory.specs.declared.coercion.Coercion.{Coercion}
use Rattle.mz_math_theory.specs.CoercionAnswers.{HasPath}
use Rattle.mz_math_theory.specs.Coercions.{IsPath, OnePath, Reaches}
use Rattle.mz_math_theory.specs.Meaning.{IsGoal}
use Rattle.mz_math_theory.proofs.Offered.{goal-found}
use Rattle.mz_math_coercions.specs.Reached.{Has}
use Rattle.mz_math.specs.Claims.{IsOnlyClaim}

-- what has been found among the first ones: the provable one, if there is one
abbrev pub IsFoundOf : List Declaration → List (ℕ × ℕ) → ℕ → Option ℕ → Type 0
IsFoundOf env steps i found = ((k t p : ℕ) → k < i → slice_get steps k ≡ Some (t, p) → MayBeClaimSort (sorts env) t → found ≡ Some t)
    × IfSome found (λ g. MayBeClaimSort (sorts env) g × Has steps g)

pub found-more : (env : List Declaration) (steps : List (ℕ × ℕ)) (i : ℕ) (found new : Option ℕ) (to p : ℕ) → slice_get steps i ≡ Some (to, p) → IsFoundOf env steps i found
    → (MayBeClaimSort (sorts env) to × (other : ℕ) × (found ≡ Some other) × (other ≢ to) → ⊥)
    → (MayBeClaimSort (sorts env) to × (new ≡ Some to)) ⊎ ((MayBeClaimSort (sorts env) to → ⊥) × (new ≡ found)) → IsFoundOf env steps (i + 1) new
found-more env steps i found new to p at so_far alone = go
  where
    first : (k t q : ℕ) → slice_get steps k ≡ Some (t, q) → k ≡ i → to ≡ t
    first k t q there is = ap (λ (x : ℕ × ℕ). x.0) (same_Some _ _ (sym at ∙ ap (slice_get steps) (sym is) ∙ there))

    below : (k : ℕ) → k < i + 1 → (k ≡ i → ⊥) → k < i
    below k less not = omega (arith, less, not)

    go : (MayBeClaimSort (sorts env) to × (new ≡ Some to)) ⊎ ((MayBeClaimSort (sorts env) to → ⊥) × (new ≡ found)) → IsFoundOf env steps (i + 1) new
    go (inl (claim, is)) = (
      λ k t q less there own. elim (cases_eq k i) [
        | inl same ↦ is ∙ ap Some (first k t q there same)
        | inr not ↦ let old = so_far.0 k t q (below k less not) there own in elim (cases_eq t to) [
          | inl one ↦ is ∙ ap Some (sym one)
          | inr other ↦ absurd (alone (claim, t, old, other))
        ]
      ],
      subst (λ o. IfSome o (λ g. MayBeClaimSort (sorts env) g × Has steps g)) (sym is) (claim, (p, contains_at steps i (to, p) at)),
    )
    go (inr (never, is)) = (
      λ k t q less there own. elim (cases_eq k i) [
        | inl same ↦ absurd (never (subst (MayBeClaimSort (sorts env)) (sym (first k t q there same)) own))
        | inr not ↦ is ∙ so_far.0 k t q (below k less not) there own
      ],
      subst (λ o. IfSome o (λ g. MayBeClaimSort (sorts env) g × Has steps g)) (sym is) so_far.1,
    )

-- where two provable ones are reached, none is the only one
pub two-claims : (env : List Declaration) (steps : List (ℕ × ℕ)) (a b : ℕ) → a ≢ b → MayBeClaimSort (sorts env) a → Has steps a → MayBeClaimSort (sorts env) b → Has steps b
    → (goal : ℕ) → IsOnlyClaim env steps goal → ⊥
two-claims env steps a b other claim-a has-a claim-b has-b goal (claim, has, only) = other (only a claim-a has-a ∙ sym (only b claim-b has-b))

-- what has been found among all of them
pub all-found : (env : List Declaration) (steps : List (ℕ × ℕ)) (i : ℕ) → length steps ≤ i → (found : Option ℕ) → IsFoundOf env steps i found
    → MatchOption found ((goal : ℕ) → IsOnlyClaim env steps goal → ⊥) (λ goal. IsOnlyClaim env steps goal)
all-found env steps i past found (all, some) = go found same some
  where
    same : (t : ℕ) → MayBeClaimSort (sorts env) t → Has steps t → found ≡ Some t
    same t claim (p, has) = let (k, there) = place-of steps (t, p) has in let less = slice_get_within steps k (t, p) there in all k t p (omega (arith, less, past)) there claim

    go : (o : Option ℕ) → ((t : ℕ) → MayBeClaimSort (sorts env) t → Has steps t → o ≡ Some t) → IfSome o (λ g. MayBeClaimSort (sorts env) g × Has steps g)
        → MatchOption o ((goal : ℕ) → IsOnlyClaim env steps goal → ⊥) (λ goal. IsOnlyClaim env steps goal)
    go None each never = λ goal (claim, has, only). none-some goal (each goal claim has)
    go (Some g) each (claim, has) = (claim, has, λ t is there. sym (same_Some g t (each t is there)))

-- the only provable one that is reached is the goal of a sort that isn't provable itself
pub goal-reached : (env : List Declaration) (cs : List Coercion) (s : ℕ) → (MayBeClaimSort (sorts env) s → ⊥) → (steps : List (ℕ × ℕ)) → ((t : ℕ) → Has steps t ↔ HasPath cs s t)
    → OnePath cs → (found : Option ℕ) → MatchOption found ((goal : ℕ) → IsOnlyClaim env steps goal → ⊥) (λ goal. IsOnlyClaim env steps goal)
    → MatchOption found ((goal : ℕ) (path : List ℕ) → IsGoal env cs s goal → IsPath cs s path goal → ⊥) (λ goal. IsGoal env cs s goal × Reaches cs (length cs) s goal)
goal-reached env cs s own steps reached one None never = go
  where
    go : (goal : ℕ) (path : List ℕ) → IsGoal env cs s goal → IsPath cs s path goal → ⊥
    go goal path (inl (same, claim)) on = own claim
    go goal path (inr (never-own, claim, only)) on = never goal (claim, (reached goal).1 (path, on), λ t is has. let (way, there) = (reached t).0 has in only t way is there)
goal-reached env cs s own steps reached one (Some g) (claim, has, only) =
    let (path, on) = (reached g).0 has in
    goal-found env cs one s own (Some g) (λ j d at is way there. ap Some (sym (only d.to is ((reached d.to).1 (way, there))))) (claim, path, on)
