-- A path that is read off from its end.
use Rattle.std.proofs.Common.{◌≡◌, ◌<◌, ◌≤◌, ◌+◌, ◌-◌, ◌++◌, ◌∙◌, ℕ, List, [], ◌∷◌, length, Some, slice_get, ap, sym, refl, subst, inl, inr, arith, Contains, length-append, map, append_assoc, reverse}
use Rattle.std.proofs.lemmas.List.{length-reverse, reverse-append}
use Rattle.std.proofs.lemmas.Option.{same_Some}
use Rattle.mz_base.proofs.Offered.{contains_head}
use Rattle.mz_math_theory.specs.declared.coercion.Coercion.{Coercion}
use Rattle.mz_math_theory.specs.Coercions.{IsPath, OnePath, coercion_term}
use Rattle.mz_math_theory.specs.CoercionAnswers.{HasPath}
use Rattle.mz_math_coercions.specs.Reached.{AreReached, Has, IsStep}
use Rattle.mz_math_theory.proofs.Offered.{path-short}
use Rattle.mz_math_coercions.proofs.Terms.{term-at}
use Rattle.mz_math_coercions.proofs.Walks.{one-first}

-- ---- one coercion back

pub path-has : (cs : List Coercion) (from to n : ℕ) (steps : List (ℕ × ℕ)) → AreReached cs ((from, n) ∷ []) steps → HasPath cs from to → Has steps to
path-has cs from to n steps reached path = reached.all from to (n, contains_head (from, n) []) path

module _ (cs : List Coercion) (from n : ℕ) (steps : List (ℕ × ℕ)) (reached : AreReached cs ((from, n) ∷ []) steps) (sort p : ℕ) (other : sort ≡ from → ⊥) (has : Contains steps (sort, p)) where
  -- the place beside a sort is that of the last coercion of the path to it
  pub last-step : (r : ℕ) × Has steps r × IsStep cs r p sort
  last-step = elim (reached.via sort p has) [
    | inl first ↦ absurd (other (one-first from n sort p ((from, n) ∷ []) refl first).0)
    | inr came ↦ came
  ]

  pub one-back : (c : Coercion) (to : ℕ) (places longer : List ℕ) → slice_get cs p ≡ Some c → longer ≡ places ++ p ∷ [] → IsPath cs sort (reverse places) to
      → Has steps c.from × IsPath cs c.from (reverse longer) to
  one-back c to places longer at is rest =
      let (r, in-steps, (d, at-d, begins, ends)) = last-step in
      let same : d ≡ c = same_Some _ _ (sym at-d ∙ at) in (
        subst (Has steps) (sym begins ∙ ap (λ x. x.from) same) in-steps,
        subst (λ path. IsPath cs c.from path to) (sym (ap reverse is ∙ reverse-append places (p ∷ []))) (c, at, refl, subst (λ x. IsPath cs x (reverse places) to) (sym ends ∙ ap (λ x. x.to) same) rest),
      )

-- ---- how many there are

pub back-short : (cs : List Coercion) → OnePath cs → (from to : ℕ) (places : List ℕ) → IsPath cs from (reverse places) to → length places ≤ length cs
back-short cs one from to places on = let short = path-short cs one from to (reverse places) on in let same = length-reverse places in omega (arith, short, same)

pub back-smaller : (cs : List Coercion) → OnePath cs → (from to p : ℕ) (places longer : List ℕ) → longer ≡ places ++ p ∷ [] → IsPath cs from (reverse longer) to → length cs - length longer < length cs - length places
back-smaller cs one from to p places longer is on =
    let short = back-short cs one from to longer on in
    let many : length longer ≡ length places + 1 = ap length is ∙ length-append places (p ∷ []) in
    omega (arith, short, many)

-- ---- the terms in order

module _ (cs : List Coercion) (p : ℕ) (places left : List ℕ) (is : places ≡ left ++ p ∷ []) where
  next-is : reverse places ≡ p ∷ reverse left
  next-is = ap reverse is ∙ reverse-append left (p ∷ [])

  pub next-there : (from to : ℕ) → IsPath cs from (reverse places) to → IsPath cs from (p ∷ reverse left) to
  next-there from to on = subst (λ path. IsPath cs from path to) next-is on

  pub next-term : (c : Coercion) (ts new : List ℕ) → slice_get cs p ≡ Some c → new ≡ ts ++ c.term ∷ []
      → new ++ map (coercion_term cs) (reverse left) ≡ ts ++ map (coercion_term cs) (reverse places)
  next-term c ts new at made =
      ap (λ us. us ++ map (coercion_term cs) (reverse left)) made
      ∙ append_assoc ts (c.term ∷ []) (map (coercion_term cs) (reverse left))
      ∙ ap (λ t. ts ++ t ∷ map (coercion_term cs) (reverse left)) (sym (term-at cs p c at))
      ∙ ap (λ path. ts ++ map (coercion_term cs) path) (sym next-is)
