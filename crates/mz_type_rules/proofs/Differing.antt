-- Variables that differ, none of them in V of an operand, looked at one after another.
use Rattle.std.proofs.Common.{◌≡◌, ◌⊎◌, ◌↔◌, ℕ, Bool, true, false, true≢false, IsTrue, List, [], ◌∷◌, Contains, refl, sym, subst, inl, inr}
use Rattle.std.specs.Prelude.{⊤, not}
use Rattle.mz_base.proofs.Offered.{contains_none, contains_tail, contains_head, contains_cases}
use Rattle.mz_logic_theory.specs.Tree.{Trees}
use Rattle.mz_logic_theory.specs.Variables.{InSomeV}
use Rattle.mz_logic_theory.specs.declared.binder.Binder.{Binder}
use Rattle.mz_mmu_theory.specs.Rules.{AreNew}

-- none is among those seen, or stands again behind itself
abbrev pub Differ : List ℕ → List ℕ → Type 0
Differ seen [] = ⊤
Differ seen (y ∷ ys) = (Contains seen y → ⊥) × (Contains ys y → ⊥) × Differ seen ys

module _ (ctx : List Binder) (es : Trees) where
  -- the same, and none of both lists is in V of an operand
  abbrev pub AreNewTo : List ℕ → List ℕ → Type 0
  AreNewTo seen ys = ((x : ℕ) → Contains seen x ⊎ Contains ys x → InSomeV ctx x es → ⊥) × Differ seen ys

  new-to : (ys : List ℕ) → AreNewTo [] ys → AreNew ctx es ys
  new-to [] h = tt
  new-to (y ∷ ys) (out, (_, again, rest)) = (
    out y (inr (contains_head y ys)),
    again,
    new-to ys (λ x found. out x (elim found [ inl none ↦ inl none | inr has ↦ inr (contains_tail y x ys has) ]), rest),
  )

  new-from : (ys : List ℕ) → AreNew ctx es ys → AreNewTo [] ys
  new-from [] h = (λ x found named. elim found [ inl none ↦ contains_none x none | inr none ↦ contains_none x none ], tt)
  new-from (y ∷ ys) (free, again, rest) =
      let (out, differ) = new-from ys rest in (
        λ x found named. elim found [
          | inl none ↦ contains_none x none
          | inr has ↦ elim (contains_cases y x ys has) [ inl same ↦ free (subst (λ z. InSomeV ctx z es) (sym same) named) | inr behind ↦ out x (inr behind) named ]
        ],
        (contains_none y, again, differ),
      )

  -- before the first
  pub new-first : (seen ys : List ℕ) → seen ≡ [] → AreNewTo seen ys ↔ AreNew ctx es ys
  new-first seen ys empty = subst (λ xs. AreNewTo xs ys ↔ AreNew ctx es ys) (sym empty) (new-to ys, new-from ys)

  module _ (seen ys zs : List ℕ) (y : ℕ) (cut : ys ≡ y ∷ zs) (W : Type 0) (left : AreNewTo seen ys ↔ W) where
    whole : AreNewTo seen (y ∷ zs) ↔ W
    whole = subst (λ xs. AreNewTo seen xs ↔ W) cut left

    -- one that was seen
    pub new-not : Contains seen y → W → ⊥
    new-not has w = (let (_, (out, _, _)) = whole.1 w in out has)

    -- one more
    module _ (new : List ℕ) (grows : (x : ℕ) → Contains new x ↔ (Contains seen x ⊎ (x ≡ y))) where
      differ-to : (xs : List ℕ) → Differ seen xs → (Contains xs y → ⊥) → Differ new xs
      differ-to [] h off = tt
      differ-to (x ∷ xs) (out, again, rest) off = (
        λ has. elim ((grows x).0 has) [ inl old ↦ out old | inr same ↦ off (subst (Contains (x ∷ xs)) same (contains_head x xs)) ],
        again,
        differ-to xs rest (λ has. off (contains_tail x y xs has)),
      )

      differ-from : (xs : List ℕ) → Differ new xs → Differ seen xs × (Contains xs y → ⊥)
      differ-from [] h = (tt, contains_none y)
      differ-from (x ∷ xs) (out, again, rest) =
          let behind = differ-from xs rest in (
            ((λ has. out ((grows x).1 (inl has))), again, behind.0),
            λ has. elim (contains_cases x y xs has) [ inl same ↦ out ((grows x).1 (inr same)) | inr later ↦ behind.1 later ],
          )

      pub new-more : (Contains seen y → ⊥) → AreNewTo new zs ↔ W
      new-more unseen = (λ h. whole.0 (to h), λ w. from (whole.1 w))
        where
          to : AreNewTo new zs → AreNewTo seen (y ∷ zs)
          to (out, differ) =
              let behind = differ-from zs differ in (
                λ x found. out x (elim found [
                  | inl old ↦ inl ((grows x).1 (inl old))
                  | inr has ↦ elim (contains_cases y x zs has) [ inl same ↦ inl ((grows x).1 (inr (sym same))) | inr later ↦ inr later ]
                ]),
                (unseen, behind.1, behind.0),
              )

          from : AreNewTo seen (y ∷ zs) → AreNewTo new zs
          from (out, (_, again, rest)) = (
            λ x found. out x (elim found [
              | inl has ↦ elim ((grows x).0 has) [ inl old ↦ inl old | inr same ↦ inr (subst (Contains (y ∷ zs)) (sym same) (contains_head y zs)) ]
              | inr later ↦ inr (contains_tail y x zs later)
            ]),
            differ-to zs rest again,
          )

  -- behind the last
  module _ (seen ys : List ℕ) (empty : ys ≡ []) (W : Type 0) (left : AreNewTo seen ys ↔ W) where
    end : AreNewTo seen [] ↔ W
    end = subst (λ xs. AreNewTo seen xs ↔ W) empty left

    new-last : (((x : ℕ) × Contains seen x × InSomeV ctx x es) → ⊥) → W
    new-last none = end.0 (λ x found named. elim found [ inl has ↦ none (x, has, named) | inr has ↦ contains_none x has ], tt)

    not-last : ((x : ℕ) × Contains seen x × InSomeV ctx x es) → W → ⊥
    not-last (x, has, named) w = (end.1 w).0 x (inl has) named

    pub new-by : (b : Bool) → IsTrue b ↔ ((x : ℕ) × Contains seen x × InSomeV ctx x es) → IsTrue (not b) ↔ W
    new-by true (to, from) = (λ no. absurd (true≢false (sym no)), λ w. absurd (not-last (to refl) w))
    new-by false (to, from) = (λ _. new-last (λ some. true≢false (sym (from some))), λ _. refl)
