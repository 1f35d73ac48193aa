-- Numbers that rise are reported by which of them there are.
use Rattle.std.proofs.Common.{ℕ, zero, suc, ◌≡◌, ◌<◌, ◌+◌, ◌⊎◌, inl, inr, List, [], ◌∷◌, length, Contains, refl, sym, ap, ◌∙◌, subst, arith, not-suc-le-zero}
use Rattle.std.specs.List.{AllPairs}
use Rattle.std.specs.List.Sorted.{IsStrictlyIncreasing}
use Rattle.std.proofs.lemmas.Bool.{cases_order}
use Rattle.std.proofs.lemmas.List.Kept.{AllPairs-from_increasing, AllPairs-cons}
use Rattle.std.proofs.lemmas.List.Elements.{All-weaker, All-contains_itself, Contains-append_right, Contains-append_cases}
use Rattle.mz_base.proofs.Offered.{contains_none, contains_head}
use Rattle.mz_mmu_theory.specs.Expressions.{IsAscending}

abbrev Rise : List ℕ → Type 0
Rise zs = AllPairs (λ x y. x < y) zs

in_one : (a x : ℕ) → Contains (a ∷ []) x → a ≡ x
in_one a x (zero, within, is) = is
in_one a x (suc k, within, is) = absurd (let below : suc k < 1 = within in omega (arith, below))

is_later : (a : ℕ) (xs : List ℕ) (x : ℕ) → Contains xs x → Contains (a ∷ xs) x
is_later a xs x h = Contains-append_right (a ∷ []) xs x h

first_or_later : (a : ℕ) (xs : List ℕ) (x : ℕ) → Contains (a ∷ xs) x → (a ≡ x) ⊎ Contains xs x
first_or_later a xs x h = elim (Contains-append_cases (a ∷ []) xs x h) [ inl one ↦ inl (in_one a x one) | inr later ↦ inr later ]

below_later : (a : ℕ) (xs : List ℕ) (x : ℕ) → Rise (a ∷ xs) → Contains xs x → a < x
below_later a xs x rise (k, within, is) =
    let below : 0 < suc k = omega arith in
    let there : suc k < length (a ∷ xs) = omega (arith, within) in
    subst (λ y. a < y) is (rise 0 (suc k) x below there)

later_rise : (a : ℕ) (xs : List ℕ) → Rise (a ∷ xs) → Rise xs
later_rise a xs rise = λ i j d below there.
    let below' : suc i < suc j = omega (arith, below) in
    let there' : suc j < length (a ∷ xs) = omega (arith, there) in
    rise (suc i) (suc j) d below' there'

-- each number of the first list is one of the second
abbrev AreIn : List ℕ → List ℕ → Type 0
AreIn xs ys = (x : ℕ) → Contains xs x → Contains ys x

module _ (a b : ℕ) (xs ys : List ℕ) (rise : Rise (a ∷ xs)) (rise' : Rise (b ∷ ys)) (there : AreIn (a ∷ xs) (b ∷ ys)) (back : AreIn (b ∷ ys) (a ∷ xs)) where
  same_first : a ≡ b
  same_first = elim (first_or_later b ys a (there a (contains_head a xs))) [
    | inl is ↦ sym is
    | inr later ↦ elim (first_or_later a xs b (back b (contains_head b ys))) [
      | inl is ↦ is
      | inr later' ↦ absurd (let p = below_later b ys a rise' later in let q = below_later a xs b rise later' in omega (arith, p, q))
    ]
  ]

  later_in : AreIn xs ys
  later_in x h = elim (first_or_later b ys x (there x (is_later a xs x h))) [
    | inl is ↦ absurd (let p = below_later a xs x rise h in omega (arith, p, is, same_first))
    | inr later ↦ later
  ]

  later_back : AreIn ys xs
  later_back x h = elim (first_or_later a xs x (back x (is_later b ys x h))) [
    | inl is ↦ absurd (let p = below_later b ys x rise' h in omega (arith, p, is, same_first))
    | inr later ↦ later
  ]

same_numbers : (xs ys : List ℕ) → Rise xs → Rise ys → AreIn xs ys → AreIn ys xs → xs ≡ ys
same_numbers [] [] rise rise' there back = refl
same_numbers [] (b ∷ ys) rise rise' there back = absurd (contains_none b (back b (contains_head b ys)))
same_numbers (a ∷ xs) [] rise rise' there back = absurd (contains_none a (there a (contains_head a xs)))
same_numbers (a ∷ xs) (b ∷ ys) rise rise' there back =
    ap (λ x. x ∷ xs) (same_first a b xs ys rise rise' there back)
    ∙ ap (λ zs. b ∷ zs) (same_numbers xs ys (later_rise a xs rise) (later_rise b ys rise') (later_in a b xs ys rise rise' there back) (later_back a b xs ys rise rise' there back))

-- numbers have one list in ascending order
pub ascending_once : (zs xs ys : List ℕ) → IsAscending zs xs → IsAscending zs ys → xs ≡ ys
ascending_once zs xs ys h k =
    same_numbers xs ys (AllPairs-from_increasing xs h.0) (AllPairs-from_increasing ys k.0) (λ x c. (k.1 x).1 ((h.1 x).0 c)) (λ x c. (h.1 x).1 ((k.1 x).0 c))

-- ---- and each list of numbers has one

rise_more : (a : ℕ) (xs : List ℕ) → ((x : ℕ) → Contains xs x → a < x) → Rise xs → Rise (a ∷ xs)
rise_more a xs below rise = AllPairs-cons (λ x y. x < y) a xs (All-weaker (Contains xs) (λ x. a < x) below xs (All-contains_itself xs)) rise

-- the number a and those of the list
abbrev IsWith : ℕ → List ℕ → List ℕ → Type 0
IsWith a xs ys = (x : ℕ) → (Contains ys x → (a ≡ x) ⊎ Contains xs x) × ((a ≡ x) ⊎ Contains xs x → Contains ys x)

with_first : (a : ℕ) (xs : List ℕ) → IsWith a xs (a ∷ xs)
with_first a xs x = (first_or_later a xs x, λ h. elim h [ inl is ↦ subst (Contains (a ∷ xs)) is (contains_head a xs) | inr later ↦ is_later a xs x later ])

with_there : (a : ℕ) (xs : List ℕ) → Contains xs a → IsWith a xs xs
with_there a xs there x = (inr, λ h. elim h [ inl is ↦ subst (Contains xs) is there | inr later ↦ later ])

with_later : (a b : ℕ) (xs ys : List ℕ) → IsWith a xs ys → IsWith a (b ∷ xs) (b ∷ ys)
with_later a b xs ys is x = (
  λ h. elim (first_or_later b ys x h) [
    | inl first ↦ inr (subst (Contains (b ∷ xs)) first (contains_head b xs))
    | inr later ↦ elim ((is x).0 later) [ inl one ↦ inl one | inr there ↦ inr (is_later b xs x there) ]
  ],
  λ h. elim h [
    | inl one ↦ is_later b ys x ((is x).1 (inl one))
    | inr there ↦ elim (first_or_later b xs x there) [
      | inl first ↦ subst (Contains (b ∷ ys)) first (contains_head b ys)
      | inr later ↦ is_later b ys x ((is x).1 (inr later))
    ]
  ],
)

rise_with : (a : ℕ) (xs : List ℕ) → Rise xs → (ys : List ℕ) × Rise ys × IsWith a xs ys
rise_with a [] rise = (a ∷ [], rise_more a [] (λ x h. absurd (contains_none x h)) rise, with_first a [])
rise_with a (b ∷ xs) rise = elim (cases_order a b) [
  | inl is ↦ (b ∷ xs, rise, with_there a (b ∷ xs) (subst (Contains (b ∷ xs)) (sym is) (contains_head b xs)))
  | inr (inl below) ↦ (
    a ∷ b ∷ xs,
    rise_more a (b ∷ xs) (λ x h. elim (first_or_later b xs x h) [ inl is ↦ omega (arith, below, is) | inr later ↦ let p = below_later b xs x rise later in omega (arith, below, p) ]) rise,
    with_first a (b ∷ xs),
  )
  | inr (inr above) ↦ let r = rise_with a xs (later_rise b xs rise) in (
    b ∷ r.0,
    rise_more b r.0 (λ x h. elim ((r.2 x).0 h) [ inl is ↦ omega (arith, above, is) | inr later ↦ below_later b xs x rise later ]) r.1,
    with_later a b xs r.0 r.2,
  )
]

rise_found : (zs : List ℕ) → (xs : List ℕ) × Rise xs × AreIn xs zs × AreIn zs xs
rise_found [] = ([], λ i j d below there. absurd (not-suc-le-zero there), λ x h. h, λ x h. h)
rise_found (a ∷ zs) =
    let r = rise_found zs in
    let s = rise_with a r.0 r.1 in (
      s.0,
      s.1,
      λ x h. elim ((s.2 x).0 h) [ inl is ↦ subst (Contains (a ∷ zs)) is (contains_head a zs) | inr later ↦ is_later a zs x (r.2 x later) ],
      λ x h. elim (first_or_later a zs x h) [ inl is ↦ (s.2 x).1 (inl is) | inr later ↦ (s.2 x).1 (inr (r.3 x later)) ],
    )

increasing : (xs : List ℕ) → Rise xs → IsStrictlyIncreasing xs
increasing xs rise = λ k there. rise k (k + 1) 0 (let below : k < k + 1 = omega arith in below) there

pub ascending_found : (zs : List ℕ) → (xs : List ℕ) × IsAscending zs xs
ascending_found zs = let r = rise_found zs in (r.0, (increasing r.0 r.1, λ x. (r.2 x, r.3 x)))
