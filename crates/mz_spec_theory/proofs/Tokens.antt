-- Each string has tokens, and one list of them.
use Rattle.std.proofs.Common.{◌≡◌, ◌<◌, ◌≤◌, ◌+◌, ◌-◌, ◌⊎◌, ℕ, zero, suc, List, [], ◌∷◌, length, Bool, true, false, ap₂, sym, refl, subst, inl, inr, arith, Contains}
use Rattle.std.specs.Prelude.{slice_index, IsTrue}
use Rattle.std.proofs.lemmas.Bool.{cases_lt}
use Rattle.mz_base.proofs.Offered.{contains-decided}
use Rattle.mz_lex.specs.Kinds.{is_space}
use Rattle.mz_lex.specs.declared.tokens.Delimiters.{Delimiters}
use Rattle.mz_lex.specs.declared.tokens.MathToken.{MathToken}
use Rattle.mz_lex.specs.MathTokens.{IsSpaces, IsMathToken, MathTokensFrom, MathTokens}
use Rattle.mz_lex.specs.Answers.{EndsAt, IsWhole}
use Rattle.mz_lex.proofs.Offered.{math_tokens-one, whole-first, whole-more, whole-math_token}
use Rattle.mz_spec_theory.specs.View.{Formula}
use Rattle.mz_spec_theory.specs.State.{State}
use Rattle.mz_spec_theory.specs.Formulas.{AreTokens, inner, math_of}

-- ---- where a token ends

cases : (x y : ℕ) (xs : List ℕ) → (x ≡ y → ⊥) → Contains (x ∷ xs) y → Contains xs y
cases x y xs differs (zero, below, is) = absurd (differs is)
cases x y xs differs (suc k, below, is) = (k, omega (arith, below), is)

true-decided : (b : Bool) → IsTrue b ⊎ (b ≡ false)
true-decided true = inl refl
true-decided false = inr refl

false-never : (b : Bool) → b ≡ false → IsTrue b → ⊥
false-never true e t = cc
false-never false e t = cc

ends-decided : (d : Delimiters) (text : List ℕ) (at : ℕ) → EndsAt d text at ⊎ (EndsAt d text at → ⊥)
ends-decided d text at = elim (true-decided (is_space (slice_index text at))) [
  | inl space ↦ inl (inl space)
  | inr solid ↦ elim (contains-decided d.left (slice_index text (at - 1))) [
    | inl left ↦ inl (inr (inl left))
    | inr no_left ↦ elim (contains-decided d.right (slice_index text at)) [
      | inl right ↦ inl (inr (inr right))
      | inr no_right ↦ inr (λ ends. elim ends [ inl space ↦ false-never _ solid space | inr other ↦ elim other [ inl left ↦ no_left left | inr right ↦ no_right right ] ])
    ]
  ]
]

module _ (d : Delimiters) (text : List ℕ) where
  token-end : (n from to : ℕ) → IsWhole d text from to → n + to ≡ length text → (p : MathToken) × (p.from ≡ from) × IsMathToken d text p
  token-end zero from to whole all = (record { from = from; to = to }, refl, whole-math_token d text from to whole (inl (let e : to ≡ length text = omega (arith, all) in e)))
  token-end (suc n) from to whole all = elim (ends-decided d text to) [
    | inl ends ↦ (record { from = from; to = to }, refl, whole-math_token d text from to whole (inr ends))
    | inr never ↦ token-end n from (to + 1) (whole-more d text from to whole (omega (arith, all)) never) (omega (arith, all))
  ]

  -- one more space before
  spaces-more : (from to : ℕ) → IsTrue (is_space (slice_index text from)) → IsSpaces text (from + 1) to → IsSpaces text from to
  spaces-more from to space (order, all) = (omega (arith, order), at)
    where
      at : (i : ℕ) → from ≤ i → i < to → IsTrue (is_space (slice_index text i))
      at i le below = elim (cases_lt from i) [
        | inl less ↦ all i (omega (arith, less)) below
        | inr more ↦ subst (λ k. IsTrue (is_space (slice_index text k))) (let e : from ≡ i = omega (arith, le, more) in e) space
      ]

  space-before : (from : ℕ) (ps : List MathToken) → IsTrue (is_space (slice_index text from)) → MathTokensFrom d text (from + 1) ps → MathTokensFrom d text from ps
  space-before from [] space on = spaces-more from (length text) space on
  space-before from (p ∷ ps) space (before, is, on) = (spaces-more from p.from space before, is, on)

  no-spaces : (from : ℕ) → IsSpaces text from from
  no-spaces from = (omega arith, λ i le below. absurd (omega (arith, le, below)))

  tokens-from : (fuel from : ℕ) → length text ≤ from + fuel → from ≤ length text → (ps : List MathToken) × MathTokensFrom d text from ps
  tokens-from zero from enough within = ([], subst (IsSpaces text from) (let e : from ≡ length text = omega (arith, enough, within) in e) (no-spaces from))
  tokens-from (suc fuel) from enough within = elim (cases_lt from (length text)) [
    | inr past ↦ ([], subst (IsSpaces text from) (let e : from ≡ length text = omega (arith, past, within) in e) (no-spaces from))
    | inl below ↦ elim (true-decided (is_space (slice_index text from))) [
      | inl space ↦ let rest = tokens-from fuel (from + 1) (omega (arith, enough)) (omega (arith, below)) in (rest.0, space-before from rest.0 space rest.1)
      | inr solid ↦
          let first = token-end (length text - (from + 1)) from (from + 1) (whole-first d text from below solid) (omega (arith, below)) in
          let some = first.2.some in let ends = first.2.within in
          let rest = tokens-from fuel first.0.to (omega (arith, enough, some, first.1)) ends in
          (first.0 ∷ rest.0, (subst (IsSpaces text from) (sym first.1) (no-spaces from), first.2, rest.1))
    ]
  ]

  pub tokens-there : (ps : List MathToken) × MathTokens d text ps
  tokens-there = tokens-from (length text) 0 (omega arith) (omega arith)

-- ---- the formulas of a statement

pub formulas-tokens : (σ : State) (fs : List Formula) → (pss : List (List MathToken)) × AreTokens σ fs pss
formulas-tokens σ [] = ([], tt)
formulas-tokens σ (f ∷ fs) =
    let first = tokens-there σ.table.delimiters (inner (math_of f)) in
    let rest = formulas-tokens σ fs in
    (first.0 ∷ rest.0, (first.1, rest.1))

pub tokens-one : (σ : State) (fs : List Formula) (pss qss : List (List MathToken)) → AreTokens σ fs pss → AreTokens σ fs qss → pss ≡ qss
tokens-one σ [] [] [] are other = refl
tokens-one σ [] [] (qs ∷ qss) are other = absurd other
tokens-one σ [] (ps ∷ pss) qss are other = absurd are
tokens-one σ (f ∷ fs) [] qss are other = absurd are
tokens-one σ (f ∷ fs) (ps ∷ pss) [] are other = absurd other
tokens-one σ (f ∷ fs) (ps ∷ pss) (qs ∷ qss) (is, are) (also, other) =
    ap₂ ◌∷◌ (math_tokens-one σ.table.delimiters (inner (math_of f)) 0 ps qs is also) (tokens-one σ fs pss qss are other)
