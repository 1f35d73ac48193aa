-- Tests, and facts that hold or fail.
use Rattle.std.proofs.Common.{◌≡◌, ◌<◌, ◌⊎◌, ℕ, List, Bool, true, false, not, Option, Some, None, refl, inl, inr, arith}
use Rattle.std.specs.Prelude.{◌&&◌, ◌||◌, bytes_eq}
use Rattle.std.proofs.lemmas.Bool.{cases_lt, false_from_ne_true, false≢true, true≢false}
use Rattle.std.proofs.lemmas.Option.{none-some}
use Rattle.std.proofs.lemmas.Slice.Eq.{bytes_eq-Decides}

-- ---- tests

pub both-true : (a b : Bool) → (a && b) ≡ true → (a ≡ true) × (b ≡ true)
both-true true b h = (refl, h)
both-true false b h = absurd cc

pub or-cases : (a b : Bool) → (a || b) ≡ true → (a ≡ true) ⊎ (b ≡ true)
or-cases true b h = inl refl
or-cases false b h = inr h

pub not-true : (b : Bool) → not b ≡ true → b ≡ false
not-true true h = absurd cc
not-true false h = refl

pub or-false : (b : Bool) → (b || false) ≡ b
or-false true = refl
or-false false = refl

pub same-bytes : (xs ys : List ℕ) → bytes_eq xs ys ≡ true → xs ≡ ys
same-bytes xs ys e = (bytes_eq-Decides xs ys).0 e

pub other-bytes : (xs ys : List ℕ) → (xs ≡ ys → ⊥) → bytes_eq xs ys ≡ false
other-bytes xs ys other = false_from_ne_true (bytes_eq xs ys) (λ is. other ((bytes_eq-Decides xs ys).0 is))

-- ---- facts

abbrev pub Decided : Type 0 → Type 0
Decided P = P ⊎ (P → ⊥)

pub true-decided : (b : Bool) → Decided (b ≡ true)
true-decided true = inl refl
true-decided false = inr false≢true

pub false-decided : (b : Bool) → Decided (b ≡ false)
false-decided true = inr true≢false
false-decided false = inl refl

pub below-decided : (m n : ℕ) → Decided (m < n)
below-decided m n = elim (cases_lt m n) [ inl lt ↦ inl lt | inr le ↦ inr (λ lt. omega (arith, le, lt)) ]

pub not-decided : {P : Type 0} → Decided P → Decided (P → ⊥)
not-decided (inl p) = inr (λ f. f p)
not-decided (inr out) = inl out

pub either-decided : {P Q : Type 0} → Decided P → Decided Q → Decided (P ⊎ Q)
either-decided (inl p) d = inl (inl p)
either-decided (inr out) (inl q) = inl (inr q)
either-decided (inr out) (inr never) = inr (λ h. elim h [ inl p ↦ out p | inr q ↦ never q ])

pub three-decided : {P Q R : Type 0} → Decided P → Decided Q → Decided R → Decided (P × Q × R)
three-decided (inl p) (inl q) (inl r) = inl (p, q, r)
three-decided (inr out) q r = inr (λ h. out h.0)
three-decided (inl p) (inr out) r = inr (λ h. out h.1)
three-decided (inl p) (inl q) (inr out) = inr (λ h. out h.2)

pub some-decided : {A : Type 0} (o : Option A) → Decided ((x : A) × (o ≡ Some x))
some-decided None = inr (λ h. none-some h.0 h.1)
some-decided (Some x) = inl (x, refl)
