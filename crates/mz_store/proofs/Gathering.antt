-- Words that are gathered part by part.
use Rattle.std.proofs.Common.{ℕ, ◌≡◌, ◌<◌, ◌-◌, ◌⊎◌, ◌↔◌, min, max, List, subst, inl, inr, arith, bit_and, bit_or, w64, ◌^◌}
use Rattle.std.specs.Int.{bit_at, bit_not}
use Rattle.std.proofs.lemmas.Nat.Bits.{bit_at_or, bit_at_and, bit_at_not, bit_at_above, bit_at-zero, bit_at-lt}
use Rattle.std.proofs.lemmas.Bool.{cases_lt}
use Rattle.mz_logic_theory.proofs.Offered.{one_at}
use Rattle.mz_store.specs.Bits.{HasAt, Tells}

-- so far the word says P, but for Q
abbrev pub Gathers : List ℕ → ℕ → (ℕ → Type 0) → (ℕ → Type 0) → Type 0
Gathers places word P Q = (k : ℕ) → ((bit_at word k ≡ 1) ⊎ HasAt places Q k) ↔ HasAt places P k

pub zero-or-one : (n k : ℕ) → (bit_at n k ≡ 0) ⊎ (bit_at n k ≡ 1)
zero-or-one n k = grind (arith, bit_at-lt n k)

or-left : (a b k : ℕ) → bit_at a k ≡ 1 → bit_at (bit_or a b) k ≡ 1
or-left a b k bit = (let e : bit_at (bit_or a b) k ≡ max (bit_at a k) (bit_at b k) = bit_at_or a b k in omega (arith, bit_at-lt b k))

or-right : (a b k : ℕ) → bit_at b k ≡ 1 → bit_at (bit_or a b) k ≡ 1
or-right a b k bit = (let e : bit_at (bit_or a b) k ≡ max (bit_at a k) (bit_at b k) = bit_at_or a b k in omega (arith, bit_at-lt a k))

or-cases : (a b k : ℕ) → bit_at (bit_or a b) k ≡ 1 → (bit_at a k ≡ 1) ⊎ (bit_at b k ≡ 1)
or-cases a b k bit = elim (zero-or-one a k) [
  | inr one ↦ inl one
  | inl off ↦ inr (let e : bit_at (bit_or a b) k ≡ max (bit_at a k) (bit_at b k) = bit_at_or a b k in omega arith)
]

pub gather-first : (places : List ℕ) (word : ℕ) (P Q S : ℕ → Type 0) → ((x : ℕ) → P x → S x ⊎ Q x) → ((x : ℕ) → S x → P x) → ((x : ℕ) → Q x → P x)
    → Tells places word S → Gathers places word P Q
gather-first places word P Q S split from-s from-q tells k = (
  λ some. elim some [ inl bit ↦ (let (x, at, s) = (tells k).0 bit in (x, at, from-s x s)) | inr has ↦ (has.0, has.1, from-q has.0 has.2) ],
  λ has. elim (split has.0 has.2) [ inl s ↦ inl ((tells k).1 (has.0, has.1, s)) | inr q ↦ inr (has.0, has.1, q) ],
)

pub gather-none : (places : List ℕ) (P : ℕ → Type 0) → Gathers places 0 P P
gather-none places P k = (
  λ some. elim some [ inl bit ↦ absurd (let e : bit_at 0 k ≡ 0 = bit_at-zero k in omega arith) | inr has ↦ has ],
  λ has. inr has,
)

pub gather-step : (places : List ℕ) (word part : ℕ) (P Q R S : ℕ → Type 0) → Gathers places word P Q
    → ((x : ℕ) → Q x → S x ⊎ R x) → ((x : ℕ) → S x → Q x) → ((x : ℕ) → R x → Q x)
    → Tells places part S → Gathers places (bit_or word part) P R
gather-step places word part P Q R S so-far split from-s from-r tells k = (to, from)
  where
    to : (bit_at (bit_or word part) k ≡ 1) ⊎ HasAt places R k → HasAt places P k
    to (inl bit) = elim (or-cases word part k bit) [
      | inl old ↦ (so-far k).0 (inl old)
      | inr new ↦ (let (x, at, s) = (tells k).0 new in (so-far k).0 (inr (x, at, from-s x s)))
    ]
    to (inr (x, at, r)) = (so-far k).0 (inr (x, at, from-r x r))

    from : HasAt places P k → (bit_at (bit_or word part) k ≡ 1) ⊎ HasAt places R k
    from has = elim ((so-far k).1 has) [
      | inl old ↦ inl (or-left word part k old)
      | inr q ↦ elim (split q.0 q.2) [
        | inl s ↦ inl (or-right word part k ((tells k).1 (q.0, q.1, s)))
        | inr r ↦ inr (q.0, q.1, r)
      ]
    ]

pub gather-skip : (places : List ℕ) (word : ℕ) (P Q R : ℕ → Type 0) → Gathers places word P Q → ((x : ℕ) → Q x → R x) → ((x : ℕ) → R x → Q x) → Gathers places word P R
gather-skip places word P Q R so-far to from k = (
  λ some. elim some [ inl bit ↦ (so-far k).0 (inl bit) | inr has ↦ (so-far k).0 (inr (has.0, has.1, from has.0 has.2)) ],
  λ has. elim ((so-far k).1 has) [ inl bit ↦ inl bit | inr q ↦ inr (q.0, q.1, to q.0 q.2) ],
)

pub gather-end : (places : List ℕ) (word : ℕ) (P Q : ℕ → Type 0) → Gathers places word P Q → ((x : ℕ) → Q x → ⊥) → Tells places word P
gather-end places word P Q so-far over k = (
  λ bit. (so-far k).0 (inl bit),
  λ has. elim ((so-far k).1 has) [ inl bit ↦ bit | inr q ↦ absurd (over q.0 q.2) ],
)

pub tells-same : (places : List ℕ) (word : ℕ) (P Q : ℕ → Type 0) → ((x : ℕ) → P x → Q x) → ((x : ℕ) → Q x → P x) → Tells places word P → Tells places word Q
tells-same places word P Q to from tells k = (
  λ bit. (let (x, at, p) = (tells k).0 bit in (x, at, to x p)),
  λ has. (tells k).1 (has.0, has.1, from has.0 has.2),
)

-- the bits of one word that aren't those of another
pub tells-without : (places : List ℕ) (a b : ℕ) (P Q : ℕ → Type 0) → a < 2 ^ 64 → b < 2 ^ 64 → Tells places a P → Tells places b Q
    → Tells places (bit_and a (bit_not w64 b)) (λ x. P x × (Q x → ⊥))
tells-without places a b P Q small-a small-b tells-a tells-b k = (to, from)
  where
    both : bit_at (bit_and a (bit_not w64 b)) k ≡ min (bit_at a k) (bit_at (bit_not w64 b) k)
    both = bit_at_and a (bit_not w64 b) k

    below : bit_at a k ≡ 1 → k < 64
    below bit = elim (cases_lt k 64) [ inl less ↦ less | inr past ↦ absurd (let e : bit_at a k ≡ 0 = bit_at_above a 64 k small-a past in omega arith) ]

    other : k < 64 → bit_at (bit_not w64 b) k ≡ 1 - bit_at b k
    other less = bit_at_not w64 b k small-b less

    to : bit_at (bit_and a (bit_not w64 b)) k ≡ 1 → HasAt places (λ x. P x × (Q x → ⊥)) k
    to bit = (let (x, at, p) = (tells-a k).0 in-a in (x, at, (p, λ q. absurd (let on : bit_at b k ≡ 1 = (tells-b k).1 (x, at, q) in let e : bit_at (bit_not w64 b) k ≡ 1 - bit_at b k = other (below in-a) in omega (arith, both, in-a)))))
      where
        in-a : bit_at a k ≡ 1
        in-a = omega (arith, both, bit_at-lt a k, bit_at-lt (bit_not w64 b) k)

    from : HasAt places (λ x. P x × (Q x → ⊥)) k → bit_at (bit_and a (bit_not w64 b)) k ≡ 1
    from (x, at, (p, out)) = elim (zero-or-one b k) [
      | inl off ↦ (let on : bit_at a k ≡ 1 = (tells-a k).1 (x, at, p) in let e : bit_at (bit_not w64 b) k ≡ 1 - bit_at b k = other (below on) in omega (arith, both))
      | inr on ↦ absurd (let (y, at-y, q) = (tells-b k).0 on in out (subst Q (one_at at-y at) q))
    ]
