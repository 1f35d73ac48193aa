-- Words as sets of numbers.
use Rattle.std.proofs.Common.{◌≡◌, ◌∙◌, ◌≤◌, ◌<◌, ◌+◌, ◌-◌, ◌*◌, ◌/◌, ◌%◌, ◌^◌, ◌⊎◌, ◌==◌, ℕ, zero, suc, Bool, true, false, List, [], ◌∷◌, ◌++◌, length, get_or, refl, sym, ap, subst, inl, inr, arith, length-append}
use Rattle.std.specs.Prelude.{◌↔◌, All, Contains, if◌then◌else◌, bit_or}
use Rattle.std.specs.List.Sorted.{IsStrictlyIncreasing}
use Rattle.std.proofs.lemmas.Bool.{cases_lt}
use Rattle.std.proofs.lemmas.List.{get_or_append_left, get_or-append_right}
use Rattle.std.proofs.lemmas.List.Elements.{All-nil, All-cons, All-append, Contains-append_left, Contains-append_right, Contains-append_cases, Contains-push, Contains-push_cases}
use Rattle.std.proofs.lemmas.Nat.{or_shr, or_mod, pow-add}
use Rattle.mz_base.proofs.Offered.{contains_none}
use Rattle.mz_axioms.specs.Members.{bits, low_bit}

-- ---- a word of one bit more

first-cases : (b : Bool) (base n : ℕ) → Contains (if b then base ∷ [] else []) n → (b ≡ true) × (n ≡ base)
first-cases true base n has = (refl, elim (Contains-push_cases [] base n has) [ inl no_ ↦ absurd (contains_none n no_) | inr same ↦ sym same ])
first-cases false base n has = absurd (contains_none n has)

first-there : (b : Bool) (base n : ℕ) → b ≡ true → n ≡ base → Contains (if b then base ∷ [] else []) n
first-there true base n is same = subst (Contains (base ∷ [])) (sym same) (Contains-push [] base)
first-there false base n is same = absurd cc

-- the word's lowest bit is the base's, the others those of half the word, from the next number on
abbrev pub IsBit : (many base word n : ℕ) → Type 0
IsBit many base word n = (((word % 2 == 1) ≡ true) × (n ≡ base)) ⊎ Contains (bits many (base + 1) (word / 2)) n

pub bit-cases : (many base word n : ℕ) → Contains (bits (suc many) base word) n → IsBit many base word n
unfolding bits
bit-cases many base word n has = elim (Contains-append_cases (low_bit base word) (bits many (base + 1) (word / 2)) n has) [
  | inl first ↦ inl (first-cases (word % 2 == 1) base n first)
  | inr rest ↦ inr rest
]

pub bit-there : (many base word n : ℕ) → IsBit many base word n → Contains (bits (suc many) base word) n
unfolding bits
bit-there many base word n is = elim is [
  | inl first ↦ Contains-append_left (low_bit base word) (bits many (base + 1) (word / 2)) n (first-there (word % 2 == 1) base n first.0 first.1)
  | inr rest ↦ Contains-append_right (low_bit base word) (bits many (base + 1) (word / 2)) n rest
]

pub no-bits : (base word n : ℕ) → Contains (bits 0 base word) n → ⊥
unfolding bits
no-bits base word n has = contains_none n has

pub bits-none : (many base : ℕ) → bits many base 0 ≡ []
unfolding bits
bits-none zero base = refl
bits-none (suc many) base = bits-none many (base + 1)

-- ---- the word of two words

below-two : (n : ℕ) → n < 2 → (n ≡ 0) ⊎ (n ≡ 1)
below-two zero lt = inl refl
below-two (suc zero) lt = inr refl
below-two (suc (suc n)) lt = absurd (omega (arith, lt))

odd-or : (a b : ℕ) → (bit_or a b % 2 == 1) ≡ true → ((a % 2 == 1) ≡ true) ⊎ ((b % 2 == 1) ≡ true)
odd-or a b is = elim (below-two (a % 2) (omega arith)) [
  | inr odd ↦ inl (ap (λ n. n == 1) odd)
  | inl even ↦ elim (below-two (b % 2) (omega arith)) [
    | inr odd ↦ inr (ap (λ n. n == 1) odd)
    | inl none ↦ absurd (let e : (0 == 1) ≡ true = ap (λ n. n == 1) (sym (or_mod a b 1 ∙ ap (λ n. bit_or n (b % 2)) even ∙ ap (bit_or 0) none)) ∙ is in cc)
  ]
]

odd-left : (a b : ℕ) → (a % 2 == 1) ≡ true → (bit_or a b % 2 == 1) ≡ true
odd-left a b is = elim (below-two (a % 2) (omega arith)) [
  | inl even ↦ absurd (let e : (0 == 1) ≡ true = ap (λ n. n == 1) (sym even) ∙ is in cc)
  | inr odd ↦ elim (below-two (b % 2) (omega arith)) [
    | inl none ↦ ap (λ n. n == 1) (or_mod a b 1 ∙ ap (λ n. bit_or n (b % 2)) odd ∙ ap (bit_or 1) none)
    | inr one ↦ ap (λ n. n == 1) (or_mod a b 1 ∙ ap (λ n. bit_or n (b % 2)) odd ∙ ap (bit_or 1) one)
  ]
]

odd-right : (a b : ℕ) → (b % 2 == 1) ≡ true → (bit_or a b % 2 == 1) ≡ true
odd-right a b is = elim (below-two (b % 2) (omega arith)) [
  | inl even ↦ absurd (let e : (0 == 1) ≡ true = ap (λ n. n == 1) (sym even) ∙ is in cc)
  | inr odd ↦ elim (below-two (a % 2) (omega arith)) [
    | inl none ↦ ap (λ n. n == 1) (or_mod a b 1 ∙ ap (λ n. bit_or n (b % 2)) none ∙ ap (bit_or 0) odd)
    | inr one ↦ ap (λ n. n == 1) (or_mod a b 1 ∙ ap (λ n. bit_or n (b % 2)) one ∙ ap (bit_or 1) odd)
  ]
]

-- of one bit more
or-more : (many base a b n : ℕ) → Contains (bits many (base + 1) (bit_or a b / 2)) n ↔ (Contains (bits many (base + 1) (a / 2)) n ⊎ Contains (bits many (base + 1) (b / 2)) n)
    → Contains (bits (suc many) base (bit_or a b)) n ↔ (Contains (bits (suc many) base a) n ⊎ Contains (bits (suc many) base b) n)
or-more many base a b n on = (
  λ has. elim (bit-cases many base (bit_or a b) n has) [
    | inl first ↦ elim (odd-or a b first.0) [
      | inl odd ↦ inl (bit-there many base a n (inl (odd, first.1)))
      | inr odd ↦ inr (bit-there many base b n (inl (odd, first.1)))
    ]
    | inr rest ↦ elim (on.0 rest) [
      | inl in_left ↦ inl (bit-there many base a n (inr in_left))
      | inr in_right ↦ inr (bit-there many base b n (inr in_right))
    ]
  ],
  λ h. elim h [
    | inl has ↦ elim (bit-cases many base a n has) [
      | inl first ↦ bit-there many base (bit_or a b) n (inl (odd-left a b first.0, first.1))
      | inr rest ↦ bit-there many base (bit_or a b) n (inr (on.1 (inl rest)))
    ]
    | inr has ↦ elim (bit-cases many base b n has) [
      | inl first ↦ bit-there many base (bit_or a b) n (inl (odd-right a b first.0, first.1))
      | inr rest ↦ bit-there many base (bit_or a b) n (inr (on.1 (inr rest)))
    ]
  ],
)

pub bits-or : (many base a b n : ℕ) → Contains (bits many base (bit_or a b)) n ↔ (Contains (bits many base a) n ⊎ Contains (bits many base b) n)
bits-or zero base a b n = (
  λ has. absurd (no-bits base (bit_or a b) n has),
  λ h. elim h [ inl has ↦ absurd (no-bits base a n has) | inr has ↦ absurd (no-bits base b n has) ],
)
bits-or (suc many) base a b n =
    or-more many base a b n
    (subst (λ w. Contains (bits many (base + 1) w) n ↔ (Contains (bits many (base + 1) (a / 2)) n ⊎ Contains (bits many (base + 1) (b / 2)) n)) (sym (or_shr a b 1)) (bits-or many (base + 1) (a / 2) (b / 2) n))

-- ---- the word of one number

one-first : (many base m : ℕ) → Contains (bits (suc many) base 1) m ↔ (m ≡ base + 0)
one-first many base m = (
  λ has. elim (bit-cases many base 1 m has) [
    | inl first ↦ (let e = first.1 in omega (arith, e))
    | inr rest ↦ absurd (contains_none m (subst (λ (xs : List ℕ). Contains xs m) (bits-none many (base + 1)) rest))
  ],
  λ is. bit-there many base 1 m (inl (refl, omega (arith, is))),
)

one-more : (many base i m : ℕ) → Contains (bits many (base + 1) (2 ^ i)) m ↔ (m ≡ base + 1 + i) → Contains (bits (suc many) base (2 ^ suc i)) m ↔ (m ≡ base + suc i)
one-more many base i m on = (
  λ has. elim (bit-cases many base (2 ^ suc i) m has) [
    | inl first ↦ absurd (let e : (0 == 1) ≡ true = ap (λ n. n == 1) (sym even) ∙ first.0 in cc)
    | inr rest ↦ (let is = on.0 (subst (λ w. Contains (bits many (base + 1) w) m) half rest) in omega (arith, is))
  ],
  λ is. bit-there many base (2 ^ suc i) m (inr (subst (λ w. Contains (bits many (base + 1) w) m) (sym half) (on.1 (omega (arith, is))))),
)
  where
    double : 2 ^ suc i ≡ 2 * 2 ^ i
    double = ap (λ n. 2 ^ n) (let e : suc i ≡ 1 + i = omega arith in e) ∙ pow-add 2 1 i

    even : 2 ^ suc i % 2 ≡ 0
    even = let d = double in omega (arith, d)

    half : 2 ^ suc i / 2 ≡ 2 ^ i
    half = let d = double in omega (arith, d)

pub bits-one : (many base i m : ℕ) → i < many → Contains (bits many base (2 ^ i)) m ↔ (m ≡ base + i)
bits-one zero base i m lt = absurd (omega (arith, lt))
bits-one (suc many) base zero m lt = one-first many base m
bits-one (suc many) base (suc i) m lt = one-more many base i m (bits-one many (base + 1) i m (omega (arith, lt)))

-- ---- ascending lists, one after the other

abbrev pub Between : (low high : ℕ) → List ℕ → Type 0
Between low high xs = All (λ x. (low ≤ x) × (x < high)) xs

pub ascending-append : (low mid high : ℕ) (xs ys : List ℕ) → IsStrictlyIncreasing xs → Between low mid xs → IsStrictlyIncreasing ys → Between mid high ys → IsStrictlyIncreasing (xs ++ ys)
ascending-append low mid high xs ys up below on above k lt = elim (cases_lt (k + 1) (length xs)) [
  | inl inside ↦ (
      let a = get_or_append_left xs ys 0 k (omega (arith, inside)) in
      let b = get_or_append_left xs ys 0 (k + 1) inside in
      let c = up k inside in
      omega (arith, a, b, c)
      )
  | inr past ↦ elim (cases_lt k (length xs)) [
    | inl last ↦ (
        let a = get_or_append_left xs ys 0 k last in
        let b = get_or-append_right xs ys (length xs) (k + 1) 0 refl past in
        let c = below k 0 last in
        let d = above (k + 1 - length xs) 0 (omega (arith, long, lt, past)) in
        let low_ = c.1 in
        let high_ = d.0 in
        omega (arith, a, b, low_, high_)
        )
    | inr after ↦ (
        let a = get_or-append_right xs ys (length xs) k 0 refl after in
        let b = get_or-append_right xs ys (length xs) (k + 1) 0 refl past in
        let next : k + 1 - length xs ≡ (k - length xs) + 1 = omega (arith, after) in
        let c = on (k - length xs) (omega (arith, long, lt, after)) in
        let d = ap (λ n. get_or ys n 0) next in
        omega (arith, a, b, c, d)
        )
  ]
]
  where
    long : length (xs ++ ys) ≡ length xs + length ys
    long = length-append xs ys

between-wider : (low high low' high' : ℕ) (xs : List ℕ) → low' ≤ low → high ≤ high' → Between low high xs → Between low' high' xs
between-wider low high low' high' xs l h all k d lt = let b = all k d lt in let b0 = b.0 in let b1 = b.1 in (omega (arith, b0, l), omega (arith, b1, h))

pub between-append : (low mid high : ℕ) (xs ys : List ℕ) → low ≤ mid → mid ≤ high → Between low mid xs → Between mid high ys → Between low high (xs ++ ys)
between-append low mid high xs ys l h below above =
    All-append (λ x. (low ≤ x) × (x < high)) xs ys (between-wider low mid low high xs (omega arith) h below) (between-wider mid high low high ys l (omega arith) above)

first-up : (b : Bool) (base : ℕ) → IsStrictlyIncreasing (if b then base ∷ [] else []) × Between base (base + 1) (if b then base ∷ [] else [])
first-up true base = (λ k lt. absurd (omega (arith, lt)), All-cons (λ x. (base ≤ x) × (x < base + 1)) base [] (omega arith, omega arith) (All-nil (λ x. (base ≤ x) × (x < base + 1))))
first-up false base = (λ k lt. absurd (omega (arith, lt)), All-nil (λ x. (base ≤ x) × (x < base + 1)))

pub bits-up : (many base word : ℕ) → IsStrictlyIncreasing (bits many base word) × Between base (base + many) (bits many base word)
unfolding bits
bits-up zero base word = (λ k lt. absurd (omega (arith, lt)), All-nil (λ x. (base ≤ x) × (x < base + 0)))
bits-up (suc many) base word =
    let (one, within) = first-up (word % 2 == 1) base in
    let (more, on) = bits-up many (base + 1) (word / 2) in
    let high : Between (base + 1) (base + suc many) (bits many (base + 1) (word / 2)) = between-wider (base + 1) (base + 1 + many) (base + 1) (base + suc many) (bits many (base + 1) (word / 2)) (omega arith) (omega arith) on in (
      ascending-append base (base + 1) (base + suc many) (low_bit base word) (bits many (base + 1) (word / 2)) one within more high,
      between-append base (base + 1) (base + suc many) (low_bit base word) (bits many (base + 1) (word / 2)) (omega arith) (omega arith) within high,
    )
