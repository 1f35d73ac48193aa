-- Identifiers and the literal tokens of statements are atoms of allowed bytes.
use Rattle.std.proofs.Common.{ℕ, ◌≡◌, ◌≤◌, Bool, true, false, List, [], ◌∷◌, refl, ap, ◌∙◌, arith, inl, inr, leb-true, le-leb}
use Rattle.std.specs.Prelude.{All, ◌==◌, ◌||◌, ◌&&◌, nat_le, not, bytes_eq, if◌then◌else◌}
use Rattle.std.specs.List.{list_all}
use Rattle.std.proofs.lemmas.Bool.{and_parts, or_cases, and_from, eqb-true, false≢true}
use Rattle.std.proofs.lemmas.Bool.Decides.{nat_tests}
use Rattle.std.proofs.lemmas.List.Elements.{All-nil, All-cons}
use Rattle.mz_sexpr.specs.Grammar.{IsAllowed, IsAtom, is_letter, begins_with}
use Rattle.mz_base.specs.Identifiers.{is_between, is_name_start, is_digit, is_name_byte}
use Rattle.mz_mmu_theory.specs.Name.{hidden, IsName}

-- from `0` to `z`, where the digits, the colon, the letters and `_` are
abbrev is_plain_byte : ℕ → Bool
is_plain_byte b = is_between 48 122 b

abbrev pub are_plain_bytes : List ℕ → Bool
are_plain_bytes [] = true
are_plain_bytes (b ∷ bs) = is_plain_byte b && are_plain_bytes bs

abbrev pub is_plain : List ℕ → Bool
is_plain [] = false
is_plain (b ∷ bs) = are_plain_bytes (b ∷ bs)

no-other : (b c : ℕ) → 48 ≤ b → c ≤ 47 → (b == c) ≡ false
no-other b c low less = grind (arith, nat_tests)

plain-letter : (b : ℕ) → 48 ≤ b → is_letter b ≡ true
plain-letter b low =
    ap (λ t. if t || b == 41 || b == 32 || b == 10 then false else true) (no-other b 40 low (omega arith))
    ∙ ap (λ t. if t || b == 32 || b == 10 then false else true) (no-other b 41 low (omega arith))
    ∙ ap (λ t. if t || b == 10 then false else true) (no-other b 32 low (omega arith))
    ∙ ap (λ t. if t then false else true) (no-other b 10 low (omega arith))

low-plain : (b : ℕ) → is_plain_byte b ≡ true → 48 ≤ b
low-plain b is = leb-true 48 b (and_parts (nat_le 48 b) (nat_le b 122) is).0

plain-allowed : (b : ℕ) → is_plain_byte b ≡ true → IsAllowed b
plain-allowed b is =
    let parts = and_parts (nat_le 48 b) (nat_le b 122) is in
    let low : 48 ≤ b = leb-true 48 b parts.0 in
    let high : b ≤ 122 = leb-true b 122 parts.1 in
    inl (omega arith, omega arith)

all-letters : (bs : List ℕ) → are_plain_bytes bs ≡ true → All (λ c. is_letter c ≡ true) bs
all-letters [] are = All-nil (λ c. is_letter c ≡ true)
all-letters (b ∷ bs) are =
    let parts = and_parts (is_plain_byte b) (are_plain_bytes bs) are in
    All-cons (λ c. is_letter c ≡ true) b bs (plain-letter b (low-plain b parts.0)) (all-letters bs parts.1)

all-allowed : (bs : List ℕ) → are_plain_bytes bs ≡ true → All IsAllowed bs
all-allowed [] are = All-nil IsAllowed
all-allowed (b ∷ bs) are =
    let parts = and_parts (is_plain_byte b) (are_plain_bytes bs) are in
    All-cons IsAllowed b bs (plain-allowed b parts.0) (all-allowed bs parts.1)

-- a token of such bytes; where it is literal, `refl` is the test
pub plain-atom : (w : List ℕ) → is_plain w ≡ true → IsAtom w × All IsAllowed w
plain-atom [] is = absurd (false≢true is)
plain-atom (b ∷ bs) is =
    let first : (b == 45) ≡ false = no-other b 45 (low-plain b (and_parts (is_plain_byte b) (are_plain_bytes bs) is).0) (omega arith) in
    ((all-letters (b ∷ bs) is, ap (λ t. t && begins_with 45 bs) first), all-allowed (b ∷ bs) is)

-- ---- identifiers

within : (low high b : ℕ) → 48 ≤ low → high ≤ 122 → is_between low high b ≡ true → is_plain_byte b ≡ true
within low high b from to is =
    let parts = and_parts (nat_le low b) (nat_le b high) is in
    let above : low ≤ b = leb-true low b parts.0 in
    let below : b ≤ high = leb-true b high parts.1 in
    and_from (nat_le 48 b) (nat_le b 122) (le-leb 48 b (omega arith)) (le-leb b 122 (omega arith))

name-start : (b : ℕ) → is_name_start b ≡ true → is_plain_byte b ≡ true
name-start b is =
    elim (or_cases (is_between 97 122 b || is_between 65 90 b) (b == 95) is) [
      | inl letter ↦ elim (or_cases (is_between 97 122 b) (is_between 65 90 b) letter) [
        | inl lower ↦ within 97 122 b (omega arith) (omega arith) lower
        | inr upper ↦ within 65 90 b (omega arith) (omega arith) upper
      ]
      | inr line ↦ ap is_plain_byte (eqb-true b 95 line)
    ]

name-byte : (b : ℕ) → is_name_byte b ≡ true → is_plain_byte b ≡ true
name-byte b is =
    elim (or_cases (is_name_start b) (is_digit b) is) [
      | inl start ↦ name-start b start
      | inr digit ↦ within 48 57 b (omega arith) (omega arith) digit
    ]

name-bytes : (bs : List ℕ) → list_all is_name_byte bs ≡ true → are_plain_bytes bs ≡ true
name-bytes [] are = refl
name-bytes (b ∷ bs) are =
    let parts = and_parts (is_name_byte b) (list_all is_name_byte bs) are in
    and_from (is_plain_byte b) (are_plain_bytes bs) (name-byte b parts.0) (name-bytes bs parts.1)

pub name-atom : (w : List ℕ) → IsName w → IsAtom w × All IsAllowed w
name-atom [] is = absurd (false≢true is)
name-atom (b ∷ bs) is =
    let whole = and_parts (is_name_start b && list_all is_name_byte bs) (not (bytes_eq (b ∷ bs) hidden)) is in
    let parts = and_parts (is_name_start b) (list_all is_name_byte bs) whole.0 in
    plain-atom (b ∷ bs) (and_from (is_plain_byte b) (are_plain_bytes bs) (name-start b parts.0) (name-bytes bs parts.1))
