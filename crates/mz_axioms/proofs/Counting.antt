-- How many numbers a set has, and which of them stands at a place.
use Rattle.std.proofs.Common.{◌≡◌, ◌∙◌, ◌≤◌, ◌<◌, ◌+◌, ◌-◌, ◌*◌, ◌/◌, ◌%◌, ◌^◌, ◌==◌, ℕ, zero, suc, List, [], ◌∷◌, ◌++◌, map, length, get_or, slice_get, Some, refl, sym, ap, subst, arith, length-append}
use Rattle.std.specs.Prelude.{All, count_ones, if◌then◌else◌}
use Rattle.std.proofs.lemmas.List.{length-map}
use Rattle.std.proofs.lemmas.Nat.{ones-le, ones_cat, zero_from_ones}
use Rattle.std.proofs.lemmas.Option.{get_or_from_slice_get, slice_get-get_or}
use Rattle.mz_base.proofs.Offered.{slice_get-append, slice_get-append_add, slice_get-map_at}
use Rattle.mz_axioms.specs.declared.lists.Support.{Support}
use Rattle.mz_axioms.specs.declared.rows.Row.{Row}
use Rattle.mz_axioms.specs.declared.rows.Table.{Table}
use Rattle.mz_axioms.specs.declared.sets.Node.{Node}
use Rattle.mz_axioms.specs.Kept.{IsListed, IsSupport, members_of, nodes_of, number_in_row, number_of, support_told, supports_told, told, told_row}
use Rattle.mz_axioms.specs.Lists.{TheoremSupport, axioms_at, axioms_in}
use Rattle.mz_axioms.specs.Members.{IsStore, bits, left_of, low_bit, members, right_of, span}
use Rattle.mz_axioms.specs.Rows.{number_at}
use Rattle.mz_axioms.proofs.Joining.{none-in}
use Rattle.mz_axioms.proofs.Writing.{numbers-told}

-- ---- how many bits of a word are set

below-two : (r : ℕ) → r < 2 → (r ≡ 0 → ⊥) → r ≡ 1
below-two zero lt some = absurd (some refl)
below-two (suc zero) lt some = refl
below-two (suc (suc r)) lt some = absurd (omega (arith, lt))

low-of : (base r : ℕ) → r < 2 → length (if r == 1 then base ∷ [] else []) ≡ r
low-of base (suc (suc r)) lt = absurd (omega (arith, lt))
low-of base _ lt = refl

low-long : (base word : ℕ) → length (low_bit base word) ≡ word % 2
low-long base word = low-of base (word % 2) (omega arith)

bits-long : (many base word : ℕ) → length (bits (suc many) base word) ≡ word % 2 + length (bits many (base + 1) (word / 2))
unfolding bits
bits-long many base word = length-append (low_bit base word) (bits many (base + 1) (word / 2)) ∙ ap (λ n. n + length (bits many (base + 1) (word / 2))) (low-long base word)

no-bits-long : (base word : ℕ) → length (bits 0 base word) ≡ 0
unfolding bits
no-bits-long base word = refl

bits-even : (many a b word : ℕ) → length (bits many a word) ≡ length (bits many b word)
bits-even zero a b word = no-bits-long a word ∙ sym (no-bits-long b word)
bits-even (suc many) a b word = bits-long many a word ∙ ap (λ n. word % 2 + n) (bits-even many (a + 1) (b + 1) (word / 2)) ∙ sym (bits-long many b word)

bits-few : (many base word : ℕ) → length (bits many base word) ≤ many
bits-few zero base word = let e = no-bits-long base word in omega (arith, e)
bits-few (suc many) base word = let e = bits-long many base word in let on = bits-few many (base + 1) (word / 2) in omega (arith, e, on)

one-digit : (r : ℕ) → r < 2 → count_ones r ≡ r
one-digit zero lt = let e = ones-le 0 0 (omega arith) in omega (arith, e)
one-digit (suc zero) lt = below-two (count_ones 1) (let few = ones-le 1 1 (omega arith) in omega (arith, few)) (λ none. let e = zero_from_ones 1 none in omega (arith, e))
one-digit (suc (suc r)) lt = absurd (omega (arith, lt))

ones-next : (n : ℕ) → count_ones n ≡ n % 2 + count_ones (n / 2)
ones-next n =
    let whole : n ≡ n / 2 * 2 ^ 1 + n % 2 = omega arith in
    let cut = ones_cat 1 (n / 2) (n % 2) (omega arith) in
    let low = one-digit (n % 2) (omega arith) in
    let same = ap count_ones whole in
    same ∙ cut ∙ ap (λ k. count_ones (n / 2) + k) low ∙ (let e : count_ones (n / 2) + n % 2 ≡ n % 2 + count_ones (n / 2) = omega arith in e)

pub bits-ones : (many base word : ℕ) → word < 2 ^ many → length (bits many base word) ≡ count_ones word
bits-ones zero base word lt = let none = no-bits-long base word in let few = ones-le 0 word lt in omega (arith, none, few)
bits-ones (suc many) base word lt =
    let twice : 2 ^ suc many ≡ 2 * 2 ^ many = omega arith in
    bits-long many base word ∙ ap (λ n. word % 2 + n) (bits-ones many (base + 1) (word / 2) (omega (arith, lt, twice))) ∙ sym (ones-next word)

-- ---- how many numbers a set has

pub members-even : (nodes : List Node) (height a b id : ℕ) → length (members nodes height a id) ≡ length (members nodes height b id)
members-even nodes zero a b id = bits-even 64 a b id
members-even nodes (suc height) a b id =
    length-append (members nodes height a (left_of nodes id)) (members nodes height (a + span height) (right_of nodes id))
    ∙ ap (λ n. n + length (members nodes height (a + span height) (right_of nodes id))) (members-even nodes height a b (left_of nodes id))
    ∙ ap (λ n. length (members nodes height b (left_of nodes id)) + n) (members-even nodes height (a + span height) (b + span height) (right_of nodes id))
    ∙ sym (length-append (members nodes height b (left_of nodes id)) (members nodes height (b + span height) (right_of nodes id)))

pub members-few : (nodes : List Node) (height base id : ℕ) → length (members nodes height base id) ≤ span height
members-few nodes zero base id = bits-few 64 base id
members-few nodes (suc height) base id =
    let e = length-append (members nodes height base (left_of nodes id)) (members nodes height (base + span height) (right_of nodes id)) in
    let low = members-few nodes height base (left_of nodes id) in
    let high = members-few nodes height (base + span height) (right_of nodes id) in
    omega (arith, e, low, high)

pub count-none : (nodes : List Node) (height set : ℕ) → IsStore nodes → set ≡ 0 → 0 ≡ length (members nodes height 0 set)
count-none nodes height set starts none = sym (ap (λ (xs : List ℕ). length xs) (ap (members nodes height 0) none ∙ none-in nodes height 0 starts))

pub count-word : (nodes : List Node) (height set : ℕ) → height ≡ 0 → set < 2 ^ 64 → count_ones set ≡ length (members nodes height 0 set)
count-word nodes height set least lt = subst (λ k. count_ones set ≡ length (members nodes k 0 set)) (sym least) (sym (bits-ones 64 0 set lt))

-- of both halves
pub count-both : (nodes : List Node) (height half left right : ℕ) (whole : List ℕ) → whole ≡ members nodes height 0 left ++ members nodes height half right
    → length (members nodes height 0 left) + length (members nodes height 0 right) ≡ length whole
count-both nodes height half left right whole is =
    ap (λ n. length (members nodes height 0 left) + n) (members-even nodes height 0 half right)
    ∙ sym (length-append (members nodes height 0 left) (members nodes height half right)) ∙ ap (λ (xs : List ℕ). length xs) (sym is)

-- ---- which bit of a word stands at a place

pub bits-some : (many base word j : ℕ) → j < length (bits many base word) → 0 < many
bits-some zero base word j lt = absurd (let e = no-bits-long base word in omega (arith, e, lt))
bits-some (suc many) base word j lt = omega arith

bits-cut : (many base word : ℕ) → 0 < many → bits many base word ≡ low_bit base word ++ bits (many - 1) (base + 1) (word / 2)
unfolding bits
bits-cut zero base word some = absurd (omega (arith, some))
bits-cut (suc many) base word some = ap (λ k. low_bit base word ++ bits k (base + 1) (word / 2)) (let e : many ≡ suc many - 1 = omega arith in e)

clear-cut : (many base word : ℕ) → 0 < many → word % 2 ≡ 0 → bits many base word ≡ bits (many - 1) (base + 1) (word / 2)
clear-cut many base word some clear = bits-cut many base word some ∙ ap (λ r. (if r == 1 then base ∷ [] else []) ++ bits (many - 1) (base + 1) (word / 2)) clear

set-cut : (many base word : ℕ) → 0 < many → (word % 2 ≡ 0 → ⊥) → bits many base word ≡ base ∷ bits (many - 1) (base + 1) (word / 2)
set-cut many base word some set =
    bits-cut many base word some ∙ ap (λ r. (if r == 1 then base ∷ [] else []) ++ bits (many - 1) (base + 1) (word / 2)) (below-two (word % 2) (omega arith) set)

past-first : (x : ℕ) (xs : List ℕ) (j : ℕ) → (j ≡ 0 → ⊥) → slice_get (x ∷ xs) j ≡ slice_get xs (j - 1)
past-first x xs zero some = absurd (some refl)
past-first x xs (suc j) some = ap (slice_get xs) (let e : j ≡ suc j - 1 = omega arith in e)

above-first : (j : ℕ) → (j ≡ 0 → ⊥) → 0 < j
above-first zero some = absurd (some refl)
above-first (suc j) some = omega arith

-- the j-th of the bits is looked for, and stands there
module _ (many base word j : ℕ) (there : j < length (bits many base word)) where
  pub clear-there : word % 2 ≡ 0 → j < length (bits (many - 1) (base + 1) (word / 2))
  clear-there clear = subst (λ (xs : List ℕ). j < length xs) (clear-cut many base word (bits-some many base word j there) clear) there

  pub clear-next : (n : ℕ) → word % 2 ≡ 0 → slice_get (bits (many - 1) (base + 1) (word / 2)) j ≡ Some n → slice_get (bits many base word) j ≡ Some n
  clear-next n clear at = ap (λ (xs : List ℕ). slice_get xs j) (clear-cut many base word (bits-some many base word j there) clear) ∙ at

  pub set-here : (word % 2 ≡ 0 → ⊥) → j ≡ 0 → slice_get (bits many base word) j ≡ Some base
  set-here set first = ap (λ (xs : List ℕ). slice_get xs j) (set-cut many base word (bits-some many base word j there) set) ∙ ap (slice_get (base ∷ bits (many - 1) (base + 1) (word / 2))) first

  pub set-there : (word % 2 ≡ 0 → ⊥) → (j ≡ 0 → ⊥) → j - 1 < length (bits (many - 1) (base + 1) (word / 2))
  set-there set past =
      let e = ap (λ (xs : List ℕ). length xs) (set-cut many base word (bits-some many base word j there) set) in
      let some = above-first j past in
      omega (arith, e, some, there)

  pub set-next : (n : ℕ) → (word % 2 ≡ 0 → ⊥) → (j ≡ 0 → ⊥) → slice_get (bits (many - 1) (base + 1) (word / 2)) (j - 1) ≡ Some n → slice_get (bits many base word) j ≡ Some n
  set-next n set past at =
      ap (λ (xs : List ℕ). slice_get xs j) (set-cut many base word (bits-some many base word j there) set) ∙ past-first base (bits (many - 1) (base + 1) (word / 2)) j past ∙ at

-- ---- which number of a set stands at a place

-- in the first of two lists, or in the second
pub first-at : (low high whole : List ℕ) (j n : ℕ) → whole ≡ low ++ high → slice_get low j ≡ Some n → slice_get whole j ≡ Some n
first-at low high whole j n is at = ap (λ (xs : List ℕ). slice_get xs j) is ∙ slice_get-append low high j n at

pub second-there : (low high whole : List ℕ) (j lows : ℕ) → whole ≡ low ++ high → lows ≡ length low → lows ≤ j → j < length whole → j - lows < length high
second-there low high whole j lows is long past lt =
    let e = ap (λ (xs : List ℕ). length xs) is ∙ length-append low high in
    omega (arith, e, long, past, lt)

pub second-at : (low high whole : List ℕ) (j lows n : ℕ) → whole ≡ low ++ high → lows ≡ length low → lows ≤ j → slice_get high (j - lows) ≡ Some n → slice_get whole j ≡ Some n
second-at low high whole j lows n is long past at =
    let place : j ≡ length low + (j - lows) = omega (arith, long, past) in
    ap (λ (xs : List ℕ). slice_get xs j) is ∙ ap (slice_get (low ++ high)) place ∙ slice_get-append_add low high (j - lows) ∙ at

-- ---- the numbers of declarations

row-within : (xs : List ℕ) (many j n : ℕ) → All (λ A. A < many) xs → j < length xs → slice_get xs j ≡ Some n → n < many
row-within xs many j n all lt at = subst (λ k. k < many) (get_or_from_slice_get xs j n 0 at) (all j 0 lt)

pub row-there : (table : Table) (set j n : ℕ) → All (λ A. A < length (told table)) (members_of table set) → j < length (members_of table set) → slice_get (members_of table set) j ≡ Some n → n < length table.rows.items
row-there table set j n all lt at =
    let w = row-within (members_of table set) (length (told table)) j n all lt at in
    let e = length-map table.rows.items (told_row (nodes_of table) table.size.height) in
    omega (arith, w, e)

pub number-there : (table : Table) (set j n : ℕ) (row : Row) → slice_get (members_of table set) j ≡ Some n → n < length table.rows.items → row ≡ get_or table.rows.items n row
    → slice_get (map (number_at (told table)) (members_of table set)) j ≡ Some row.place.number
number-there table set j n row at lt read =
    ap (λ (xs : List ℕ). slice_get xs j) (sym (numbers-told (nodes_of table) table.size.height table.rows.items (members_of table set)))
    ∙ slice_get-map_at (number_of table.rows.items) (members_of table set) j n at
    ∙ ap (λ k. Some k) (ap number_in_row (slice_get-get_or table.rows.items n row lt ∙ ap (λ (r : Row). Some r) (sym read)))

-- ---- the lists

module _ (table : Table) (supports : List Support) (i : ℕ) (s : Support) (lt : i < length supports) (read : s ≡ get_or supports i s) (listed : IsListed table supports) where
  pub is-support : IsSupport table s
  is-support = subst (IsSupport table) (sym read) (listed.each i s lt)

  there : slice_get (supports_told table supports) i ≡ Some (support_told table s)
  there = slice_get-map_at (support_told table) supports i s (slice_get-get_or supports i s lt ∙ ap (λ (x : Support). Some x) (sym read))

  pub axioms-are : axioms_at (supports_told table supports) i ≡ map (number_at (told table)) (members_of table s.set)
  axioms-are = ap axioms_in there

  pub axioms-long : length (axioms_at (supports_told table supports) i) ≡ length (members_of table s.set)
  axioms-long = ap (λ (xs : List ℕ). length xs) axioms-are ∙ length-map (members_of table s.set) (number_at (told table))

  pub axioms-small : length (members_of table s.set) < 2 ^ 32
  axioms-small =
      let few = listed.small.axioms i (support_told table s) (let e = length-map supports (support_told table) in omega (arith, e, lt)) in
      let same = ap (λ (x : TheoremSupport). length x.axioms) (get_or_from_slice_get (supports_told table supports) i (support_told table s) (support_told table s) there) in
      let long = length-map (members_of table s.set) (number_at (told table)) in
      omega (arith, few, same, long)

pub inside-there : (table : Table) (supports : List Support) (view : List TheoremSupport) (i : ℕ) → view ≡ supports_told table supports → i < length view → i < length supports
inside-there table supports view i is lt =
    let e = ap (λ (xs : List TheoremSupport). length xs) is ∙ length-map supports (support_told table) in
    omega (arith, e, lt)

-- a list that has axioms is one of the lists
pub listed-there : (supports : List TheoremSupport) (i j : ℕ) → j < length (axioms_at supports i) → i < length supports
listed-there [] i j lt = absurd (omega (arith, lt))
listed-there (s ∷ supports) zero j lt = omega arith
listed-there (s ∷ supports) (suc i) j lt = let on = listed-there supports i j lt in omega (arith, on)
