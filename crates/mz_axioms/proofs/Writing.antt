-- The numbers of a set, one after another.
use Rattle.std.proofs.Common.{◌≡◌, ◌∙◌, ◌≤◌, ◌<◌, ◌+◌, ◌-◌, ◌/◌, ◌%◌, ◌==◌, ℕ, suc, Bool, true, false, List, [], ◌∷◌, ◌++◌, map, length, get_or, slice_get, Option, Some, None, refl, sym, ap, subst, arith, append_assoc, append-nil, length-append}
use Rattle.std.specs.Prelude.{All, if◌then◌else◌, option_map}
use Rattle.std.proofs.lemmas.List.{map-append, get_or_append_left, get_or-append-add}
use Rattle.std.proofs.lemmas.Bool.{eq-eqb, ne_eqb}
use Rattle.std.proofs.lemmas.Option.{slice_get-map, slice_get-get_or}
use Rattle.mz_axioms.specs.declared.rows.Row.{Row}
use Rattle.mz_axioms.specs.declared.sets.Node.{Node}
use Rattle.mz_axioms.specs.Kept.{number_in_row, number_of, told_row}
use Rattle.mz_axioms.specs.Members.{IsSet, IsStore, bits, low_bit, members, span}
use Rattle.mz_axioms.specs.Rows.{number_in, number_at}
use Rattle.mz_axioms.proofs.Halving.{above-zero, node-read}
use Rattle.mz_axioms.proofs.Joining.{none-in}

-- ---- both parts of a list

pub all-front : (P : ℕ → Type 0) (xs ys : List ℕ) → All P (xs ++ ys) → All P xs
all-front P xs ys all k d lt = subst P (get_or_append_left xs ys d k lt) (all k d (let e = length-append xs ys in omega (arith, e, lt)))

pub all-back : (P : ℕ → Type 0) (xs ys : List ℕ) → All P (xs ++ ys) → All P ys
all-back P xs ys all k d lt = subst P (get_or-append-add xs ys k d) (all (length xs + k) d (let e = length-append xs ys in omega (arith, e, lt)))

-- ---- numbers of rows, kept or reported

number-same : (nodes : List Node) (height : ℕ) (o : Option Row) → number_in_row o ≡ number_in (option_map (told_row nodes height) o)
number-same nodes height None = refl
number-same nodes height (Some r) = refl

pub numbers-told : (nodes : List Node) (height : ℕ) (rows : List Row) (xs : List ℕ) → map (number_of rows) xs ≡ map (number_at (map (told_row nodes height) rows)) xs
numbers-told nodes height rows [] = refl
numbers-told nodes height rows (x ∷ xs) =
    let same : number_of rows x ≡ number_at (map (told_row nodes height) rows) x =
    number-same nodes height (slice_get rows x) ∙ ap number_in (sym (slice_get-map (told_row nodes height) rows x)) in
    ap (λ n. n ∷ map (number_of rows) xs) same ∙ ap (λ ns. number_at (map (told_row nodes height) rows) x ∷ ns) (numbers-told nodes height rows xs)

-- ---- a word's

low-put : (b : Bool) (f : ℕ → ℕ) (base n : ℕ) → b ≡ true → f base ≡ n → map f (if b then base ∷ [] else []) ≡ n ∷ []
low-put true f base n is same = ap (λ x. x ∷ []) same
low-put false f base n is same = absurd cc

low-left : (b : Bool) (f : ℕ → ℕ) (base : ℕ) → b ≡ false → map f (if b then base ∷ [] else []) ≡ []
low-left true f base is = absurd cc
low-left false f base is = refl

low-within : (b : Bool) (base n : ℕ) → b ≡ true → All (λ A. A < n) (if b then base ∷ [] else []) → base < n
low-within true base n is all = all 0 0 (omega arith)
low-within false base n is all = absurd cc

pub low-number : (rows : List Row) (base word : ℕ) (row : Row) → word % 2 ≡ 1 → base < length rows → row ≡ get_or rows base row → map (number_of rows) (low_bit base word) ≡ row.place.number ∷ []
low-number rows base word row odd lt read =
    low-put (word % 2 == 1) (number_of rows) base row.place.number (eq-eqb (word % 2) 1 odd) (ap number_in_row (slice_get-get_or rows base row lt ∙ ap (λ (r : Row). Some r) (sym read)))

pub low-none : (rows : List Row) (base word : ℕ) → (word % 2 ≡ 1 → ⊥) → map (number_of rows) (low_bit base word) ≡ []
low-none rows base word even = low-left (word % 2 == 1) (number_of rows) base (ne_eqb (word % 2) 1 even)

pub low-there : (base word n : ℕ) → word % 2 ≡ 1 → All (λ A. A < n) (low_bit base word) → base < n
low-there base word n odd all = low-within (word % 2 == 1) base n (eq-eqb (word % 2) 1 odd) all

-- the numbers so far with those of the bits that are left are the whole, and those are rows
pub record Left (rows : List Row) (base rest i : ℕ) (numbers whole : List ℕ) : Type 0 where
  pub all : numbers ++ map (number_of rows) (bits (64 - i) (base + i) rest) ≡ whole
  pub within : All (λ A. A < length rows) (bits (64 - i) (base + i) rest)

bits-next : (base rest i : ℕ) → i < 64 → bits (64 - i) (base + i) rest ≡ low_bit (base + i) rest ++ bits (64 - (i + 1)) (base + (i + 1)) (rest / 2)
unfolding bits
bits-next base rest i lt =
    let many : 64 - i ≡ suc (64 - (i + 1)) = omega (arith, lt) in
    let next : (base + i) + 1 ≡ base + (i + 1) = omega arith in
    ap (λ k. bits k (base + i) rest) many ∙ ap (λ b. low_bit (base + i) rest ++ bits (64 - (i + 1)) b (rest / 2)) next

pub left-first : (rows : List Row) (base word : ℕ) (numbers : List ℕ) → All (λ A. A < length rows) (bits 64 base word) → Left rows base word 0 numbers (numbers ++ map (number_of rows) (bits 64 base word))
left-first rows base word numbers within =
    let same : base + 0 ≡ base = omega arith in
    record {
      all = ap (λ b. numbers ++ map (number_of rows) (bits 64 b word)) same;
      within = subst (λ b. All (λ A. A < length rows) (bits 64 b word)) (sym same) within;
    }

pub left-low : (rows : List Row) (base rest i : ℕ) (numbers whole : List ℕ) → i < 64 → Left rows base rest i numbers whole → All (λ A. A < length rows) (low_bit (base + i) rest)
left-low rows base rest i numbers whole lt left =
    all-front (λ A. A < length rows) (low_bit (base + i) rest) (bits (64 - (i + 1)) (base + (i + 1)) (rest / 2)) (subst (All (λ A. A < length rows)) (bits-next base rest i lt) left.within)

pub left-next : (rows : List Row) (base rest i : ℕ) (old new whole : List ℕ) → i < 64 → new ≡ old ++ map (number_of rows) (low_bit (base + i) rest) → Left rows base rest i old whole → Left rows base (rest / 2) (i + 1) new whole
left-next rows base rest i old new whole lt put left =
    let low = low_bit (base + i) rest in
    let more = bits (64 - (i + 1)) (base + (i + 1)) (rest / 2) in
    let f = number_of rows in
    record {
      all = ap (λ xs. xs ++ map f more) put ∙ append_assoc old (map f low) (map f more) ∙ ap (λ xs. old ++ xs) (sym (map-append f low more)) ∙ ap (λ xs. old ++ map f xs) (sym (bits-next base rest i lt)) ∙ left.all;
      within = all-back (λ A. A < length rows) low more (subst (All (λ A. A < length rows)) (bits-next base rest i lt) left.within);
    }

pub left-last : (rows : List Row) (base rest i : ℕ) (numbers whole : List ℕ) → 64 ≤ i → Left rows base rest i numbers whole → numbers ≡ whole
unfolding bits
left-last rows base rest i numbers whole le left =
    let none : 64 - i ≡ 0 = omega (arith, le) in
    sym (append-nil numbers) ∙ ap (λ k. numbers ++ map (number_of rows) (bits k (base + i) rest)) (sym none) ∙ left.all

-- ---- a set's

pub no-members : (nodes : List Node) (rows : List Row) (height base set : ℕ) → IsStore nodes → set ≡ 0 → map (number_of rows) (members nodes height base set) ≡ []
no-members nodes rows height base set starts none = ap (map (number_of rows)) (ap (members nodes height base) none ∙ none-in nodes height base starts)

module _ (nodes : List Node) (height set : ℕ) (some : height ≡ 0 → ⊥) (is_set : IsSet nodes height set) where
  lower : IsSet nodes (suc (height - 1)) set
  lower = subst (λ k. IsSet nodes k set) (sym (above-zero height some)) is_set

  pub node-within : set < length nodes
  node-within = lower.0

  pub left-set : (n : Node) → n ≡ get_or nodes set n → IsSet nodes (height - 1) n.left
  left-set n read = subst (λ (x : Node). IsSet nodes (height - 1) x.left) (node-read nodes set n lower.0 read) lower.1

  pub right-set : (n : Node) → n ≡ get_or nodes set n → IsSet nodes (height - 1) n.right
  right-set n read = subst (λ (x : Node). IsSet nodes (height - 1) x.right) (node-read nodes set n lower.0 read) lower.2

  pub of-halves : (base half : ℕ) (n : Node) → half ≡ span (height - 1) → n ≡ get_or nodes set n → members nodes height base set ≡ members nodes (height - 1) base n.left ++ members nodes (height - 1) (base + half) n.right
  of-halves base half n power read =
      ap (λ k. members nodes k base set) (sym (above-zero height some))
      ∙ ap (λ (x : Node). members nodes (height - 1) base x.left ++ members nodes (height - 1) (base + span (height - 1)) x.right) (node-read nodes set n lower.0 read)
      ∙ ap (λ k. members nodes (height - 1) base n.left ++ members nodes (height - 1) (base + k) n.right) (sym power)
