-- The pieces of a file: read from its bytes, and put together.
use Rattle.std.proofs.Common.{◌≡◌, ◌≤◌, ◌<◌, ◌+◌, ◌*◌, ◌/◌, ◌%◌, ◌^◌, ℕ, zero, suc, List, [], ◌∷◌, ◌++◌, length, map, take, drop, get_or, drop-cons, replicate, refl, sym, ap, subst, ◌∙◌, arith, append_assoc, append-nil}
use Rattle.std.proofs.lemmas.List.{length-append, length-drop, length-replicate, drop-drop, drop_at, get_or-drop, take-append-drop}
use Rattle.std.proofs.Math.Nat.{pow-suc, div-one, div-div-eq-div-mul}
use Rattle.std.specs.Int.{byte_at as digit_at, bytes_low_first}
use Rattle.std.specs.List.{range_with_len}
use Rattle.byteorder.specs.Endian.{little_bytes, little_number}
use Rattle.byteorder.specs.Numbers.{little_from-cons, little_from-lt, little_number-reads_back, length-bytes_low_first}
use Rattle.mz_logic_theory.specs.declared.word.Word.{Word}
use Rattle.mz_layout_tables.specs.Numbers.{byte_at, number_at}
use Rattle.mz_layout_tables.specs.Tables.{words_at, word_at}
use Rattle.mz_layout_tables.specs.Normal.{Row, gap, words_bytes, row_bytes, row_block, blocks, record_bytes, table}
use Rattle.mz_layout_tables.specs.Standing.{Stands}
use Rattle.mz_asm.specs.NormalBytes.{AreBytes, IsPadded}

-- ---- pieces that stand one behind another

module _ (file : List ℕ) where
  pub stands-none : (at : ℕ) → at ≤ length file → Stands file at []
  stands-none at within = record { within = omega (arith, within); rest = drop at file; from_there = refl }

  pub stands-join : (at : ℕ) (a b : List ℕ) → Stands file at a → Stands file (at + length a) b → Stands file at (a ++ b)
  stands-join at a b s t =
      let behind : s.rest ≡ b ++ t.rest = sym (drop_at a s.rest (length a) refl) ∙ ap (λ (x : List ℕ). drop (length a) x) (sym s.from_there) ∙ drop-drop (length a) at file ∙ t.from_there in
      let long = length-append a b in
      let far = t.within in
      record {
        within = omega (arith, long, far);
        rest = t.rest;
        from_there = s.from_there ∙ ap (λ (x : List ℕ). a ++ x) behind ∙ sym (append_assoc a b t.rest);
      }

  -- the same bytes at the same place, under other names
  pub stands-same : (at to : ℕ) (a b : List ℕ) → at ≡ to → a ≡ b → Stands file at a → Stands file to b
  stands-same at to a b e f s = subst (λ k. Stands file k b) e (subst (λ x. Stands file at x) f s)

  nothing : (xs : List ℕ) → length xs ≡ 0 → xs ≡ []
  nothing [] e = refl
  nothing (x ∷ xs) e = absurd (omega (arith, e))

  pub stands-all : (a : List ℕ) → Stands file 0 a → length file ≡ length a → file ≡ a
  stands-all a s n =
      let whole : file ≡ a ++ s.rest = s.from_there in
      let many : length file ≡ length (a ++ s.rest) = ap length whole in
      let both = length-append a s.rest in
      whole ∙ ap (λ (x : List ℕ). a ++ x) (nothing s.rest (omega (arith, many, both, n))) ∙ append-nil a

  pub byte-there : (at : ℕ) → at < length file → Stands file at (byte_at file at ∷ [])
  byte-there at within = record { within = omega (arith, within); rest = drop (suc at) file; from_there = drop-cons file at 0 within }

  pub byte-read : (at x : ℕ) (xs : List ℕ) → Stands file at (x ∷ xs) → byte_at file at ≡ x
  byte-read at x xs s =
      let here : get_or (drop at file) 0 0 ≡ x = ap (λ (ys : List ℕ). get_or ys 0 0) s.from_there in
      ap (λ (k : ℕ). get_or file k 0) (let z : at ≡ at + 0 = omega arith in z) ∙ sym (get_or-drop at file 0 0) ∙ here

-- ---- numbers

pub digit-is : (x k : ℕ) → digit_at k x ≡ x / 256 ^ k % 256
digit-is x zero = ap (λ (y : ℕ). y % 256) (sym (div-one x))
digit-is x (suc k) = refl

-- the bytes of the number that bytes make are these bytes
bytes-again : (k j x : ℕ) (xs : List ℕ) → AreBytes xs → k ≤ length xs → x / 256 ^ j ≡ little_number k xs → bytes_low_first j k x ≡ take k xs
bytes-again zero j x xs fits long e = refl
bytes-again (suc k) j x [] fits long e = absurd (omega arith)
bytes-again (suc k) j x (a ∷ xs) fits long e =
    let rest-fits : AreBytes xs = λ i. fits (suc i) in
    let a-fits : a < 256 = fits 0 in
    let sum : x / 256 ^ j ≡ a + 256 * little_number k xs = e ∙ ap (λ (r : ℕ). a + 256 * r) (little_from-cons 0 k a xs) in
    let first : digit_at j x ≡ a = digit-is x j ∙ (omega arith) in
    let below : x / 256 ^ suc j ≡ little_number k xs = ap (λ (p : ℕ). x / p) (pow-suc 256 j) ∙ sym (div-div-eq-div-mul x (256 ^ j) 256) ∙ (omega arith) in
    rw (first, bytes-again k (suc j) x xs rest-fits (omega arith) below) refl

pub bytes-behind : (file : List ℕ) (at : ℕ) → AreBytes file → AreBytes (drop at file)
bytes-behind file at bytes = λ i. subst (λ (k : ℕ). k < 256) (sym (get_or-drop at file i 0)) (bytes (at + i))

pub number-there : (file : List ℕ) (n at : ℕ) → AreBytes file → at + n ≤ length file → Stands file at (little_bytes n (number_at n file at))
unfolding number_at
number-there file n at bytes within =
    let xs : List ℕ = drop at file in
    let many = length-drop at file in
    let long = length-bytes_low_first 0 n (little_number n (drop at file)) in
    let again : little_bytes n (little_number n (drop at file)) ≡ take n (drop at file) = bytes-again n 0 (little_number n (drop at file)) (drop at file) (bytes-behind file at bytes) (omega (arith, many, within)) (div-one (little_number n (drop at file))) in
    record {
      within = omega (arith, long, within);
      rest = drop n (drop at file);
      from_there = sym (take-append-drop n (drop at file)) ∙ ap (λ (x : List ℕ). x ++ drop n (drop at file)) (sym again);
    }

pub number-small : (file : List ℕ) (n at : ℕ) → AreBytes file → number_at n file at < 256 ^ n
unfolding number_at
number-small file n at bytes = little_from-lt 0 n (drop at file) (bytes-behind file at bytes)

pub number-read : (file : List ℕ) (n at x : ℕ) → x < 256 ^ n → Stands file at (little_bytes n x) → number_at n file at ≡ x
unfolding number_at
number-read file n at x small s = rw s.from_there (little_number-reads_back n x s.rest small)

-- ---- words

pub words-joined : (vs ws : List Word) → words_bytes (vs ++ ws) ≡ words_bytes vs ++ words_bytes ws
words-joined [] ws = refl
words-joined (v ∷ vs) ws = ap (λ (x : List ℕ). little_bytes 8 v.0 ++ x) (words-joined vs ws)

pub words-long : (ws : List Word) → 8 * length ws ≡ length (words_bytes ws)
words-long [] = refl
words-long (w ∷ ws) = let rest = words-long ws in let long = length-append (little_bytes 8 w.0) (words_bytes ws) in omega (arith, rest, long)

-- the n words from the k-th of a row on
pub words-there : (file : List ℕ) (at k n : ℕ) → AreBytes file → words_at file at + 8 * (k + n) ≤ length file → Stands file (words_at file at + 8 * k) (words_bytes (map (word_at file at) (range_with_len k n)))
words-there file at k zero bytes within = stands-none file (words_at file at + 8 * k) (omega (arith, within))
words-there file at k (suc n) bytes within =
    let here : ℕ = words_at file at + 8 * k in
    let rest : List ℕ = words_bytes (map (word_at file at) (range_with_len (k + 1) n)) in
    stands-join file here (little_bytes 8 (number_at 8 file here)) rest
    (number-there file 8 here bytes (omega (arith, within)))
    (stands-same file (words_at file at + 8 * (k + 1)) (here + 8) rest rest (omega arith) refl (words-there file at (k + 1) n bytes (omega (arith, within))))

-- ---- blocks

pub gap-on : (place n : ℕ) → place % 8 ≡ 0 → gap (place + n) ≡ gap n
gap-on place n e = omega (arith, e)

pub gap-ends : (n : ℕ) → (n + gap n) % 8 ≡ 0
gap-ends n = omega arith

-- a row's words and stream stand at a multiple of 8, and zeros behind them up to the next
pub block-there : (file : List ℕ) (place next : ℕ) (r : Row) → Stands file place (row_bytes r) → place % 8 ≡ 0 → IsPadded file (place + length (row_bytes r)) next →
    Stands file place (row_block r) × (next ≡ place + length (row_block r)) × (next % 8 ≡ 0)
block-there file place next r s e (is, zeros) =
    let n : ℕ = length (row_bytes r) in
    let same : gap (place + n) ≡ gap n = gap-on place n e in
    let long = length-append (row_bytes r) (replicate (gap n) 0) in
    let many = length-replicate {A = ℕ} (gap n) 0 in
    let ends = gap-ends (place + n) in (
      stands-join file place (row_bytes r) (replicate (gap n) 0) s (stands-same file (place + n) (place + n) (replicate (gap (place + n)) 0) (replicate (gap n) 0) refl (ap (λ (g : ℕ). replicate g 0) same) zeros),
      omega (arith, is, same, long, many),
      is-eighth is ends,
    )
  where
    is-eighth : {a b : ℕ} → a ≡ b → b % 8 ≡ 0 → a % 8 ≡ 0
    is-eighth f g = ap (λ (k : ℕ). k % 8) f ∙ g

-- ---- tables

-- rows and their records, put together
pub rows-joined : (at : ℕ) (rs qs : List Row) → (blocks (rs ++ qs) ≡ blocks rs ++ blocks qs) × (table at (rs ++ qs) ≡ table at rs ++ table (at + length (blocks rs)) qs)
rows-joined at [] qs = (refl, ap (λ (k : ℕ). table k qs) (let e : at ≡ at + 0 = omega arith in e))
rows-joined at (r ∷ rs) qs =
    let next : ℕ = at + length (row_block r) in
    let rest = rows-joined next rs qs in
    let long = length-append (row_block r) (blocks rs) in
    let place : next + length (blocks rs) ≡ at + length (row_block r ++ blocks rs) = omega (arith, long) in (
      ap (λ (x : List ℕ). row_block r ++ x) rest.0 ∙ sym (append_assoc (row_block r) (blocks rs) (blocks qs)),
      ap (λ (x : List ℕ). record_bytes at r ++ x) (rest.1 ∙ ap (λ (k : ℕ). table next rs ++ table k qs) place)
          ∙ sym (append_assoc (record_bytes at r) (table next rs) (table (at + length (row_block r ++ blocks rs)) qs)),
    )

pub table-long : (at : ℕ) (rs : List Row) → 8 * length rs ≡ length (table at rs)
table-long at [] = refl
table-long at (r ∷ rs) = let rest = table-long (at + length (row_block r)) rs in let long = length-append (record_bytes at r) (table (at + length (row_block r)) rs) in omega (arith, rest, long)

-- rows of a table stand from a place on, up to another, and their records from theirs on
pub record RowsStand (file : List ℕ) (records start : ℕ) (rs : List Row) (next : ℕ) : Type 0 where
  pub recorded : Stands file records (table start rs)
  pub blocked : Stands file start (blocks rs)
  pub next_is : next ≡ start + length (blocks rs)
  pub eighth : next % 8 ≡ 0

pub no-rows : (file : List ℕ) (records start : ℕ) → records ≤ length file → start ≤ length file → start % 8 ≡ 0 → RowsStand file records start [] start
no-rows file records start a b e = record { recorded = stands-none file records a; blocked = stands-none file start b; next_is = omega arith; eighth = e }

-- a row more
pub rows-more : (file : List ℕ) (records start next after : ℕ) (rs : List Row) (r : Row) → RowsStand file records start rs next → Stands file (records + 8 * length rs) (record_bytes next r) →
    Stands file next (row_block r) × (after ≡ next + length (row_block r)) × (after % 8 ≡ 0) → RowsStand file records start (rs ++ (r ∷ [])) after
rows-more file records start next after rs r s rec (block, is, even) =
    let joined = rows-joined start rs (r ∷ []) in
    let long = table-long start rs in
    let n = s.next_is in
    let one : blocks (r ∷ []) ≡ row_block r = append-nil (row_block r) in
    let last : record_bytes next r ≡ table (start + length (blocks rs)) (r ∷ []) = ap (λ (k : ℕ). record_bytes k r) n in
    let more : length (blocks (rs ++ (r ∷ []))) ≡ length (blocks rs) + length (blocks (r ∷ [])) = ap length joined.0 ∙ length-append (blocks rs) (blocks (r ∷ [])) in
    let many : length (blocks (r ∷ [])) ≡ length (row_block r) = ap length one in
    record {
      recorded =
          stands-same file records records _ _ refl (sym joined.1)
          (stands-join file records (table start rs) (table (start + length (blocks rs)) (r ∷ [])) s.recorded
          (stands-same file (records + 8 * length rs) (records + length (table start rs)) (record_bytes next r) (table (start + length (blocks rs)) (r ∷ [])) (omega (arith, long)) last rec));
      blocked =
          stands-same file start start _ _ refl (sym joined.0)
          (stands-join file start (blocks rs) (blocks (r ∷ [])) s.blocked (stands-same file next (start + length (blocks rs)) (row_block r) (blocks (r ∷ [])) n (sym one) block));
      next_is = omega (arith, n, more, many, is);
      eighth = even;
    }
