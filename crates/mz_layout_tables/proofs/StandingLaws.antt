-- What stands in a file, taken apart.
use Rattle.std.proofs.Common.{◌≡◌, ◌<◌, ◌+◌, ◌*◌, ◌^◌, ℕ, zero, suc, List, [], ◌∷◌, ◌++◌, length, take, drop, get_or, slice_get, Some, None, refl, sym, ap, subst, ◌∙◌, arith, append_assoc}
use Rattle.std.proofs.lemmas.List.{length-append, append-nil, drop-drop, drop_at, take_at, get_or-drop}
use Rattle.byteorder.specs.Endian.{little_bytes}
use Rattle.byteorder.specs.Numbers.{little_number-reads_back}
use Rattle.mz_logic_theory.specs.declared.word.Word.{Word}
use Rattle.mz_layout_tables.specs.Numbers.{byte_at, number_at}
use Rattle.mz_layout_tables.specs.Normal.{Row, row_block, blocks, record_bytes, table, words_bytes}
use Rattle.mz_layout_tables.specs.Standing.{Stands, block_place}

pub stands-whole : (file : List ℕ) → Stands file 0 file
stands-whole file = record { within = omega arith; rest = []; from_there = sym (append-nil file) }

pub stands-first : (file : List ℕ) (at : ℕ) (a b : List ℕ) → Stands file at (a ++ b) → Stands file at a
stands-first file at a b s = record { within = omega (arith, length-append a b, s.within); rest = b ++ s.rest; from_there = s.from_there ∙ append_assoc a b s.rest }

pub stands-second : (file : List ℕ) (at : ℕ) (a b : List ℕ) → Stands file at (a ++ b) → Stands file (at + length a) b
stands-second file at a b s = record {
  within = omega (arith, length-append a b, s.within);
  rest = s.rest;
  from_there = sym (drop-drop (length a) at file) ∙ ap (λ (x : List ℕ). drop (length a) x) (s.from_there ∙ append_assoc a b s.rest) ∙ drop_at a (b ++ s.rest) (length a) refl;
}

pub stands-at : (file : List ℕ) (at at' : ℕ) (a : List ℕ) → at ≡ at' → Stands file at a → Stands file at' a
stands-at file at at' a e s = subst (λ k. Stands file k a) e s

pub stands-is : (file : List ℕ) (at : ℕ) (a b : List ℕ) → a ≡ b → Stands file at a → Stands file at b
stands-is file at a b e s = subst (λ x. Stands file at x) e s

pub stands-bytes : (file : List ℕ) (at : ℕ) (bytes : List ℕ) → Stands file at bytes → take (length bytes) (drop at file) ≡ bytes
stands-bytes file at bytes s = ap (λ (x : List ℕ). take (length bytes) x) s.from_there ∙ take_at bytes s.rest (length bytes) refl

pub stands-byte : (file : List ℕ) (at x : ℕ) (xs : List ℕ) → Stands file at (x ∷ xs) → byte_at file at ≡ x
stands-byte file at x xs s =
    let e : get_or (drop at file) 0 0 ≡ x = rw s.from_there refl in
    let g : get_or file (at + 0) 0 ≡ get_or (drop at file) 0 0 = sym (get_or-drop at file 0 0) in
    ap (λ (k : ℕ). get_or file k 0) (let z : at ≡ at + 0 = omega arith in z) ∙ g ∙ e

pub stands-number : (n : ℕ) (file : List ℕ) (at x : ℕ) → x < 256 ^ n → Stands file at (little_bytes n x) → number_at n file at ≡ x
unfolding number_at
stands-number n file at x h s = rw s.from_there (little_number-reads_back n x s.rest h)

-- ---- rows

pub length-record : (at : ℕ) (r : Row) → length (record_bytes at r) ≡ 8
length-record at r = refl

pub stands-record : (file : List ℕ) (from at : ℕ) (rs : List Row) (i : ℕ) (r : Row) → Stands file from (table at rs) → slice_get rs i ≡ Some r → Stands file (from + 8 * i) (record_bytes (block_place at rs i) r)
stands-record file from at [] i r s e = absurd (let no : None ≡ Some r = e in cc)
stands-record file from at (q ∷ rs) zero r s e =
    let here = stands-first file from (record_bytes at q) (table (at + length (row_block q)) rs) s in
    let same : q ≡ r = (let f : Some q ≡ Some r = e in cc) in
    subst (λ x. Stands file (from + 8 * 0) (record_bytes (at + 0) x)) same (stands-at file from (from + 8 * 0) (record_bytes (at + 0) q) (omega arith) (stands-is file from (record_bytes at q) (record_bytes (at + 0) q) (ap (λ (k : ℕ). record_bytes k q) (let z : at ≡ at + 0 = omega arith in z)) here))
stands-record file from at (q ∷ rs) (suc i) r s e =
    let there = stands-second file from (record_bytes at q) (table (at + length (row_block q)) rs) s in
    let rest = stands-record file (from + 8) (at + length (row_block q)) rs i r there e in
    let place : block_place (at + length (row_block q)) rs i ≡ block_place at (q ∷ rs) (suc i) = omega (arith, length-append (row_block q) (blocks (take i rs))) in
    stands-at file ((from + 8) + 8 * i) (from + 8 * suc i) (record_bytes (block_place at (q ∷ rs) (suc i)) r) (omega arith)
    (stands-is file ((from + 8) + 8 * i) _ _ (ap (λ (k : ℕ). record_bytes k r) place) rest)

pub stands-block : (file : List ℕ) (at : ℕ) (rs : List Row) (i : ℕ) (r : Row) → Stands file at (blocks rs) → slice_get rs i ≡ Some r → Stands file (block_place at rs i) (row_block r)
stands-block file at [] i r s e = absurd (let no : None ≡ Some r = e in cc)
stands-block file at (q ∷ rs) zero r s e =
    let here = stands-first file at (row_block q) (blocks rs) s in
    let same : q ≡ r = (let f : Some q ≡ Some r = e in cc) in
    subst (λ x. Stands file (at + 0) (row_block x)) same (stands-at file at (at + 0) (row_block q) (omega arith) here)
stands-block file at (q ∷ rs) (suc i) r s e =
    let there = stands-second file at (row_block q) (blocks rs) s in
    let rest = stands-block file (at + length (row_block q)) rs i r there e in
    stands-at file (block_place (at + length (row_block q)) rs i) (block_place at (q ∷ rs) (suc i)) (row_block r) (omega (arith, length-append (row_block q) (blocks (take i rs)))) rest

-- ---- words

pub stands-word : (file : List ℕ) (at : ℕ) (ws : List Word) (j : ℕ) (w : Word) → Stands file at (words_bytes ws) → slice_get ws j ≡ Some w → Stands file (at + 8 * j) (little_bytes 8 w.0)
stands-word file at [] j w s e = absurd (let no : None ≡ Some w = e in cc)
stands-word file at (v ∷ ws) zero w s e =
    let here = stands-first file at (little_bytes 8 v.0) (words_bytes ws) s in
    let same : v ≡ w = (let f : Some v ≡ Some w = e in cc) in
    subst (λ x. Stands file (at + 8 * 0) (little_bytes 8 x.0)) same (stands-at file at (at + 8 * 0) (little_bytes 8 v.0) (omega arith) here)
stands-word file at (v ∷ ws) (suc j) w s e =
    let there = stands-second file at (little_bytes 8 v.0) (words_bytes ws) s in
    let rest = stands-word file (at + 8) ws j w there e in
    stands-at file ((at + 8) + 8 * j) (at + 8 * suc j) (little_bytes 8 w.0) (omega arith) rest
