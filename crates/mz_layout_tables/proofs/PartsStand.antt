-- Where the parts of a file in the normal layout stand.
use Rattle.std.proofs.Common.{◌≡◌, ◌<◌, ◌+◌, ◌*◌, ◌^◌, ℕ, List, [], ◌∷◌, ◌++◌, length, take, replicate, refl, ap, subst, ◌∙◌, arith}
use Rattle.std.specs.Prelude.{codes}
use Rattle.std.proofs.lemmas.List.{length-append, length-replicate}
use Rattle.byteorder.specs.Endian.{little_bytes}
use Rattle.mz_layout_tables.specs.declared.header.Header.{Header}
use Rattle.mz_layout_tables.specs.Numbers.{byte_at}
use Rattle.mz_layout_tables.specs.Tables.{sort_count, term_count, thm_count, terms_at, thms_at, list_at}
use Rattle.mz_layout_tables.specs.Normal.{Row, Parts, gap, padded, row_block, blocks, record_bytes, table, list_bytes, header_bytes, header_of, rows, terms_place, thms_place, rows_place, list_place, file_length, file_of}
use Rattle.mz_layout_tables.specs.Standing.{Stands}
use Rattle.mz_layout_tables.proofs.FileParts.{length-header}
use Rattle.mz_layout_tables.proofs.StandingLaws.{stands-whole, stands-first, stands-second, stands-at, stands-byte, stands-number}

abbrev front : Parts → List ℕ
front p = header_bytes (header_of p) ++ p.sorts

length-front : (p : Parts) → length (padded (front p)) ≡ terms_place p
length-front p =
    let n : length (front p) ≡ 40 + length p.sorts = omega (arith, length-append (header_bytes (header_of p)) p.sorts, length-header (header_of p)) in
    let m : length (padded (front p)) ≡ length (front p) + gap (length (front p)) = omega (arith, length-append (front p) (replicate (gap (length (front p))) 0), length-replicate {A = ℕ} (gap (length (front p))) 0) in
    m ∙ ap (λ (k : ℕ). k + gap k) n

length-table : (at : ℕ) (rs : List Row) → length (table at rs) ≡ 8 * length rs
length-table at [] = refl
length-table at (r ∷ rs) = omega (arith, length-append (record_bytes at r) (table (at + length (row_block r)) rs), length-table (at + length (row_block r)) rs)

pub file-length : (p : Parts) → length (file_of p) ≡ file_length p
unfolding file_of
file-length p =
    omega (
      arith,
      length-front p,
      length-table (rows_place p) (rows p),
      length-append p.terms p.thms,
      length-append (padded (front p)) (table (rows_place p) (rows p) ++ (blocks (rows p) ++ list_bytes p.statements)),
      length-append (table (rows_place p) (rows p)) (blocks (rows p) ++ list_bytes p.statements),
      length-append (blocks (rows p)) (list_bytes p.statements),
    )

after-front : (p : Parts) → Stands (file_of p) (terms_place p) (table (rows_place p) (rows p) ++ (blocks (rows p) ++ list_bytes p.statements))
unfolding file_of
after-front p =
    stands-at (file_of p) (0 + length (padded (front p))) (terms_place p) _ (omega (arith, length-front p))
    (stands-second (file_of p) 0 (padded (front p)) (table (rows_place p) (rows p) ++ (blocks (rows p) ++ list_bytes p.statements)) (stands-whole (file_of p)))

pub tables-stand : (p : Parts) → Stands (file_of p) (terms_place p) (table (rows_place p) (rows p))
tables-stand p = stands-first (file_of p) (terms_place p) (table (rows_place p) (rows p)) (blocks (rows p) ++ list_bytes p.statements) (after-front p)

after-tables : (p : Parts) → Stands (file_of p) (rows_place p) (blocks (rows p) ++ list_bytes p.statements)
after-tables p =
    stands-at (file_of p) (terms_place p + length (table (rows_place p) (rows p))) (rows_place p) _ (omega (arith, length-table (rows_place p) (rows p), length-append p.terms p.thms))
    (stands-second (file_of p) (terms_place p) (table (rows_place p) (rows p)) (blocks (rows p) ++ list_bytes p.statements) (after-front p))

pub blocks-stand : (p : Parts) → Stands (file_of p) (rows_place p) (blocks (rows p))
blocks-stand p = stands-first (file_of p) (rows_place p) (blocks (rows p)) (list_bytes p.statements) (after-tables p)

pub list-stands : (p : Parts) → Stands (file_of p) (list_place p) (list_bytes p.statements)
list-stands p = stands-second (file_of p) (rows_place p) (blocks (rows p)) (list_bytes p.statements) (after-tables p)

-- ---- the header

front-stands : (p : Parts) → Stands (file_of p) 0 (front p)
unfolding file_of
front-stands p =
    stands-first (file_of p) 0 (front p) (replicate (gap (length (front p))) 0)
    (stands-first (file_of p) 0 (padded (front p)) (table (rows_place p) (rows p) ++ (blocks (rows p) ++ list_bytes p.statements)) (stands-whole (file_of p)))

pub header-stands : (p : Parts) → Stands (file_of p) 0 (header_bytes (header_of p))
header-stands p = stands-first (file_of p) 0 (header_bytes (header_of p)) p.sorts (front-stands p)

pub sorts-stand : (p : Parts) → Stands (file_of p) 40 p.sorts
sorts-stand p =
    stands-at (file_of p) (0 + length (header_bytes (header_of p))) 40 _ (omega (arith, length-header (header_of p)))
    (stands-second (file_of p) 0 (header_bytes (header_of p)) p.sorts (front-stands p))

abbrev eight : Header → List ℕ
eight h = 0x4D ∷ 0x4D ∷ 0x30 ∷ 0x42 ∷ 1 ∷ h.sorts ∷ 0 ∷ 0 ∷ []

abbrev from28 : Header → List ℕ
from28 h = replicate 12 0

abbrev from24 : Header → List ℕ
from24 h = little_bytes 4 h.list_at ++ from28 h

abbrev from20 : Header → List ℕ
from20 h = little_bytes 4 h.thms_at ++ from24 h

abbrev from16 : Header → List ℕ
from16 h = little_bytes 4 h.terms_at ++ from20 h

abbrev from12 : Header → List ℕ
from12 h = little_bytes 4 h.thms ++ from16 h

abbrev from8 : Header → List ℕ
from8 h = little_bytes 4 h.terms ++ from12 h

header-parts : (h : Header) → header_bytes h ≡ eight h ++ from8 h
unfolding header_bytes
header-parts h = refl

-- what the header says of itself stands in it
pub record SaysHeader (file : List ℕ) (h : Header) : Type 0 where
  pub sorts : sort_count file ≡ h.sorts
  pub terms : h.terms < 2 ^ 32 → term_count file ≡ h.terms
  pub thms : h.thms < 2 ^ 32 → thm_count file ≡ h.thms
  pub terms_at : h.terms_at < 2 ^ 32 → terms_at file ≡ h.terms_at
  pub thms_at : h.thms_at < 2 ^ 32 → thms_at file ≡ h.thms_at
  pub list_at : h.list_at < 2 ^ 32 → list_at file ≡ h.list_at

says-header : (file : List ℕ) (h : Header) → Stands file 0 (eight h ++ from8 h) → SaysHeader file h
says-header file h s =
    let s5 = stands-second file 0 (0x4D ∷ 0x4D ∷ 0x30 ∷ 0x42 ∷ 1 ∷ []) (h.sorts ∷ 0 ∷ 0 ∷ from8 h) s in
    let s8 = stands-second file 0 (eight h) (from8 h) s in
    let s12 = stands-second file 8 (little_bytes 4 h.terms) (from12 h) s8 in
    let s16 = stands-second file 12 (little_bytes 4 h.thms) (from16 h) s12 in
    let s20 = stands-second file 16 (little_bytes 4 h.terms_at) (from20 h) s16 in
    let s24 = stands-second file 20 (little_bytes 4 h.thms_at) (from24 h) s20 in
    record {
      sorts = stands-byte file 5 h.sorts (0 ∷ 0 ∷ from8 h) s5;
      terms = λ l. stands-number 4 file 8 h.terms (omega arith) (stands-first file 8 (little_bytes 4 h.terms) (from12 h) s8);
      thms = λ l. stands-number 4 file 12 h.thms (omega arith) (stands-first file 12 (little_bytes 4 h.thms) (from16 h) s12);
      terms_at = λ l. stands-number 4 file 16 h.terms_at (omega arith) (stands-first file 16 (little_bytes 4 h.terms_at) (from20 h) s16);
      thms_at = λ l. stands-number 4 file 20 h.thms_at (omega arith) (stands-first file 20 (little_bytes 4 h.thms_at) (from24 h) s20);
      list_at = λ l. stands-number 4 file 24 h.list_at (omega arith) (stands-first file 24 (little_bytes 4 h.list_at) (from28 h) s24);
    }

-- the numbers of a file's header
pub record SaysCounts (file : List ℕ) (p : Parts) : Type 0 where
  pub sorts : sort_count file ≡ length p.sorts
  pub terms : term_count file ≡ length p.terms
  pub thms : thm_count file ≡ length p.thms
  pub terms_at : terms_at file ≡ terms_place p
  pub thms_at : thms_at file ≡ thms_place p
  pub list_at : list_at file ≡ list_place p

pub counts-said : (p : Parts) → file_length p < 2 ^ 32 → SaysCounts (file_of p) p
counts-said p short =
    let h = says-header (file_of p) (header_of p) (subst (λ x. Stands (file_of p) 0 x) (header-parts (header_of p)) (header-stands p)) in
    record {
      sorts = h.sorts;
      terms = h.terms (omega arith);
      thms = h.thms (omega arith);
      terms_at = h.terms_at (omega arith);
      thms_at = h.thms_at (omega arith);
      list_at = h.list_at (omega arith);
    }

pub says-magic : (file : List ℕ) (h : Header) → Stands file 0 (header_bytes h) → (take 4 file ≡ codes "MM0B") × (byte_at file 4 ≡ 1)
says-magic file h s =
    let t : Stands file 0 (eight h ++ from8 h) = subst (λ x. Stands file 0 x) (header-parts h) s in
    (ap (λ (x : List ℕ). take 4 x) t.from_there, stands-byte file 4 1 (h.sorts ∷ 0 ∷ 0 ∷ from8 h) (stands-second file 0 (0x4D ∷ 0x4D ∷ 0x30 ∷ 0x42 ∷ []) (1 ∷ h.sorts ∷ 0 ∷ 0 ∷ from8 h) t))
