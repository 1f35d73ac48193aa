-- A binary of statements is normal by its bytes.
use Rattle.std.proofs.Common.{◌≡◌, ◌+◌, ◌*◌, ◌%◌, ℕ, suc, Bool, false, cond, ltb, List, [], ◌∷◌, ◌++◌, length, replicate, refl, sym, ap, subst, ◌∙◌, arith, append_assoc, append-nil}
use Rattle.std.proofs.lemmas.List.{length-append, length-replicate}
use Rattle.std.proofs.lemmas.Bool.{le-ltb}
use Rattle.byteorder.specs.Endian.{little_bytes}
use Rattle.mz_logic_theory.specs.declared.word.Word.{Word}
use Rattle.mz_logic_theory.specs.Words.{word_sort}
use Rattle.mz_layout_tables.specs.Numbers.{number_at}
use Rattle.mz_layout_tables.specs.Tables.{term_count, thm_count, terms_at, list_at, term_record, thm_record, words_at, term_row as term_row_of, thm_row as thm_row_of}
use Rattle.mz_layout_tables.specs.declared.header.Header.{Header}
use Rattle.mz_layout_tables.specs.Normal.{Row, Parts, row_of_thm, gap, padded, row_bytes, row_block, words_bytes, blocks, record_bytes, table, list_bytes, header_bytes, header_of, rows, terms_place, rows_place, list_place, file_of}
use Rattle.mz_layout_tables.specs.Standing.{Stands, Fit}
use Rattle.mz_layout_tables.proofs.Offered.{counts-said, file-length, stands-first, stands-second, stands-is}
use Rattle.mz_asm.specs.NormalBytes.{row_place, IsPlainTerm, IsPlainThm, RowEnds}
use Rattle.mz_asm.proofs.Shown.{below}
use Rattle.mz_asm.proofs.Pieces.{stands-same, byte-read, number-read, words-long, gap-on, gap-ends, rows-joined, table-long}
use Rattle.mz_asm.proofs.FromBytes.{a_row, place-of}
use Rattle.mz_asm.proofs.WholeFile.{header-long, padded-long}

-- ---- where the parts stand

whole-there : (p : Parts) → Stands (file_of p) 0 (padded (header_bytes (header_of p) ++ p.sorts) ++ (table (rows_place p) (rows p) ++ (blocks (rows p) ++ list_bytes p.statements)))
unfolding file_of
whole-there p = record { within = omega arith; rest = []; from_there = sym (append-nil (padded (header_bytes (header_of p) ++ p.sorts) ++ (table (rows_place p) (rows p) ++ (blocks (rows p) ++ list_bytes p.statements)))) }

-- what isn't looked at in a header
pub reserved-there : (file : List ℕ) (h : Header) → Stands file 0 (header_bytes h) → (number_at 2 file 6 ≡ 0) × (number_at 4 file 28 ≡ 0) × (number_at 8 file 32 ≡ 0)
unfolding header_bytes
reserved-there file h s =
    let from24 : List ℕ = little_bytes 4 h.list_at ++ replicate 12 0 in
    let from20 : List ℕ = little_bytes 4 h.thms_at ++ from24 in
    let from16 : List ℕ = little_bytes 4 h.terms_at ++ from20 in
    let from12 : List ℕ = little_bytes 4 h.thms ++ from16 in
    let from8 : List ℕ = little_bytes 4 h.terms ++ from12 in
    let s6 = stands-second file 0 (0x4D ∷ 0x4D ∷ 0x30 ∷ 0x42 ∷ 1 ∷ h.sorts ∷ []) (0 ∷ 0 ∷ from8) s in
    let s8 = stands-second file 6 (0 ∷ 0 ∷ []) from8 s6 in
    let s12 = stands-second file 8 (little_bytes 4 h.terms) from12 s8 in
    let s16 = stands-second file 12 (little_bytes 4 h.thms) from16 s12 in
    let s20 = stands-second file 16 (little_bytes 4 h.terms_at) from20 s16 in
    let s24 = stands-second file 20 (little_bytes 4 h.thms_at) from24 s20 in
    let s28 = stands-second file 24 (little_bytes 4 h.list_at) (replicate 12 0) s24 in (
      number-read file 2 6 0 (omega arith) (stands-first file 6 (0 ∷ 0 ∷ []) from8 s6),
      number-read file 4 28 0 (omega arith) (stands-first file 28 (replicate 4 0) (replicate 8 0) s28),
      number-read file 8 32 0 (omega arith) (stands-second file 28 (replicate 4 0) (replicate 8 0) s28),
    )

blocks-even : (rs : List Row) → length (blocks rs) % 8 ≡ 0
blocks-even [] = refl
blocks-even (r ∷ rs) =
    let n : ℕ = length (row_bytes r) in
    let rest = blocks-even rs in
    let long = length-append (row_block r) (blocks rs) in
    let one = length-append (row_bytes r) (replicate (gap n) 0) in
    let many = length-replicate {A = ℕ} (gap n) 0 in
    let ends = gap-ends n in
    omega (arith, rest, long, one, many, ends)

-- the k-th row's record stands in its place, and zeros behind the row
pub record IsRowThere (file : List ℕ) (k : ℕ) (r : Row) : Type 0 where
  pub recorded : Stands file (terms_at file + 8 * k) (record_bytes (row_place file k) r)
  pub pads : RowEnds file k (row_place file k + length (row_bytes r))

module _ (p : Parts) (fit : Fit p) where
  pub front-there : Stands (file_of p) 0 (header_bytes (header_of p) ++ p.sorts)
  front-there =
      let front : List ℕ = header_bytes (header_of p) ++ p.sorts in
      stands-first (file_of p) 0 front (replicate (gap (length front)) 0) (stands-first (file_of p) 0 (padded front) (table (rows_place p) (rows p) ++ (blocks (rows p) ++ list_bytes p.statements)) (whole-there p))

  pub sorts-there : Stands (file_of p) 40 p.sorts
  sorts-there = let long = header-long (header_of p) in stands-same (file_of p) (0 + length (header_bytes (header_of p))) 40 p.sorts p.sorts (omega (arith, long)) refl (stands-second (file_of p) 0 (header_bytes (header_of p)) p.sorts front-there)

  pub zeros-there : Stands (file_of p) (40 + length p.sorts) (replicate (gap (40 + length p.sorts)) 0)
  zeros-there =
      let front : List ℕ = header_bytes (header_of p) ++ p.sorts in
      let long = header-long (header_of p) in
      let many = length-append (header_bytes (header_of p)) p.sorts in
      let is : length front ≡ 40 + length p.sorts = omega (arith, long, many) in
      stands-same (file_of p) (0 + length front) (40 + length p.sorts) (replicate (gap (length front)) 0) (replicate (gap (40 + length p.sorts)) 0) (omega (arith, is)) (ap (λ (k : ℕ). replicate (gap k) 0) is)
      (stands-second (file_of p) 0 front (replicate (gap (length front)) 0) (stands-first (file_of p) 0 (padded front) (table (rows_place p) (rows p) ++ (blocks (rows p) ++ list_bytes p.statements)) (whole-there p)))

  behind-front : Stands (file_of p) (terms_place p) (table (rows_place p) (rows p) ++ (blocks (rows p) ++ list_bytes p.statements))
  behind-front = stands-same (file_of p) (0 + length (padded (header_bytes (header_of p) ++ p.sorts))) (terms_place p) _ _ (omega (arith, padded-long p)) refl (stands-second (file_of p) 0 (padded (header_bytes (header_of p) ++ p.sorts)) (table (rows_place p) (rows p) ++ (blocks (rows p) ++ list_bytes p.statements)) (whole-there p))

  tables-there : Stands (file_of p) (terms_place p) (table (rows_place p) (rows p))
  tables-there = stands-first (file_of p) (terms_place p) (table (rows_place p) (rows p)) (blocks (rows p) ++ list_bytes p.statements) behind-front

  behind-tables : Stands (file_of p) (rows_place p) (blocks (rows p) ++ list_bytes p.statements)
  behind-tables =
      let long = table-long (rows_place p) (rows p) in
      let many = length-append p.terms p.thms in
      stands-same (file_of p) (terms_place p + length (table (rows_place p) (rows p))) (rows_place p) _ _ (omega (arith, long, many)) refl (stands-second (file_of p) (terms_place p) (table (rows_place p) (rows p)) (blocks (rows p) ++ list_bytes p.statements) behind-front)

  blocks-there : Stands (file_of p) (rows_place p) (blocks (rows p))
  blocks-there = stands-first (file_of p) (rows_place p) (blocks (rows p)) (list_bytes p.statements) behind-tables

  pub list-there : Stands (file_of p) (list_place p) (list_bytes p.statements)
  list-there = stands-second (file_of p) (rows_place p) (blocks (rows p)) (list_bytes p.statements) behind-tables

  -- ---- rows

  record-there : (fs : List Row) (r : Row) (rest : List Row) → rows p ≡ fs ++ (r ∷ rest) → Stands (file_of p) (terms_at (file_of p) + 8 * length fs) (record_bytes (rows_place p + length (blocks fs)) r)
  record-there fs r rest e =
      let place : ℕ = rows_place p + length (blocks fs) in
      let joined = rows-joined (rows_place p) fs (r ∷ rest) in
      let all : Stands (file_of p) (terms_place p) (table (rows_place p) fs ++ table place (r ∷ rest)) = stands-is (file_of p) (terms_place p) _ _ (ap (λ (rs : List Row). table (rows_place p) rs) e ∙ joined.1) tables-there in
      let here = stands-first (file_of p) (terms_place p + length (table (rows_place p) fs)) (record_bytes place r) (table (place + length (row_block r)) rest) (stands-second (file_of p) (terms_place p) (table (rows_place p) fs) (table place (r ∷ rest)) all) in
      let long = table-long (rows_place p) fs in
      let at = (counts-said p fit.short).terms_at in
      stands-same (file_of p) (terms_place p + length (table (rows_place p) fs)) (terms_at (file_of p) + 8 * length fs) (record_bytes place r) (record_bytes place r) (omega (arith, long, at)) refl here

  block-there : (fs : List Row) (r : Row) (rest : List Row) → rows p ≡ fs ++ (r ∷ rest) → Stands (file_of p) (rows_place p + length (blocks fs)) (row_block r)
  block-there fs r rest e =
      let joined = rows-joined (rows_place p) fs (r ∷ rest) in
      let all : Stands (file_of p) (rows_place p) (blocks fs ++ blocks (r ∷ rest)) = stands-is (file_of p) (rows_place p) _ _ (ap (λ (rs : List Row). blocks rs) e ∙ joined.0) blocks-there in
      stands-first (file_of p) (rows_place p + length (blocks fs)) (row_block r) (blocks rest) (stands-second (file_of p) (rows_place p) (blocks fs) (blocks (r ∷ rest)) all)

  pub row-place-is : (fs rest : List Row) → rows p ≡ fs ++ rest → row_place (file_of p) (length fs) ≡ rows_place p + length (blocks fs)
  row-place-is fs [] e =
      let said = counts-said p fit.short in
      let all : rows p ≡ fs = e ∙ append-nil fs in
      let n : length fs ≡ length p.terms + length p.thms = ap length (sym all) ∙ length-append p.terms p.thms in
      let terms = said.terms in
      let thms = said.thms in
      let none : ltb (length fs) (term_count (file_of p) + thm_count (file_of p)) ≡ false = le-ltb _ _ (omega (arith, n, terms, thms)) in
      ap (λ (b : Bool). cond b (words_at (file_of p) (terms_at (file_of p) + 8 * length fs)) (list_at (file_of p))) none ∙ said.list_at ∙ ap (λ (rs : List Row). rows_place p + length (blocks rs)) all
  row-place-is fs (r ∷ rest) e =
      let said = counts-said p fit.short in
      let rec : ℕ = terms_at (file_of p) + 8 * length fs in
      let place : ℕ = rows_place p + length (blocks fs) in
      let n : length p.terms + length p.thms ≡ length fs + suc (length rest) = sym (length-append p.terms p.thms) ∙ ap length e ∙ length-append fs (r ∷ rest) in
      let terms = said.terms in
      let thms = said.thms in
      let far = (block-there fs r rest e).within in
      let long = file-length p in
      let few = fit.short in
      let last : Stands (file_of p) (rec + 4) (little_bytes 4 place) = stands-second (file_of p) rec (little_bytes 2 r.params ++ (r.mark ∷ 0 ∷ [])) (little_bytes 4 place) (record-there fs r rest e) in
      sym (place-of (file_of p) (length fs) (omega (arith, n, terms, thms))) ∙ number-read (file_of p) 4 (rec + 4) place (omega (arith, far, long, few)) last

  row-is : (fs : List Row) (r : Row) (rest : List Row) → rows p ≡ fs ++ (r ∷ rest) → IsRowThere (file_of p) (length fs) r
  row-is fs r rest e =
      let n : ℕ = length (row_bytes r) in
      let here = row-place-is fs (r ∷ rest) e in
      let next = row-place-is (fs ++ (r ∷ [])) rest (e ∙ sym (append_assoc fs (r ∷ []) rest)) in
      let after : row_place (file_of p) (length fs + 1) ≡ row_place (file_of p) (length (fs ++ (r ∷ []))) = ap (λ (k : ℕ). row_place (file_of p) k) (sym (length-append fs (r ∷ []))) in
      let more : length (blocks (fs ++ (r ∷ []))) ≡ length (blocks fs) + length (blocks (r ∷ [])) = ap length (rows-joined 0 fs (r ∷ [])).0 ∙ length-append (blocks fs) (blocks (r ∷ [])) in
      let one : length (blocks (r ∷ [])) ≡ length (row_block r) = ap length (append-nil (row_block r)) in
      let long = length-append (row_bytes r) (replicate (gap n) 0) in
      let many = length-replicate {A = ℕ} (gap n) 0 in
      let start = gap-ends (40 + length p.sorts) in
      let blocks-end = blocks-even fs in
      let even : row_place (file_of p) (length fs) % 8 ≡ 0 = omega (arith, here, start, blocks-end) in
      let same : gap (row_place (file_of p) (length fs) + n) ≡ gap n = gap-on (row_place (file_of p) (length fs)) n even in
      let block = stands-same (file_of p) _ (row_place (file_of p) (length fs)) (row_block r) (row_block r) (sym here) refl (block-there fs r rest e) in
      record {
        recorded = stands-is (file_of p) (terms_at (file_of p) + 8 * length fs) _ _ (ap (λ (k : ℕ). record_bytes k r) (sym here)) (record-there fs r rest e);
        pads = (
          omega (arith, after, next, here, more, one, long, many, same),
          stands-is (file_of p) (row_place (file_of p) (length fs) + n) _ _ (ap (λ (g : ℕ). replicate g 0) (sym same)) (stands-second (file_of p) (row_place (file_of p) (length fs)) (row_bytes r) (replicate (gap n) 0) block),
        );
      }

  pub term-normal : (q : Parts) (m : ℕ) (ps : List Word) (o : Word) (stream : List ℕ) (a : List Row) → p.terms ≡ (q.terms ++ (a_row (length ps) m (ps ++ (o ∷ [])) stream ∷ [])) ++ a → (term_row_of (file_of p) (length q.terms)).sort ≡ word_sort (term_row_of (file_of p) (length q.terms)).words.result
      → (term_row_of (file_of p) (length q.terms)).stream_at ≡ (term_row_of (file_of p) (length q.terms)).words_at + 8 * (length ps + 1)
      → IsPlainTerm (file_of p) (length q.terms) × RowEnds (file_of p) (length q.terms) ((term_row_of (file_of p) (length q.terms)).stream_at + length stream)
  term-normal q m ps o stream a e sort at =
      let t : ℕ = length q.terms in
      let r : Row = a_row (length ps) m (ps ++ (o ∷ [])) stream in
      let all : rows p ≡ q.terms ++ (r ∷ (a ++ p.thms)) = ap (λ (rs : List Row). rs ++ p.thms) e ∙ append_assoc (q.terms ++ (r ∷ [])) a p.thms ∙ append_assoc q.terms (r ∷ []) (a ++ p.thms) in
      let there = row-is q.terms r (a ++ p.thms) all in
      let rec : ℕ = term_record (file_of p) t in
      let inside = below q.terms a p.terms r e in
      let terms = (counts-said p fit.short).terms in
      let words : (term_row_of (file_of p) t).words_at ≡ row_place (file_of p) t = place-of (file_of p) t (omega (arith, inside, terms)) in
      let many = words-long (ps ++ (o ∷ [])) in
      let few = length-append ps (o ∷ []) in
      let both = length-append (words_bytes (ps ++ (o ∷ []))) stream in
      let end : row_place (file_of p) t + length (row_bytes r) ≡ (term_row_of (file_of p) t).stream_at + length stream = omega (arith, at, words, many, few, both) in (
        record { sort = sort; reserved = byte-read (file_of p) (rec + 3) 0 (little_bytes 4 (row_place (file_of p) t)) (stands-second (file_of p) rec (little_bytes 2 (length ps) ++ (m ∷ [])) (0 ∷ little_bytes 4 (row_place (file_of p) t)) there.recorded) },
        subst (λ (k : ℕ). RowEnds (file_of p) t k) end there.pads,
      )

  pub thm-normal : (q : Parts) (ps : List Word) (stream : List ℕ) (a : List Row) → p.thms ≡ (q.thms ++ (row_of_thm ps stream ∷ [])) ++ a
      → (thm_row_of (file_of p) (length q.thms)).stream_at ≡ (thm_row_of (file_of p) (length q.thms)).words_at + 8 * length ps
      → IsPlainThm (file_of p) (length q.thms) × RowEnds (file_of p) (term_count (file_of p) + length q.thms) ((thm_row_of (file_of p) (length q.thms)).stream_at + length stream)
  thm-normal q ps stream a e at =
      let i : ℕ = length q.thms in
      let r : Row = row_of_thm ps stream in
      let all : rows p ≡ (p.terms ++ q.thms) ++ (r ∷ a) = ap (λ (rs : List Row). p.terms ++ rs) (e ∙ append_assoc q.thms (r ∷ []) a) ∙ sym (append_assoc p.terms q.thms (r ∷ a)) in
      let said = counts-said p fit.short in
      let terms = said.terms in
      let thms = said.thms in
      let terms-place = said.terms_at in
      let thms-place = said.thms_at in
      let k : length (p.terms ++ q.thms) ≡ term_count (file_of p) + i = (let many = length-append p.terms q.thms in omega (arith, many, terms)) in
      let there : IsRowThere (file_of p) (term_count (file_of p) + i) r = subst (λ (n : ℕ). IsRowThere (file_of p) n r) k (row-is (p.terms ++ q.thms) r a all) in
      let rec : ℕ = thm_record (file_of p) i in
      let rec-is : terms_at (file_of p) + 8 * (term_count (file_of p) + i) ≡ rec = omega (arith, terms, terms-place, thms-place) in
      let place : ℕ = row_place (file_of p) (term_count (file_of p) + i) in
      let inside = below q.thms a p.thms r e in
      let words : (thm_row_of (file_of p) i).words_at ≡ place = ap (λ (n : ℕ). words_at (file_of p) n) (sym rec-is) ∙ place-of (file_of p) (term_count (file_of p) + i) (omega (arith, inside, thms)) in
      let recorded : Stands (file_of p) rec (record_bytes place r) = stands-same (file_of p) _ rec (record_bytes place r) (record_bytes place r) rec-is refl there.recorded in
      let many = words-long ps in
      let both = length-append (words_bytes ps) stream in
      let end : place + length (row_bytes r) ≡ (thm_row_of (file_of p) i).stream_at + length stream = omega (arith, at, words, many, both) in (
        (
          byte-read (file_of p) (rec + 2) 0 (0 ∷ little_bytes 4 place) (stands-second (file_of p) rec (little_bytes 2 (length ps)) (0 ∷ 0 ∷ little_bytes 4 place) recorded),
          byte-read (file_of p) (rec + 3) 0 (little_bytes 4 place) (stands-second (file_of p) rec (little_bytes 2 (length ps) ++ (0 ∷ [])) (0 ∷ little_bytes 4 place) recorded),
        ),
        subst (λ (n : ℕ). RowEnds (file_of p) (term_count (file_of p) + i) n) end there.pads,
      )
