-- Header and tables of a file in the normal layout are in order.
use Rattle.std.proofs.Common.{◌≡◌, ◌<◌, ◌+◌, ℕ, zero, suc, List, length, subst, arith}
use Rattle.std.specs.List.{range_with_len}
use Rattle.mz_base.proofs.Offered.{slice_get-some, all_hold-both}
use Rattle.mz_base.specs.Checks.{Checks, AllHold, each_in_order, ◌>>◌}
use Rattle.mz_layout_tables.specs.Tables.{term_count, thm_count, term_record, thm_record}
use Rattle.mz_layout_tables.specs.Layout.{Layout, HoldsWords, header_checks, table_checks, row_checks, term_check, thm_check}
use Rattle.mz_layout_tables.specs.Normal.{Row, Parts, rows, header_of, rows_place, file_length, file_of}
use Rattle.mz_layout_tables.specs.Standing.{HasRoom, Fit, block_place}
use Rattle.mz_layout_tables.proofs.ListLaws.{slice_get-All}
use Rattle.mz_layout_tables.proofs.PieceLengths.{length-words_bytes}
use Rattle.mz_layout_tables.proofs.FileParts.{length-list}
use Rattle.mz_layout_tables.proofs.PartsStand.{SaysCounts, counts-said, file-length, header-stands, says-magic}
use Rattle.mz_layout_tables.proofs.RowsRead.{IsRowAt}
use Rattle.mz_layout_tables.proofs.TablesRead.{term-stands, thm-stands}

pub rows-from : {R : Type 0} → (row : ℕ → Checks R) (from n : ℕ) → ((i : ℕ) → i < n → AllHold (row (from + i))) → AllHold (each_in_order row (range_with_len from n))
rows-from row from zero h = tt
rows-from row from (suc n) h =
    all_hold-both (row from) (each_in_order row (range_with_len (from + 1) n))
    (subst (λ k. AllHold (row k)) (let e : from + 0 ≡ from = omega arith in e) (h 0 (omega arith)))
    (rows-from row (from + 1) n (λ i below. subst (λ k. AllHold (row k)) (let e : from + suc i ≡ (from + 1) + i = omega arith in e) (h (suc i) (omega arith))))

pub rows-hold : {R : Type 0} → (row : ℕ → Checks R) (n : ℕ) → ((i : ℕ) → i < n → AllHold (row i)) → AllHold (each_in_order row (range_with_len 0 n))
rows-hold row n h = rows-from row 0 n (λ i below. subst (λ k. AllHold (row k)) (let e : i ≡ 0 + i = omega arith in e) (h i below))

-- the words of a row that stands in the file
holds-words : (file : List ℕ) (further at place : ℕ) (r : Row) → IsRowAt file at place r → HasRoom further r → HoldsWords file further at
holds-words file further at place r row room =
    let within = row.words.within in
    omega (arith, within, row.words_at, row.params, room.count, length-words_bytes r.words)

module _ (p : Parts) (fit : Fit p) where
  counts : SaysCounts (file_of p) p
  counts = counts-said p fit.short

  long : length (file_of p) ≡ file_length p
  long = file-length p

  header : AllHold (header_checks (file_of p))
  header =
      let magic = says-magic (file_of p) (header_of p) (header-stands p) in
      (omega (arith, long, length-list p.statements), (magic.0, (magic.1, (omega (arith, counts.sorts, fit.few_sorts), (omega (arith, long, counts.sorts, length-list p.statements), tt)))))

  tables : AllHold (table_checks (file_of p))
  tables = (
    λ some. omega (arith, long, counts.terms, counts.terms_at),
    (λ some. omega (arith, long, counts.thms, counts.thms_at), (omega (arith, long, counts.list_at), tt)),
  )

  terms : (t : ℕ) → t < term_count (file_of p) → AllHold (term_check (file_of p) t)
  terms t below =
      let is = slice_get-some p.terms t (omega (arith, counts.terms)) in
      (holds-words (file_of p) 1 (term_record (file_of p) t) (block_place (rows_place p) (rows p) t) is.0 (term-stands p fit t is.0 is.1) (slice_get-All (HasRoom 1) p.terms t is.0 fit.room.terms is.1), tt)

  thms : (i : ℕ) → i < thm_count (file_of p) → AllHold (thm_check (file_of p) i)
  thms i below =
      let is = slice_get-some p.thms i (omega (arith, counts.thms)) in
      (holds-words (file_of p) 0 (thm_record (file_of p) i) (block_place (rows_place p) (rows p) (length p.terms + i)) is.0 (thm-stands p fit i is.0 is.1) (slice_get-All (HasRoom 0) p.thms i is.0 fit.room.thms is.1), tt)

  all-rows : AllHold (row_checks (file_of p))
  all-rows =
      all_hold-both (each_in_order (term_check (file_of p)) (range_with_len 0 (term_count (file_of p)))) (each_in_order (thm_check (file_of p)) (range_with_len 0 (thm_count (file_of p))))
      (rows-hold (term_check (file_of p)) (term_count (file_of p)) terms) (rows-hold (thm_check (file_of p)) (thm_count (file_of p)) thms)

  pub layout-holds : Layout (file_of p)
  layout-holds = all_hold-both (header_checks (file_of p)) (table_checks (file_of p) >> row_checks (file_of p)) header (all_hold-both (table_checks (file_of p)) (row_checks (file_of p)) tables all-rows)
