-- What a layout says of places in the file.
use Rattle.std.proofs.Common.{◌<◌, ◌≤◌, ◌+◌, ◌*◌, ℕ, List, length, inl, inr, arith}
use Rattle.std.specs.List.{range_with_len}
use Rattle.std.proofs.lemmas.Bool.{cases_lt}
use Rattle.mz_base.specs.Checks.{each_in_order, ◌>>◌}
use Rattle.mz_base.proofs.Offered.{all_hold-first, all_hold-rest, all_hold-rows}
use Rattle.mz_layout_tables.specs.Tables.{term_count, thm_count, term_record, thm_record, terms_at, thms_at}
use Rattle.mz_layout_tables.specs.Layout.{Layout, HoldsParts, HoldsWords, header_checks, table_checks, row_checks, term_check, thm_check}

term-words : (file : List ℕ) → Layout file → (t : ℕ) → t < term_count file → HoldsWords file 1 (term_record file t)
term-words file layout t below =
    let rows = all_hold-rest (table_checks file) (row_checks file) (all_hold-rest (header_checks file) (table_checks file >> row_checks file) layout) in
    (all_hold-rows (term_check file) (term_count file) t (all_hold-first (each_in_order (term_check file) (range_with_len 0 (term_count file))) (each_in_order (thm_check file) (range_with_len 0 (thm_count file))) rows) below).0

thm-words : (file : List ℕ) → Layout file → (i : ℕ) → i < thm_count file → HoldsWords file 0 (thm_record file i)
thm-words file layout i below =
    let rows = all_hold-rest (table_checks file) (row_checks file) (all_hold-rest (header_checks file) (table_checks file >> row_checks file) layout) in
    (all_hold-rows (thm_check file) (thm_count file) i (all_hold-rest (each_in_order (term_check file) (range_with_len 0 (term_count file))) (each_in_order (thm_check file) (range_with_len 0 (thm_count file))) rows) below).0

at-most : (count at end : ℕ) → (0 < count → at + 8 * count ≤ end) → 8 * count ≤ end
at-most count at end h = elim (cases_lt 0 count) [ inl some ↦ (let within = h some in omega arith) | inr none ↦ omega arith ]

pub parts-of_layout : (file : List ℕ) → Layout file → HoldsParts file
parts-of_layout file layout =
    let terms : 0 < term_count file → terms_at file + 8 * term_count file ≤ length file = layout.1.1.1.1.1.0 in
    let thms : 0 < thm_count file → thms_at file + 8 * thm_count file ≤ length file = layout.1.1.1.1.1.1.0 in
    record {
      header = layout.1.1.1.1.0;
      few_sorts = layout.1.1.1.0;
      list = layout.1.1.1.1.1.1.1.0;
      few_terms = at-most (term_count file) (terms_at file) (length file) terms;
      few_thms = at-most (thm_count file) (thms_at file) (length file) thms;
      terms = λ t below. ((let within = terms (omega arith) in omega arith), term-words file layout t below);
      thms = λ i below. ((let within = thms (omega arith) in omega arith), thm-words file layout i below);
    }

pub ruleset parts_of_layout = (parts-of_layout)
