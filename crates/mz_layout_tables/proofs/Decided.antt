-- Whether a file has a layout can be found out.
use Rattle.std.proofs.Common.{◌⊎◌, ◌+◌, ◌*◌, ℕ, List, length, take, codes}
use Rattle.std.specs.List.{range_with_len}
use Rattle.std.proofs.lemmas.Bool.{cases_eq}
use Rattle.mz_base.specs.Checks.{AreDecided, each_in_order, ◌>>◌}
use Rattle.mz_base.proofs.Offered.{are_decided-both, are_decided-rows, at_most-decided, implied-decided, bytes-decided}
use Rattle.mz_layout_tables.specs.Numbers.{byte_at}
use Rattle.mz_layout_tables.specs.Tables.{sort_count, term_count, thm_count, terms_at, thms_at, list_at, term_record, thm_record, words_at, param_count}
use Rattle.mz_layout_tables.specs.Layout.{HoldsRecords, HoldsWords, header_checks, table_checks, row_checks, term_check, thm_check, layout_checks}

records : (file : List ℕ) (count at : ℕ) → HoldsRecords file count at ⊎ (HoldsRecords file count at → ⊥)
records file count at = implied-decided (at_most-decided 1 count) (at_most-decided (at + 8 * count) (length file))

words : (file : List ℕ) (further at : ℕ) → HoldsWords file further at ⊎ (HoldsWords file further at → ⊥)
words file further at = at_most-decided (words_at file at + 8 * (param_count file at + further)) (length file)

header : (file : List ℕ) → AreDecided (header_checks file)
header file = (
  at_most-decided 40 (length file),
  λ _. (
    bytes-decided (take 4 file) (codes "MM0B"),
    λ _. (
      cases_eq (byte_at file 4) 1,
      λ _. (at_most-decided (sort_count file) 128, λ _. (at_most-decided (40 + sort_count file) (length file), λ _. tt)),
    ),
  ),
)

tables : (file : List ℕ) → AreDecided (table_checks file)
tables file =
    (records file (term_count file) (terms_at file), λ _. (records file (thm_count file) (thms_at file), λ _. (at_most-decided (list_at file) (length file), λ _. tt)))

rows : (file : List ℕ) → AreDecided (row_checks file)
rows file =
    are_decided-both (each_in_order (term_check file) (range_with_len 0 (term_count file))) (each_in_order (thm_check file) (range_with_len 0 (thm_count file)))
    (are_decided-rows (term_check file) (λ t. (words file 1 (term_record file t), λ _. tt)) (range_with_len 0 (term_count file)))
    (λ _. are_decided-rows (thm_check file) (λ i. (words file 0 (thm_record file i), λ _. tt)) (range_with_len 0 (thm_count file)))

pub layout-decided : (file : List ℕ) → AreDecided (layout_checks file)
layout-decided file =
    are_decided-both (header_checks file) (table_checks file >> row_checks file) (header file)
    (λ _. are_decided-both (table_checks file) (row_checks file) (tables file) (λ _. rows file))
