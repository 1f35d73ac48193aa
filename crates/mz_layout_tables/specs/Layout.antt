-- What is asked of a binary's header and tables, in order (the .mmb format, version 1).
use Rattle.std.specs.Prelude.{◌≡◌, ◌≤◌, ◌<◌, ℕ, ◌+◌, ◌*◌, ◌^◌, List, length, take, codes}
use Rattle.std.specs.List.{range_with_len}
use Rattle.mz_base.specs.Checks.{Checks, demand, ◌>>◌, each_in_order, AllHold}
use Rattle.mz_cmd.specs.declared.rule.K.{K}
use Rattle.mz_cmd.specs.declared.rule.K.TheVariants.{Header, Table}
use Rattle.mz_layout_tables.specs.Numbers.{byte_at}
use Rattle.mz_layout_tables.specs.Tables.{sort_count, term_count, thm_count, terms_at, thms_at, list_at, term_record, thm_record, param_count, words_at}

-- the header is whole, of version 1, and the sorts' bytes stand after it
abbrev pub header_checks : List ℕ → Checks (ℕ × K)
header_checks file =
    demand (length file, Header) (40 ≤ length file)
    >> demand (0, Header) (take 4 file ≡ codes "MM0B")
    >> demand (4, Header) (byte_at file 4 ≡ 1)
    >> demand (5, Header) (sort_count file ≤ 128)
    >> demand (length file, Header) (40 + sort_count file ≤ length file)

-- so many records of 8 bytes from a place on end within the file; where there are none, the place says nothing
abbrev pub HoldsRecords : List ℕ → ℕ → ℕ → Type 0
HoldsRecords file count at = 0 < count → at + 8 * count ≤ length file

abbrev pub table_checks : List ℕ → Checks (ℕ × K)
table_checks file =
    demand (16, Table) (HoldsRecords file (term_count file) (terms_at file))
    >> demand (20, Table) (HoldsRecords file (thm_count file) (thms_at file))
    >> demand (24, Table) (list_at file ≤ length file)

-- the words of a record's row end within the file, one for each parameter and so many more
abbrev pub HoldsWords : List ℕ → ℕ → ℕ → Type 0
HoldsWords file further at = words_at file at + 8 * (param_count file at + further) ≤ length file

-- a term has one word more, its result's
abbrev pub term_check : List ℕ → ℕ → Checks (ℕ × K)
term_check file t = demand (term_record file t, Table) (HoldsWords file 1 (term_record file t))

abbrev pub thm_check : List ℕ → ℕ → Checks (ℕ × K)
thm_check file i = demand (thm_record file i, Table) (HoldsWords file 0 (thm_record file i))

abbrev pub row_checks : List ℕ → Checks (ℕ × K)
row_checks file =
    each_in_order (term_check file) (range_with_len 0 (term_count file))
    >> each_in_order (thm_check file) (range_with_len 0 (thm_count file))

-- each with the place and the rule that are reported where it is the first that fails
abbrev pub layout_checks : List ℕ → Checks (ℕ × K)
layout_checks file = header_checks file >> table_checks file >> row_checks file

-- header and tables are in order
abbrev pub Layout : List ℕ → Type 0
Layout file = AllHold (layout_checks file)

-- ---- what a layout says of places

abbrev pub HoldsRow : List ℕ → ℕ → ℕ → Type 0
HoldsRow file further at = (at + 8 ≤ length file) × HoldsWords file further at

-- all parts that the tables name stand within the file
pub record HoldsParts (file : List ℕ) : Type 0 where
  pub header : 40 + sort_count file ≤ length file
  pub few_sorts : sort_count file ≤ 128
  pub list : list_at file ≤ length file
  pub few_terms : 8 * term_count file ≤ length file
  pub few_thms : 8 * thm_count file ≤ length file
  pub terms : (t : ℕ) → t < term_count file → HoldsRow file 1 (term_record file t)
  pub thms : (i : ℕ) → i < thm_count file → HoldsRow file 0 (thm_record file i)

-- a file that a binary reader has accepted
pub record IsBinary (file : List ℕ) : Type 0 where
  pub layout : Layout file
  pub parts : HoldsParts file
  pub fits : length file < 2 ^ 32
