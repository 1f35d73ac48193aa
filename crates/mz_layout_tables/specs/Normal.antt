-- The normal layout: the bytes of a binary of which the sorts, the rows of the tables and the statements are given
-- (the .mmb format, version 1, as it is written here). What the format leaves open is fixed: all parts stand one after
-- the other in one order, tables, words and the list begin at multiples of 8, gaps and unread fields are zero, and each
-- distance is spelled as short as it can be.
use Rattle.std.specs.Prelude.{ℕ, ◌+◌, ◌*◌, ◌-◌, ◌%◌, List, [], ◌∷◌, ◌++◌, length, replicate, codes, Option, Some, None, nat_lt, if◌then◌else◌}
use Rattle.byteorder.specs.Endian.{little_bytes}
use Rattle.mz_cmd.specs.Spelling.{shortest}
use Rattle.mz_logic_theory.specs.declared.word.Word.{Word}
use Rattle.mz_logic_theory.specs.Words.{word_sort}
use Rattle.mz_layout_tables.specs.declared.header.Header.{Header}

-- ---- what is written

-- a row of a table: how many parameters its record names, the record's third byte, the words, and the unify stream,
-- which stands right after them (empty where there is none)
pub record Row : Type 0 where
  pub params : ℕ
  pub mark : ℕ
  pub words : List Word
  pub stream : List ℕ

-- the row of a term: its third byte is the sort, and 128 more for a definition, which has a unify stream; its last word
-- is the result's
abbrev pub row_of_term : List Word → Word → Option (List ℕ) → Row
row_of_term params result None = record { params = length params; mark = word_sort result; words = params ++ result ∷ []; stream = [] }
row_of_term params result (Some stream) = record { params = length params; mark = word_sort result + 128; words = params ++ result ∷ []; stream = stream }

-- the row of an axiom or a theorem
abbrev pub row_of_thm : List Word → List ℕ → Row
row_of_thm params stream = record { params = length params; mark = 0; words = params; stream = stream }

-- a statement of the list: its code, and its body, which is empty for a sort and a plain term
pub record Written : Type 0 where
  pub code : ℕ
  pub body : List ℕ

-- a whole binary: a byte of modifiers for each sort, the rows of terms, those of axioms and theorems, the statements
pub record Parts : Type 0 where
  pub sorts : List ℕ
  pub terms : List Row
  pub thms : List Row
  pub statements : List Written

abbrev pub no_parts : Parts
no_parts = record { sorts = []; terms = []; thms = []; statements = [] }

-- ---- blocks, each filled up with zeros to a multiple of 8

abbrev pub gap : ℕ → ℕ
gap n = (8 - n % 8) % 8

abbrev pub padded : List ℕ → List ℕ
padded bytes = bytes ++ replicate (gap (length bytes)) 0

-- ---- rows: words and stream make a block, to which the row's record points

abbrev pub words_bytes : List Word → List ℕ
words_bytes [] = []
words_bytes (w ∷ ws) = little_bytes 8 w.0 ++ words_bytes ws

abbrev pub row_bytes : Row → List ℕ
row_bytes r = words_bytes r.words ++ r.stream

abbrev pub row_block : Row → List ℕ
row_block r = padded (row_bytes r)

abbrev pub blocks : List Row → List ℕ
blocks [] = []
blocks (r ∷ rs) = row_block r ++ blocks rs

-- the record of a row whose words stand at a place
abbrev pub record_bytes : ℕ → Row → List ℕ
record_bytes at r = little_bytes 2 r.params ++ r.mark ∷ 0 ∷ little_bytes 4 at

-- the records of rows whose blocks stand one after the other from a place on
abbrev pub table : ℕ → List Row → List ℕ
table at [] = []
table at (r ∷ rs) = record_bytes at r ++ table (at + length (row_block r)) rs

-- ---- the list of statements

-- the distance to the next statement: the body, and a command of 2, 3 or 5 bytes, the least in which it fits
abbrev pub distance : ℕ → ℕ
distance n = if nat_lt (n + 2) 256 then n + 2 else (if nat_lt (n + 3) 65536 then n + 3 else n + 5)

abbrev pub statement_bytes : Written → List ℕ
statement_bytes s = shortest s.code (distance (length s.body)) ++ s.body

-- the statements, and the end of the list
abbrev pub list_bytes : List Written → List ℕ
list_bytes [] = 0 ∷ []
list_bytes (s ∷ ss) = statement_bytes s ++ list_bytes ss

-- ---- the places

abbrev pub rows : Parts → List Row
rows p = p.terms ++ p.thms

-- header and sorts, then a table for the terms and one for the theorems, then the rows' blocks, then the list
abbrev pub terms_place : Parts → ℕ
terms_place p = (40 + length p.sorts) + gap (40 + length p.sorts)

abbrev pub thms_place : Parts → ℕ
thms_place p = terms_place p + 8 * length p.terms

abbrev pub rows_place : Parts → ℕ
rows_place p = thms_place p + 8 * length p.thms

abbrev pub list_place : Parts → ℕ
list_place p = rows_place p + length (blocks (rows p))

-- how long the file is
abbrev pub file_length : Parts → ℕ
file_length p = list_place p + length (list_bytes p.statements)

-- ---- the file

abbrev pub header_of : Parts → Header
header_of p = record {
  sorts = length p.sorts;
  terms = length p.terms;
  thms = length p.thms;
  terms_at = terms_place p;
  thms_at = thms_place p;
  list_at = list_place p;
}

-- magic, version, the numbers of rows and the places; what no reader looks at is zero
unfoldable pub header_bytes : Header → List ℕ
header_bytes h = codes "MM0B" ++ 1 ∷ h.sorts ∷ 0 ∷ 0
    ∷ little_bytes 4 h.terms ++ little_bytes 4 h.thms
    ++ little_bytes 4 h.terms_at ++ little_bytes 4 h.thms_at ++ little_bytes 4 h.list_at
    ++ replicate 12 0

-- both tables are one row of records, since their rows' blocks stand in the same order
unfoldable pub file_of : Parts → List ℕ
file_of p = padded (header_bytes (header_of p) ++ p.sorts) ++ (table (rows_place p) (rows p) ++ (blocks (rows p) ++ list_bytes p.statements))
