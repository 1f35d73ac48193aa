-- The normal layout by what stands where in a file (the .mmb format, version 1, as it is written here): what a reader finds
-- at each place, and nothing of how it was written.
use Rattle.std.specs.Prelude.{◌≡◌, ◌<◌, ◌+◌, ◌*◌, ⊤, ℕ, Bool, true, false, List, [], ◌∷◌, ◌++◌, length, replicate, nat_lt, Option, Some, None, if◌then◌else◌}
use Rattle.mz_cmd.specs.declared.command.Cmd.{Cmd}
use Rattle.mz_cmd.specs.declared.code.StatementCode.{StatementCode}
use Rattle.mz_cmd.specs.declared.code.StatementCode.TheVariants as codes_of
use Rattle.mz_cmd.specs.declared.code.UnifyCode.{UnifyCode}
use Rattle.mz_cmd.specs.declared.code.ProofCode.{ProofCode}
use Rattle.mz_cmd.specs.Codes.{statement_byte, unify_code, proof_code}
use Rattle.mz_cmd.specs.Spelling.{shortest}
use Rattle.mz_logic_theory.specs.Words.{word_sort}
use Rattle.mz_layout_tables.specs.Numbers.{byte_at, number_at}
use Rattle.mz_layout_tables.specs.Tables.{sort_count, term_count, thm_count, terms_at, thms_at, list_at, words_at, term_record, thm_record, term_row}
use Rattle.mz_layout_tables.specs.Normal.{distance, gap}
use Rattle.mz_layout_tables.specs.Standing.{Stands}
use Rattle.mz_layout_tables.specs.Layout.{Layout}
use Rattle.mz_show.specs.declared.place.Place.{Place}
use Rattle.mz_show.specs.declared.stream.Stream.{Stream}
use Rattle.mz_show.specs.declared.stream.Stream.TheVariants.{Unify, Proof}
use Rattle.mz_show.specs.Listing.{Chain, EndsAt}
use Rattle.mz_show.specs.Statements.{Statement, first_place, after, has_streams, unify_at}
use Rattle.mz_show.specs.Streams.{Run}
use Rattle.mz_show.specs.Tokens.{unify_has_number, proof_has_number}

-- each number of the list is a byte
abbrev pub AreBytes : List ℕ → Type 0
AreBytes file = (at : ℕ) → byte_at file at < 256

-- ---- gaps

-- zeros stand from a place on, up to this one, the next multiple of 8
abbrev pub IsPadded : List ℕ → ℕ → ℕ → Type 0
IsPadded file from to = (to ≡ from + gap from) × Stands file from (replicate (gap from) 0)

-- ---- streams

-- the bytes of commands, each in its shortest spelling, and one byte 00 behind them
abbrev pub spelled : List Cmd → List ℕ
spelled [] = 0 ∷ []
spelled (c ∷ cs) = shortest c.code c.value ++ spelled cs

-- the listing has the operand of a command with this code
abbrev pub unify_listed : Option UnifyCode → Bool
unify_listed None = false
unify_listed (Some c) = unify_has_number c

abbrev pub proof_listed : Option ProofCode → Bool
proof_listed None = false
proof_listed (Some c) = proof_has_number c

abbrev pub is_listed : Stream → ℕ → Bool
is_listed Unify code = unify_listed (unify_code code)
is_listed Proof code = proof_listed (proof_code code)

-- no other command has one
abbrev pub HaveListed : Stream → List Cmd → Type 0
HaveListed stream [] = ⊤
HaveListed stream (c ∷ cs) = (is_listed stream c.code ≡ false → c.value ≡ 0) × HaveListed stream cs

-- the stream's commands stand from a place on, as short as they can be
abbrev pub IsShort : Stream → List ℕ → ℕ → Run → Type 0
IsShort stream file from run = Stands file from (spelled run.commands) × HaveListed stream run.commands

-- ---- rows: those of terms stand before those of axioms and theorems, and so do their records

-- where the words of the k-th of all rows begin; behind the last row the list of statements does
abbrev pub row_place : List ℕ → ℕ → ℕ
row_place file k = if nat_lt k (term_count file + thm_count file) then words_at file (terms_at file + 8 * k) else list_at file

-- a row ends with its unify stream, or with its words where it has none
abbrev pub row_end : Bool → ℕ → Run → ℕ
row_end true stream_at run = stream_at + length (spelled run.commands)
row_end false stream_at run = stream_at

-- a term's record names the sort of its result, and what isn't looked at in it is zero
pub record IsPlainTerm (file : List ℕ) (t : ℕ) : Type 0 where
  pub sort : (term_row file t).sort ≡ word_sort (term_row file t).words.result
  pub reserved : byte_at file (term_record file t + 3) ≡ 0

-- what isn't looked at in the record of an axiom or a theorem
abbrev pub IsPlainThm : List ℕ → ℕ → Type 0
IsPlainThm file i = (byte_at file (thm_record file i + 2) ≡ 0) × (byte_at file (thm_record file i + 3) ≡ 0)

-- the k-th row ends there, and the next one, or the list, begins at the next multiple of 8
abbrev pub RowEnds : List ℕ → ℕ → ℕ → Type 0
RowEnds file k end = IsPadded file end (row_place file (k + 1))

-- the row that a statement takes; a sort takes a byte, of which the four high bits aren't looked at
abbrev pub HasNormalRow : List ℕ → Place → Statement → StatementCode → Type 0
HasNormalRow file place s codes_of.Sort = byte_at file (40 + place.rows.sorts) < 16
HasNormalRow file place s codes_of.Term =
    IsPlainTerm file place.rows.terms × RowEnds file place.rows.terms (row_end (has_streams file place codes_of.Term) (unify_at file place codes_of.Term) s.unify)
HasNormalRow file place s codes_of.LocalDefinition =
    IsPlainTerm file place.rows.terms × RowEnds file place.rows.terms (row_end true (unify_at file place codes_of.LocalDefinition) s.unify)
HasNormalRow file place s code =
    IsPlainThm file place.rows.thms × RowEnds file (term_count file + place.rows.thms) (row_end true (unify_at file place code) s.unify)

-- ---- statements

-- both streams are short, and the next statement begins behind the body; a sort and a plain term have an empty body
abbrev pub HasShortStreams : Bool → List ℕ → Place → Statement → Type 0
HasShortStreams true file place s =
    IsShort Unify file (unify_at file place s.head.code) s.unify
    × IsShort Proof file s.head.body s.proof
    × (s.head.next ≡ s.head.body + length (spelled s.proof.commands))
HasShortStreams false file place s = s.head.next ≡ s.head.body

-- a statement whose body has so many bytes: its command has the least operand in which the distance fits
pub record IsShortStatement (file : List ℕ) (place : Place) (s : Statement) : Type 0 where
  pub size : ℕ
  pub next_is : s.head.next ≡ s.head.body + size
  pub command : Stands file place.at (shortest (statement_byte s.head.code) (distance size))
  pub body_is : s.head.body ≡ place.at + length (shortest (statement_byte s.head.code) (distance size))
  pub streams : HasShortStreams (has_streams file place s.head.code) file place s
  pub row : HasNormalRow file place s s.head.code

abbrev pub AreShortStatements : List ℕ → Place → List Statement → Type 0
AreShortStatements file place [] = ⊤
AreShortStatements file place (s ∷ ss) = IsShortStatement file place s × AreShortStatements file (after place s) ss

-- ---- the whole file

-- Header, sorts, the two tables, the rows, the list: in this order, each right behind the one before or at the next multiple
-- of 8, with zeros between them and in what isn't looked at; the list is whole, and the file ends with it.
pub record IsNormal (file : List ℕ) : Type 0 where
  pub bytes : AreBytes file
  pub layout : Layout file
  pub reserved : (number_at 2 file 6 ≡ 0) × (number_at 4 file 28 ≡ 0) × (number_at 8 file 32 ≡ 0)
  pub terms : IsPadded file (40 + sort_count file) (terms_at file)
  pub thms : thms_at file ≡ terms_at file + 8 * term_count file
  pub rows : row_place file 0 ≡ thms_at file + 8 * thm_count file
  pub statements : List Statement
  pub last : Place
  pub chain : Chain file (first_place file) statements last
  pub ends : EndsAt file last
  pub short : AreShortStatements file (first_place file) statements
  pub end : (byte_at file last.at ≡ 0) × (length file ≡ last.at + 1)
