-- The statements of a binary: where they stand, what a listing asks of them, and their lines (the .mmb format, its list
-- of statements).
use Rattle.std.specs.Prelude.{ℕ, ◌+◌, ◌++◌, Bool, true, false, List, [], length, take, codes, if◌then◌else◌}
use Rattle.mz_base.specs.Checks.{Checks, demand, ◌>>◌, retold}
use Rattle.mz_cmd.specs.declared.code.StatementCode.{StatementCode}
use Rattle.mz_cmd.specs.declared.code.StatementCode.TheVariants as codes_of
use Rattle.mz_cmd.specs.declared.rule.K.{K}
use Rattle.mz_cmd.specs.declared.rule.K.TheVariants as rules
use Rattle.mz_cmd.specs.declared.rule.Refusal.{Refusal}
use Rattle.mz_layout_tables.specs.Tables.{list_at, mods_of, term_row, thm_row}
use Rattle.mz_layout_tables.specs.Heads.{IsHeadAt, empty_checks, head_checks, next_row, rows_after}
use Rattle.mz_layout_tables.specs.declared.head.Head.{Head}
use Rattle.mz_show.specs.declared.place.Place.{Place}
use Rattle.mz_show.specs.declared.stream.Stream.TheVariants.{Unify, Proof}
use Rattle.mz_show.specs.Tokens.{texts, numbered, param_line, result_line}
use Rattle.mz_show.specs.Streams.{Run, IsLongest, EndStands, LeadsTo, stream_text}

-- ---- places

-- nothing stands before the first statement
abbrev pub first_place : List ℕ → Place
first_place file = record { number = 1; at = list_at file; rows = record { sorts = 0; terms = 0; thms = 0 } }

-- the place after a statement with this code
abbrev pub place_after : Place → StatementCode → ℕ → Place
place_after place code next = record { number = place.number + 1; at = next; rows = rows_after place.rows code }

-- all but sorts and plain terms have a unify stream and a body with commands
abbrev pub has_streams : List ℕ → Place → StatementCode → Bool
has_streams file place codes_of.Sort = false
has_streams file place codes_of.Term = (term_row file place.rows.terms).words.has_body
has_streams file place codes_of.LocalDefinition = true
has_streams file place codes_of.Axiom = true
has_streams file place codes_of.Theorem = true
has_streams file place codes_of.LocalTheorem = true

-- where its unify stream stands; a sort, of which nothing is asked there, has none
abbrev pub unify_at : List ℕ → Place → StatementCode → ℕ
unify_at file place codes_of.Sort = 0
unify_at file place codes_of.Term = (term_row file place.rows.terms).stream_at
unify_at file place codes_of.LocalDefinition = (term_row file place.rows.terms).stream_at
unify_at file place codes_of.Axiom = (thm_row file place.rows.thms).stream_at
unify_at file place codes_of.Theorem = (thm_row file place.rows.thms).stream_at
unify_at file place codes_of.LocalTheorem = (thm_row file place.rows.thms).stream_at

-- ---- statements

-- a statement: its head, and what stands in its unify stream and in its body
pub record Statement : Type 0 where
  pub head : Head
  pub unify : Run
  pub proof : Run

-- the statement stands at a place of the list
pub record Stands (file : List ℕ) (place : Place) (s : Statement) : Type 0 where
  pub head : IsHeadAt file place.at s.head
  pub unify : IsLongest Unify file (unify_at file place s.head.code) s.unify
  pub proof : IsLongest Proof (take s.head.next file) s.head.body s.proof

abbrev pub after : Place → Statement → Place
after place s = place_after place s.head.code s.head.next

-- ---- what is asked of it

-- the rule fails at a byte of the statement there
abbrev pub refusal_at : Place → ℕ → K → Refusal
refusal_at place at rule = record { statement = place.number; at = at; rule = rule }

-- the same checks, reported of the statement there
abbrev pub told_there : Place → Checks (ℕ × K) → Checks Refusal
told_there place checks = retold (λ fault. refusal_at place fault.0 fault.1) checks

-- a command that begins a statement stands there, and a row is left for it; or the list's end, with no row left
abbrev pub place_checks : List ℕ → Place → Checks Refusal
place_checks file place = told_there place (head_checks file place.rows place.at)

-- both end with END, the unify stream first; that of the body ends the statement
abbrev pub stream_checks : List ℕ → Place → Statement → Checks Refusal
stream_checks file place s =
    demand (refusal_at place s.unify.to rules.Command) (EndStands file s.unify.to)
    >> demand (refusal_at place s.proof.to rules.Command) (EndStands (take s.head.next file) s.proof.to)
    >> demand (refusal_at place s.proof.to rules.StatementLength) (LeadsTo (take s.head.next file) s.proof.to s.head.next)

abbrev pub part_checks : Bool → List ℕ → Place → Statement → Checks Refusal
part_checks true file place s = stream_checks file place s
part_checks false file place s = told_there place (empty_checks file place.at s.head.body s.head.next)

abbrev pub statement_checks : List ℕ → Place → Statement → Checks Refusal
statement_checks file place s = place_checks file place >> part_checks (has_streams file place s.head.code) file place s

-- ---- its lines

abbrev pub kind_name : List ℕ → Place → StatementCode → List ℕ
kind_name file place codes_of.Sort = codes "sort"
kind_name file place codes_of.Term = if (term_row file place.rows.terms).words.has_body then codes "def" else codes "term"
kind_name file place codes_of.LocalDefinition = codes "local def"
kind_name file place codes_of.Axiom = codes "axiom"
kind_name file place codes_of.Theorem = codes "theorem"
kind_name file place codes_of.LocalTheorem = codes "local theorem"

-- a sort's modifiers, or how many parameters the row has
abbrev pub row_number : List ℕ → Place → StatementCode → ℕ
row_number file place codes_of.Sort = (mods_of file place.rows.sorts).0
row_number file place codes_of.Term = length (term_row file place.rows.terms).words.params
row_number file place codes_of.LocalDefinition = length (term_row file place.rows.terms).words.params
row_number file place codes_of.Axiom = length (thm_row file place.rows.thms).params
row_number file place codes_of.Theorem = length (thm_row file place.rows.thms).params
row_number file place codes_of.LocalTheorem = length (thm_row file place.rows.thms).params

abbrev pub heading : List ℕ → Place → StatementCode → List ℕ
heading file place code =
    numbered (numbered (kind_name file place code) (next_row place.rows code)) (row_number file place code) ++ codes "\n"

abbrev pub term_lines : List ℕ → ℕ → List ℕ
term_lines file t = texts param_line (term_row file t).words.params ++ result_line (term_row file t).words.result

abbrev pub thm_lines : List ℕ → ℕ → List ℕ
thm_lines file i = texts param_line (thm_row file i).params

-- the parameters' words, and a term's result's
abbrev pub word_lines : List ℕ → Place → StatementCode → List ℕ
word_lines file place codes_of.Sort = []
word_lines file place codes_of.Term = term_lines file place.rows.terms
word_lines file place codes_of.LocalDefinition = term_lines file place.rows.terms
word_lines file place codes_of.Axiom = thm_lines file place.rows.thms
word_lines file place codes_of.Theorem = thm_lines file place.rows.thms
word_lines file place codes_of.LocalTheorem = thm_lines file place.rows.thms

abbrev pub row_text : List ℕ → Place → StatementCode → List ℕ
row_text file place code = heading file place code ++ word_lines file place code

-- the unify stream's commands, then the body's
abbrev pub streams_text : Bool → Statement → List ℕ
streams_text true s = stream_text Unify s.unify.commands ++ stream_text Proof s.proof.commands
streams_text false s = []

abbrev pub statement_text : List ℕ → Place → Statement → List ℕ
statement_text file place s = row_text file place s.head.code ++ streams_text (has_streams file place s.head.code) s
