-- A whole file, computed: the rows that its statements take, or its first fault; and the commands executed. Each test
-- decides the fact of the same name among the checks.
use Rattle.std.specs.Prelude.{◌≡◌, ℕ, zero, suc, ◌+◌, ◌*◌, ◌^◌, Bool, true, false, not, ◌==◌, ◌||◌, ◌&&◌, nat_le, nat_lt, bytes_eq, if◌then◌else◌, List, [], ◌∷◌, ◌++◌, length, take, codes, slice_get, Option, Some, None, Result, Ok, Err}
use Rattle.std.specs.List.{range_with_len}
use Rattle.mz_cmd.specs.declared.rule.K.{K}
use Rattle.mz_cmd.specs.declared.rule.K.TheVariants as rules
use Rattle.mz_cmd.specs.declared.rule.Refusal.{Refusal}
use Rattle.mz_cmd.specs.declared.code.StatementCode.{StatementCode}
use Rattle.mz_cmd.specs.declared.code.StatementCode.TheVariants as codes
use Rattle.mz_cmd.specs.declared.statement.StmtAt.{StmtAt}
use Rattle.mz_cmd.specs.declared.statement.StmtAt.TheVariants.{End, Head}
use Rattle.mz_cmd.specs.declared.statement.StmtFault.{StmtFault}
use Rattle.mz_cmd.specs.Codes.{statement_code}
use Rattle.mz_cmd.specs.StatementList.{statement_at}
use Rattle.mz_logic_theory.specs.Words.{word_bound, word_sort, word_deps}
use Rattle.mz_logic_theory.specs.declared.binder.SortMods.{SortMods}
use Rattle.mz_logic_theory.specs.declared.word.Word.{Word}
use Rattle.mz_layout_tables.specs.Numbers.{byte_at}
use Rattle.mz_layout_tables.specs.Heads.{body_bytes, next_row, row_count, rule_of}
use Rattle.mz_layout_tables.specs.declared.rows_so_far.Rows.{Rows}
use Rattle.mz_layout_tables.specs.Tables.{TermRow, sort_count, term_count, thm_count, terms_at, thms_at, list_at, term_record, thm_record, param_count, words_at, mods_of, term_row, thm_row}
use Rattle.mz_machine_theory.specs.Steps.{◌>>=◌, ◌>>◌}
use Rattle.mz_machine_theory.specs.Tests.{has_bit}
use Rattle.mz_machine_theory.specs.MachineState.{Heading}
use Rattle.mz_machine_theory.specs.Lists.{definition_of, assertion_of}
use Rattle.mz_layout_tables.specs.RowWords.{bound_count}
use Rattle.mz_machine_theory.specs.FileRows.{Taken, nothing_taken, term_of_file, thm_of_file, rows_taken}
use Rattle.mz_binary_theory.specs.Checking.{counts}
use Rattle.mz_binary_theory.specs.Standards.{Standard, run_by}

-- what passes, or the place and the rule that fails
abbrev pub Passing : Type 0
Passing = Result (Unit {0}) (ℕ × K)

-- the test holds, or this fails
abbrev pub test : Bool → ℕ × K → Passing
test true r = Ok tt
test false r = Err r

abbrev pub test_each : {A : Type 0} → (A → Passing) → List A → Passing
test_each f [] = Ok tt
test_each f (x ∷ xs) = f x >> test_each f xs

-- ---- header and tables

abbrev pub holds_records : List ℕ → ℕ → ℕ → Bool
holds_records file count at = count == 0 || nat_le (at + 8 * count) (length file)

abbrev pub holds_words : List ℕ → ℕ → ℕ → Bool
holds_words file further at = nat_le (words_at file at + 8 * (param_count file at + further)) (length file)

abbrev pub test_header : List ℕ → Passing
test_header file = do
  test (nat_le 40 (length file)) (length file, rules.Header)
  test (bytes_eq (take 4 file) (codes "MM0B")) (0, rules.Header)
  test (byte_at file 4 == 1) (4, rules.Header)
  test (nat_le (sort_count file) 128) (5, rules.Header)
  test (nat_le (40 + sort_count file) (length file)) (length file, rules.Header)

abbrev pub test_tables : List ℕ → Passing
test_tables file = do
  test (holds_records file (term_count file) (terms_at file)) (16, rules.Table)
  test (holds_records file (thm_count file) (thms_at file)) (20, rules.Table)
  test (nat_le (list_at file) (length file)) (24, rules.Table)

abbrev pub test_rows : List ℕ → Passing
test_rows file = do
  test_each (λ t. test (holds_words file 1 (term_record file t)) (term_record file t, rules.Table)) (range_with_len 0 (term_count file))
  test_each (λ i. test (holds_words file 0 (thm_record file i)) (thm_record file i, rules.Table)) (range_with_len 0 (thm_count file))

abbrev pub test_layout : List ℕ → Passing
test_layout file = do
  test_header file
  test_tables file
  test_rows file

-- ---- words

-- the sort is there, and has none of these modifiers
abbrev pub may_be : ℕ → Option SortMods → Bool
may_be bit None = false
may_be bit (Some m) = not (has_bit m.0 bit)

abbrev pub is_param_word : List SortMods → ℕ → Word → Bool
is_param_word ss k w = nat_lt (word_sort w) (length ss)
    && (if word_bound w then may_be 1 (slice_get ss (word_sort w)) && (nat_le k 54 && word_deps w == 2 ^ k) else nat_lt (word_deps w) (2 ^ k))

abbrev pub is_param_at : List SortMods → ℕ → Option Word → Bool
is_param_at ss k None = false
is_param_at ss k (Some w) = is_param_word ss k w

abbrev pub test_params : List SortMods → ℕ → List Word → Passing
test_params ss words_at ws = test_each (λ i. test (is_param_at ss (bound_count (take i ws)) (slice_get ws i)) (words_at + 8 * i, rules.Binder)) (range_with_len 0 (length ws))

abbrev pub is_result_word : List SortMods → TermRow → Bool
is_result_word ss row = not (word_bound row.words.result) && (word_sort row.words.result == row.sort
    && (may_be 0 (slice_get ss row.sort) && nat_lt (word_deps row.words.result) (2 ^ bound_count row.words.params)))

abbrev pub test_words : List SortMods → TermRow → Passing
test_words ss row = do
  test_params ss row.words_at row.words.params
  test (is_result_word ss row) (row.words_at + 8 * length row.words.params, rules.Result)

-- ---- a statement

-- the end of the list; or a statement, the place of the next one and the rows taken after it: without a body, or with
-- one that is to run, under a heading from a place on
pub data Found : Type 0 where
  list_ends : Found
  stands_alone : Taken → ℕ → Found
  has_body : Taken → ℕ → Heading → ℕ → List ℕ → Found

abbrev pub is_empty_body : List ℕ → Bool
is_empty_body bytes = bytes_eq bytes [] || bytes_eq bytes (0 ∷ [])

abbrev pub with_sort : List ℕ → Taken → Taken
with_sort file taken = record taken { sorts = taken.sorts ++ mods_of file (length taken.sorts) ∷ [] }

abbrev pub with_term : Taken → Taken
with_term taken = record taken { terms = taken.terms + 1 }

abbrev pub with_thm : Taken → Taken
with_thm taken = record taken { thms = taken.thms + 1 }

-- the rows taken after a statement of a kind
abbrev pub after_kind : List ℕ → Taken → StatementCode → Taken
after_kind file taken codes.Sort = with_sort file taken
after_kind file taken codes.Term = with_term taken
after_kind file taken codes.LocalDefinition = with_term taken
after_kind file taken codes.Axiom = with_thm taken
after_kind file taken codes.Theorem = with_thm taken
after_kind file taken codes.LocalTheorem = with_thm taken

abbrev pub find_empty : List ℕ → Taken → ℕ → ℕ → ℕ → Result Found (ℕ × K)
find_empty file after at body next = do
  test (is_empty_body (body_bytes file body next)) (at, rules.StatementLength)
  Ok (stands_alone after next)

abbrev pub find_term_body : List ℕ → Taken → ℕ → ℕ → ℕ → Option (List ℕ) → Result Found (ℕ × K)
find_term_body file taken at body next None = find_empty file (with_term taken) at body next
find_term_body file taken at body next (Some stream) =
    Ok (has_body (with_term taken) next (definition_of (term_of_file file taken.terms) stream) body (body_bytes file body next))

abbrev pub find_term_parts : List ℕ → Taken → ℕ → ℕ → ℕ → Result Found (ℕ × K)
find_term_parts file taken at body next = do
  test_words taken.sorts (term_row file taken.terms)
  find_term_body file taken at body next (term_of_file file taken.terms).stream

abbrev pub find_thm_parts : List ℕ → Taken → ℕ → ℕ → Bool → Result Found (ℕ × K)
find_thm_parts file taken body next without_proof = do
  test_params taken.sorts (thm_row file taken.thms).words_at (thm_row file taken.thms).params
  Ok (has_body (with_thm taken) next (assertion_of without_proof (thm_of_file file taken.thms)) body (body_bytes file body next))

-- what is found where the statement takes the next row of its kind
abbrev pub find_parts : List ℕ → Taken → ℕ → ℕ → ℕ → StatementCode → Result Found (ℕ × K)
find_parts file taken at body next codes.Sort = find_empty file (with_sort file taken) at body next
find_parts file taken at body next codes.Term = find_term_parts file taken at body next
find_parts file taken at body next codes.LocalDefinition = find_term_parts file taken at body next
find_parts file taken at body next codes.Axiom = find_thm_parts file taken body next true
find_parts file taken at body next codes.Theorem = find_thm_parts file taken body next false
find_parts file taken at body next codes.LocalTheorem = find_thm_parts file taken body next false

-- the row is there, and suits the statement
abbrev pub suits_row : List ℕ → Rows → StatementCode → Bool
suits_row file rows codes.LocalDefinition = (term_row file rows.terms).words.has_body
suits_row file rows k = true

abbrev pub test_row : List ℕ → Rows → ℕ → StatementCode → Passing
test_row file rows at code = do
  test (nat_lt (next_row rows code) (row_count file code)) (at, rules.NoRow)
  test (suits_row file rows code) (at, rules.StatementKind)

abbrev pub find_kind : List ℕ → Taken → ℕ → ℕ → ℕ → Option StatementCode → Result Found (ℕ × K)
find_kind file taken at body next None = Err (at, rules.StatementKind)
find_kind file taken at body next (Some code) = do
  test_row file (counts taken) at code
  find_parts file taken at body next code

abbrev pub all_taken : List ℕ → Rows → Bool
all_taken file rows = rows.sorts == sort_count file && (rows.terms == term_count file && rows.thms == thm_count file)

abbrev pub find_of : List ℕ → Taken → ℕ → Result StmtAt StmtFault → Result Found (ℕ × K)
find_of file taken at (Err f) = Err (at, rule_of f)
find_of file taken at (Ok End) = do
  test (all_taken file (counts taken)) (at, rules.RowsLeft)
  Ok list_ends
find_of file taken at (Ok (Head code body next)) = find_kind file taken at body next (statement_code code)

-- what stands at a place after what is taken; its body isn't run yet
unfoldable pub find_at : List ℕ → Taken → ℕ → Result Found (ℕ × K)
find_at file taken at = find_of file taken at (statement_at file at)

-- nothing that is asked before a body runs fails there, and there is one to run
abbrev pub RunsBody : List ℕ → Taken → ℕ → Type 0
RunsBody file taken at = (after : Taken) × (next : ℕ) × (h : Heading) × (body : ℕ) × (bytes : List ℕ) × (find_at file taken at ≡ Ok (has_body after next h body bytes))

-- ---- the whole list

-- where the list goes on after a statement that passes, or that it ends
pub data Onward : Type 0 where
  ended : Onward
  onward : Taken → ℕ → Onward

abbrev pub if_runs : {A : Type 0} → Result A (ℕ × K) → Onward → Result Onward (ℕ × K)
if_runs (Ok x) o = Ok o
if_runs (Err r) o = Err r

-- its body runs
abbrev pub run_found : Standard → List ℕ → Taken → Found → Result Onward (ℕ × K)
run_found standard file taken list_ends = Ok ended
run_found standard file taken (stands_alone after next) = Ok (onward after next)
run_found standard file taken (has_body after next h body bytes) = if_runs (run_by standard (rows_taken file taken) h body bytes) (onward after next)

-- what stands at a place, its body run
abbrev pub run_place : Standard → List ℕ → Taken → ℕ → Result Onward (ℕ × K)
run_place standard file taken at = find_at file taken at >>= run_found standard file taken

abbrev pub as_statement : ℕ → ℕ × K → Refusal
as_statement n r = record { statement = n; at = r.0; rule = r.1 }

-- the rows taken at the end, or the refusal
abbrev pub follow_list : ℕ → Taken → Result Onward (ℕ × K) → (Taken → ℕ → Result Taken Refusal) → Result Taken Refusal
follow_list n taken (Err r) rest = Err (as_statement n r)
follow_list n taken (Ok ended) rest = Ok taken
follow_list n taken (Ok (onward after next)) rest = rest after next

-- the list from its n-th statement on; the bound is on the statements, each of which takes a byte
unfoldable pub run_list : Standard → List ℕ → ℕ → ℕ → Taken → ℕ → Result Taken Refusal
run_list standard file zero n taken at = Err (as_statement n (at, rules.Command))
run_list standard file (suc bound) n taken at =
    follow_list n taken (run_place standard file taken at) (λ after next. run_list standard file bound (n + 1) after next)

abbrev pub after_layout : Passing → Result Taken Refusal → Result Taken Refusal
after_layout (Err r) rest = Err (as_statement 0 r)
after_layout (Ok x) rest = rest

-- the whole file: the rows taken where it is good, or its first fault
abbrev pub run_file : Standard → List ℕ → Result Taken Refusal
run_file standard file = after_layout (test_layout file) (run_list standard file (length file + 1) 1 nothing_taken (list_at file))

-- ---- steps

abbrev pub found_steps : Standard → List ℕ → Taken → Result Found (ℕ × K) → ℕ
found_steps standard file taken (Err r) = 0
found_steps standard file taken (Ok list_ends) = 0
found_steps standard file taken (Ok (stands_alone after next)) = 0
found_steps standard file taken (Ok (has_body after next h body bytes)) = standard.steps (rows_taken file taken) h body bytes

abbrev pub follow_steps : Result Onward (ℕ × K) → (Taken → ℕ → ℕ) → ℕ
follow_steps (Err r) rest = 0
follow_steps (Ok ended) rest = 0
follow_steps (Ok (onward after next)) rest = rest after next

unfoldable pub list_steps : Standard → List ℕ → ℕ → Taken → ℕ → ℕ
list_steps standard file zero taken at = 0
list_steps standard file (suc bound) taken at =
    found_steps standard file taken (find_at file taken at)
    + follow_steps (run_place standard file taken at) (λ after next. list_steps standard file bound after next)

abbrev pub steps_after : Passing → ℕ → ℕ
steps_after (Err r) n = 0
steps_after (Ok x) n = n

-- the proof and unify commands executed in the first n statements of a file, up to its first fault
abbrev pub steps_through : Standard → List ℕ → ℕ → ℕ
steps_through standard file n = steps_after (test_layout file) (list_steps standard file n nothing_taken (list_at file))

-- in a whole file, each of whose statements takes a byte
abbrev pub file_steps : Standard → List ℕ → ℕ
file_steps standard file = steps_through standard file (length file + 1)
