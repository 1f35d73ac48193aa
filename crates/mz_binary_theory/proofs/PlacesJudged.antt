-- What is computed of header, tables and a place of the list answers the checks.
use Rattle.std.proofs.Common.{◌≡◌, ◌<◌, ◌≤◌, ◌+◌, ◌*◌, ◌^◌, ℕ, Bool, true, false, cond, List, [], ◌∷◌, length, take, Option, Some, None, Result, Ok, Err, refl, sym, subst, inl, inr, arith, leb-true, le-leb, codes}
use Rattle.std.specs.Prelude.{◌==◌, ◌&&◌, not, nat_le, slice_get, IsBitSet, MatchBool}
use Rattle.std.specs.Bool.{Decides as IsDecidedBy}
use Rattle.std.specs.List.{range_with_len}
use Rattle.std.proofs.lemmas.Bool.{or_cases, or_left, or_right, cases_eq, eqb-true, eq-eqb}
use Rattle.std.proofs.lemmas.Bool.Decides.{Decides-eqb, Decides-ltb, Decides-and, Decides-or}
use Rattle.std.proofs.lemmas.Slice.Eq.{bytes_eq-Decides}
use Rattle.mz_base.specs.Checks.{Checks, demand, ◌>>◌, each_in_order, AllHold, FailsFirst, Judges}
use Rattle.mz_base.proofs.Offered.{fails-before, fails-after, all_hold-both, judges-after, Decides, decides-whole}
use Rattle.mz_cmd.specs.declared.rule.K.{K}
use Rattle.mz_machine_theory.specs.Steps.{◌>>=◌, ◌>>◌ as ◌then◌}
use Rattle.mz_cmd.specs.declared.rule.K.TheVariants.{Header, Table}
use Rattle.mz_cmd.specs.declared.rule.K.TheVariants as rules
use Rattle.mz_cmd.specs.declared.code.StatementCode.{StatementCode}
use Rattle.mz_cmd.specs.declared.code.StatementCode.TheVariants as codes
use Rattle.mz_cmd.specs.declared.statement.StmtAt.{StmtAt}
use Rattle.mz_cmd.specs.declared.statement.StmtAt.TheVariants.{End, Head}
use Rattle.mz_cmd.specs.declared.statement.StmtFault.{StmtFault}
use Rattle.mz_cmd.specs.Codes.{statement_code}
use Rattle.mz_cmd.specs.StatementList.{statement_at}
use Rattle.mz_layout_tables.specs.Heads.{AllTaken, IsEmptyBody, body_bytes, empty_checks, next_row, row_count, suits_checks}
use Rattle.mz_layout_tables.specs.Heads as heads
use Rattle.mz_layout_tables.specs.Numbers.{byte_at}
use Rattle.mz_layout_tables.specs.declared.rows_so_far.Rows.{Rows}
use Rattle.mz_layout_tables.specs.Tables.{term_row, thm_row, sort_count, term_count, thm_count, terms_at, thms_at, list_at, term_record, thm_record, words_at, param_count, TermRow}
use Rattle.mz_layout_tables.specs.Layout.{HoldsRecords, HoldsWords, header_checks, table_checks, row_checks, term_check, thm_check, layout_checks}
use Rattle.mz_logic_theory.specs.Words.{word_bound, word_sort, word_deps}
use Rattle.mz_logic_theory.specs.declared.binder.SortMods.{SortMods}
use Rattle.mz_logic_theory.specs.declared.word.Word.{Word}
use Rattle.mz_machine_theory.specs.Tests.{has_bit}
use Rattle.mz_machine_theory.proofs.Offered.{bit-set, bit-not-set}
use Rattle.mz_machine_theory.specs.Bodies as bodies
use Rattle.mz_machine_theory.specs.Lists.{definition_of, assertion_of}
use Rattle.mz_machine_theory.specs.FileRows.{Taken, term_of_file, thm_of_file, rows_taken}
use Rattle.mz_binary_theory.specs.Checking.{counts, term_body_checks, term_checks, thm_checks, part_checks, kind_checks, checks_of, place_checks}
use Rattle.mz_layout_tables.specs.RowWords.{bound_count, IsParamWord, IsParamAt, IsResultWord, param_check, param_checks, word_checks}
use Rattle.mz_binary_theory.specs.FileRun.{Passing, with_sort, with_term, test, test_each, holds_records, test_header, test_tables, test_rows, test_layout, may_be, is_param_word, is_param_at, test_params, is_result_word, test_words, Found, list_ends, stands_alone, has_body, is_empty_body, find_empty, find_term_body, find_term_parts, find_thm_parts, find_parts, suits_row, test_row, find_kind, all_taken, find_of, find_at, Onward, onward, if_runs, run_found, run_place}
use Rattle.mz_binary_theory.specs.Standards.{Standard, checks_by, run_by}

-- ---- tests, one after another

pub judges-test : (b : Bool) (P : Type 0) (r : ℕ × K) → IsDecidedBy b P → Judges (test b r) (demand r P)
judges-test true P r d = (d.0 refl, tt)
judges-test false P r d = inl ((λ p. let bad : false ≡ true = d.1 p in cc), refl)

judges-then : {A : Type 0} (x : Passing) (y : Result A (ℕ × K)) (bs cs : Checks (ℕ × K)) → Judges x bs → (AllHold bs → Judges y cs) → Judges (x then y) (bs >> cs)
judges-then (Ok p) y bs cs j rest = judges-after bs cs y j (rest j)
judges-then (Err r) y bs cs j rest = fails-before bs cs r j

judges-each : {A : Type 0} (f : A → Passing) (row : A → Checks (ℕ × K)) → ((x : A) → Judges (f x) (row x)) → (xs : List A) → Judges (test_each f xs) (each_in_order row xs)
judges-each f row each [] = tt
judges-each f row each (x ∷ xs) = judges-then (f x) (test_each f xs) (row x) (each_in_order row xs) (each x) λ _. judges-each f row each xs

le-decides : (a b : ℕ) → IsDecidedBy (nat_le a b) (a ≤ b)
le-decides a b = (leb-true a b, le-leb a b)

-- ---- header and tables

records-decide : (file : List ℕ) (count at : ℕ) → IsDecidedBy (holds_records file count at) (HoldsRecords file count at)
records-decide file count at = (
  (λ h some. elim (or_cases (count == 0) (nat_le (at + 8 * count) (length file)) h) [
    | inl none ↦ absurd (let is : count ≡ 0 = eqb-true count 0 none in omega arith)
    | inr le ↦ leb-true (at + 8 * count) (length file) le
  ]),
  (λ h. elim (cases_eq count 0) [
    | inl none ↦ or_left (count == 0) (nat_le (at + 8 * count) (length file)) (eq-eqb count 0 none)
    | inr some ↦ or_right (count == 0) (nat_le (at + 8 * count) (length file)) (le-leb (at + 8 * count) (length file) (h (omega arith)))
  ]),
)

pub header : (file : List ℕ) → Judges (test_header file) (header_checks file)
header file =
    judges-then _ _ (demand (length file, Header) (40 ≤ length file)) _ (judges-test _ _ _ (le-decides 40 (length file))) λ _.
    judges-then _ _ (demand (0, Header) (take 4 file ≡ codes "MM0B")) _ (judges-test _ _ _ (bytes_eq-Decides (take 4 file) (codes "MM0B"))) λ _.
    judges-then _ _ (demand (4, Header) (byte_at file 4 ≡ 1)) _ (judges-test _ _ _ (Decides-eqb (byte_at file 4) 1)) λ _.
    judges-then _ _ (demand (5, Header) (sort_count file ≤ 128)) _ (judges-test _ _ _ (le-decides (sort_count file) 128)) λ _.
    judges-test _ _ _ (le-decides (40 + sort_count file) (length file))

tables : (file : List ℕ) → Judges (test_tables file) (table_checks file)
tables file =
    judges-then _ _ (demand (16, Table) (HoldsRecords file (term_count file) (terms_at file))) _ (judges-test _ _ _ (records-decide file (term_count file) (terms_at file))) λ _.
    judges-then _ _ (demand (20, Table) (HoldsRecords file (thm_count file) (thms_at file))) _ (judges-test _ _ _ (records-decide file (thm_count file) (thms_at file))) λ _.
    judges-test _ _ _ (le-decides (list_at file) (length file))

rows : (file : List ℕ) → Judges (test_rows file) (row_checks file)
rows file =
    judges-then _ _ (each_in_order (term_check file) (range_with_len 0 (term_count file))) (each_in_order (thm_check file) (range_with_len 0 (thm_count file)))
    (judges-each _ (term_check file) (λ t. judges-test _ (HoldsWords file 1 (term_record file t)) _ (le-decides (words_at file (term_record file t) + 8 * (param_count file (term_record file t) + 1)) (length file))) (range_with_len 0 (term_count file))) λ _.
    judges-each _ (thm_check file) (λ i. judges-test _ (HoldsWords file 0 (thm_record file i)) _ (le-decides (words_at file (thm_record file i) + 8 * (param_count file (thm_record file i) + 0)) (length file))) (range_with_len 0 (thm_count file))

pub layout-judged : (file : List ℕ) → Judges (test_layout file) (layout_checks file)
layout-judged file =
    judges-then _ _ (header_checks file) (table_checks file >> row_checks file) (header file) λ _.
    judges-then _ _ (table_checks file) (row_checks file) (tables file) λ _. rows file

-- ---- words

bit-decides : (n k : ℕ) → IsDecidedBy (not (has_bit n k)) (IsBitSet n k → ⊥)
bit-decides n k = go (has_bit n k) refl
  where
    go : (b : Bool) → has_bit n k ≡ b → IsDecidedBy (not b) (IsBitSet n k → ⊥)
    go true is = ((λ h. absurd cc), λ out. absurd (out (bit-set n k is)))
    go false is = ((λ h. bit-not-set n k is), λ out. refl)

-- the sort is there, without the modifier
may-be : (bit : ℕ) (o : Option SortMods) → IsDecidedBy (may_be bit o) ((m : SortMods) × (o ≡ Some m) × (IsBitSet m.0 bit → ⊥))
may-be bit None = ((λ h. absurd cc), λ (m, at, _). absurd cc)
may-be bit (Some m) = (
  (λ h. (m, refl, (bit-decides m.0 bit).0 h)),
  (λ (n, at, out). let is : m ≡ n = cc in (bit-decides m.0 bit).1 (subst (λ (z : SortMods). IsBitSet z.0 bit → ⊥) (sym is) out)),
)

either-decides : (b x y : Bool) (P Q : Type 0) → IsDecidedBy x P → IsDecidedBy y Q → IsDecidedBy (cond b x y) (MatchBool b P Q)
either-decides true x y P Q p q = p
either-decides false x y P Q p q = q

three-decides : (x y z : Bool) (P Q R : Type 0) → IsDecidedBy x P → IsDecidedBy y Q → IsDecidedBy z R → IsDecidedBy (x && (y && z)) (P × Q × R)
three-decides x y z P Q R p q r =
    let all = Decides-and x (y && z) p (Decides-and y z q r) in
    ((λ h. let (a, (b, c)) = all.0 h in (a, b, c)), λ (a, b, c). all.1 (a, (b, c)))

param-decides : (ss : List SortMods) (k : ℕ) (w : Word) → IsDecidedBy (is_param_word ss k w) (IsParamWord ss k w)
param-decides ss k w =
    Decides-and _ _ (Decides-ltb (word_sort w) (length ss))
    (either-decides (word_bound w) _ _ _ _
    (three-decides _ _ _ _ _ _ (may-be 1 (slice_get ss (word_sort w))) (le-decides k 54) (Decides-eqb (word_deps w) (2 ^ k)))
    (Decides-ltb (word_deps w) (2 ^ k)))

param-at-decides : (ss : List SortMods) (ws : List Word) (i : ℕ) → IsDecidedBy (is_param_at ss (bound_count (take i ws)) (slice_get ws i)) (IsParamAt ss ws i)
param-at-decides ss ws i = go (slice_get ws i)
  where
    go : (o : Option Word) → IsDecidedBy (is_param_at ss (bound_count (take i ws)) o) ((w : Word) × (o ≡ Some w) × IsParamWord ss (bound_count (take i ws)) w)
    go None = ((λ h. absurd cc), λ (w, at, _). absurd cc)
    go (Some w) = (
      (λ h. (w, refl, (param-decides ss (bound_count (take i ws)) w).0 h)),
      (λ (v, at, may). let is : w ≡ v = cc in (param-decides ss (bound_count (take i ws)) w).1 (subst (IsParamWord ss (bound_count (take i ws))) (sym is) may)),
    )

pub params-judged : (ss : List SortMods) (words_at : ℕ) (ws : List Word) → Judges (test_params ss words_at ws) (param_checks ss words_at ws)
params-judged ss words_at ws = judges-each _ (param_check ss words_at ws) (λ i. judges-test _ (IsParamAt ss ws i) _ (param-at-decides ss ws i)) (range_with_len 0 (length ws))

not-decides : (b : Bool) → IsDecidedBy (not b) (b ≡ false)
not-decides true = ((λ h. absurd cc), λ h. absurd cc)
not-decides false = ((λ h. refl), λ h. refl)

result-decides : (ss : List SortMods) (row : TermRow) → IsDecidedBy (is_result_word ss row) (IsResultWord ss row)
result-decides ss row =
    let whole = Decides-and (not (word_bound row.words.result)) _ (not-decides (word_bound row.words.result))
    (Decides-and (word_sort row.words.result == row.sort) _ (Decides-eqb (word_sort row.words.result) row.sort)
    (Decides-and (may_be 0 (slice_get ss row.sort)) _ (may-be 0 (slice_get ss row.sort)) (Decides-ltb (word_deps row.words.result) (2 ^ bound_count row.words.params)))) in (
      (λ h. let (regular, (named, (may, bits))) = whole.0 h in record { is_regular = regular; named = named; may_be = may; bits = bits }),
      (λ r. whole.1 (r.is_regular, (r.named, (r.may_be, r.bits)))),
    )

pub words-judged : (ss : List SortMods) (row : TermRow) → Judges (test_words ss row) (word_checks ss row)
words-judged ss row = judges-then _ _ (param_checks ss row.words_at row.words.params) _ (params-judged ss row.words_at row.words.params) λ _. judges-test _ _ _ (result-decides ss row)

-- ---- heads

pub empty-decides : (bytes : List ℕ) → IsDecidedBy (is_empty_body bytes) (IsEmptyBody bytes)
empty-decides bytes = Decides-or _ _ (bytes_eq-Decides bytes []) (bytes_eq-Decides bytes (0 ∷ []))

module _ (file : List ℕ) (rows : Rows) where
  suits-judged : (at : ℕ) (code : StatementCode) → Judges (test (suits_row file rows code) (at, rules.StatementKind)) (suits_checks file rows at code)
  suits-judged at codes.LocalDefinition = judges-test _ _ _ ((λ h. h), λ h. h)
  suits-judged at codes.Term = (tt, tt)
  suits-judged at codes.Sort = tt
  suits-judged at codes.Axiom = tt
  suits-judged at codes.Theorem = tt
  suits-judged at codes.LocalTheorem = tt

  pub row-judged : (at : ℕ) (code : StatementCode) → Judges (test_row file rows at code) (heads.row_checks file rows at code)
  row-judged at code =
      judges-then _ _ (demand (at, rules.NoRow) (next_row rows code < row_count file code)) (suits_checks file rows at code)
      (judges-test _ _ _ (Decides-ltb (next_row rows code) (row_count file code))) λ _. suits-judged at code

  pub taken-decides : IsDecidedBy (all_taken file rows) (AllTaken file rows)
  taken-decides =
      let all = Decides-and _ _ (Decides-eqb rows.sorts (sort_count file)) (Decides-and _ _ (Decides-eqb rows.terms (term_count file)) (Decides-eqb rows.thms (thm_count file))) in (
        (λ h. let (sorts, (terms, thms)) = all.0 h in record { sorts_taken = sorts; terms_taken = terms; thms_taken = thms }),
        (λ r. all.1 (r.sorts_taken, (r.terms_taken, r.thms_taken))),
      )

-- ---- what stands at a place

-- what is found answers the checks, but for a body that is to run: this decides what is left
abbrev pub JudgesFound : Standard → List ℕ → Taken → Result Found (ℕ × K) → Checks (ℕ × K) → Type 0
JudgesFound standard file taken (Err r) cs = FailsFirst cs r
JudgesFound standard file taken (Ok list_ends) cs = AllHold cs
JudgesFound standard file taken (Ok (stands_alone after next)) cs = AllHold cs
JudgesFound standard file taken (Ok (has_body after next h body bytes)) cs = Decides (checks_by standard (rows_taken file taken) h body bytes) cs

module _ (standard : Standard) (file : List ℕ) (taken : Taken) where
  found-after : (bs cs : Checks (ℕ × K)) (y : Result Found (ℕ × K)) → AllHold bs → JudgesFound standard file taken y cs → JudgesFound standard file taken y (bs >> cs)
  found-after bs cs (Err r) a j = fails-after bs cs r a j
  found-after bs cs (Ok list_ends) a j = all_hold-both bs cs a j
  found-after bs cs (Ok (stands_alone after next)) a j = all_hold-both bs cs a j
  found-after bs cs (Ok (has_body after next h body bytes)) a j = record { fails = λ r f. fails-after bs cs r a (j.fails r f); holds = λ b. all_hold-both bs cs a (j.holds b) }

  found-then : (x : Passing) (y : Result Found (ℕ × K)) (bs cs : Checks (ℕ × K)) → Judges x bs → (AllHold bs → JudgesFound standard file taken y cs) → JudgesFound standard file taken (x then y) (bs >> cs)
  found-then (Ok p) y bs cs j rest = found-after bs cs y j (rest j)
  found-then (Err r) y bs cs j rest = fails-before bs cs r j

  -- a test whose end is a statement without a body, or the end of the list
  test-alone : (b : Bool) (P : Type 0) (r : ℕ × K) (after : Taken) (next : ℕ) → IsDecidedBy b P → JudgesFound standard file taken (test b r then Ok (stands_alone after next)) (demand r P)
  test-alone true P r after next d = (d.0 refl, tt)
  test-alone false P r after next d = inl ((λ p. let bad : false ≡ true = d.1 p in cc), refl)

  test-end : (b : Bool) (P : Type 0) (r : ℕ × K) → IsDecidedBy b P → JudgesFound standard file taken (test b r then Ok list_ends) (demand r P)
  test-end true P r d = (d.0 refl, tt)
  test-end false P r d = inl ((λ p. let bad : false ≡ true = d.1 p in cc), refl)

  empty-found : (after : Taken) (at body next : ℕ) → JudgesFound standard file taken (find_empty file after at body next) (empty_checks file at body next)
  empty-found after at body next = test-alone _ _ _ _ _ (empty-decides (body_bytes file body next))

  term-body-found : (at body next : ℕ) (o : Option (List ℕ)) → JudgesFound standard file taken (find_term_body file taken at body next o) (term_body_checks standard file taken at body next o)
  term-body-found at body next None = empty-found (with_term taken) at body next
  term-body-found at body next (Some stream) = decides-whole (checks_by standard (rows_taken file taken) (definition_of (term_of_file file taken.terms) stream) body (body_bytes file body next))

  term-found : (at body next : ℕ) → JudgesFound standard file taken (find_term_parts file taken at body next) (term_checks standard file taken at body next)
  term-found at body next =
      let row = term_row file taken.terms in
      found-then _ _ (word_checks taken.sorts row) _ (words-judged taken.sorts row) λ _. term-body-found at body next (term_of_file file taken.terms).stream

  thm-found : (body next : ℕ) (without_proof : Bool) → JudgesFound standard file taken (find_thm_parts file taken body next without_proof) (thm_checks standard file taken body next without_proof)
  thm-found body next without_proof =
      let row = thm_row file taken.thms in
      found-then _ _ (param_checks taken.sorts row.words_at row.params) _ (params-judged taken.sorts row.words_at row.params) λ _.
      decides-whole (checks_by standard (rows_taken file taken) (assertion_of without_proof (thm_of_file file taken.thms)) body (body_bytes file body next))

  part-found : (at body next : ℕ) (code : StatementCode) → JudgesFound standard file taken (find_parts file taken at body next code) (part_checks standard file taken at body next code)
  part-found at body next codes.Sort = empty-found (with_sort file taken) at body next
  part-found at body next codes.Term = term-found at body next
  part-found at body next codes.LocalDefinition = term-found at body next
  part-found at body next codes.Axiom = thm-found body next true
  part-found at body next codes.Theorem = thm-found body next false
  part-found at body next codes.LocalTheorem = thm-found body next false

  kind-found : (at body next : ℕ) (kind : Option StatementCode) → JudgesFound standard file taken (find_kind file taken at body next kind) (kind_checks standard file taken at body next kind)
  kind-found at body next None = inl ((λ h. h), refl)
  kind-found at body next (Some code) =
      found-then (test_row file (counts taken) at code) (find_parts file taken at body next code) (heads.row_checks file (counts taken) at code) (part_checks standard file taken at body next code)
      (row-judged file (counts taken) at code) λ _. part-found at body next code

  of-found : (at : ℕ) (there : Result StmtAt StmtFault) → JudgesFound standard file taken (find_of file taken at there) (checks_of standard file taken at there)
  of-found at (Err f) = inl ((λ h. h), refl)
  of-found at (Ok End) = test-end _ _ _ (taken-decides file (counts taken))
  of-found at (Ok (Head code body next)) = kind-found at body next (statement_code code)

  pub place-found : (at : ℕ) → JudgesFound standard file taken (find_at file taken at) (place_checks standard file taken at)
  unfolding find_at
  place-found at = of-found at (statement_at file at)

  -- ---- with its body

  body-judged : {A : Type 0} (r : Result A (ℕ × K)) (o : Onward) (cs : Checks (ℕ × K)) → Decides (bodies.checks_of r) cs → Judges (if_runs r o) cs
  body-judged (Ok x) o cs d = d.holds tt
  body-judged (Err r) o cs d = d.fails r (inl ((λ h. h), refl))

  found-judged : (r : Result Found (ℕ × K)) (cs : Checks (ℕ × K)) → JudgesFound standard file taken r cs → Judges (r >>= run_found standard file taken) cs
  found-judged (Err r) cs j = j
  found-judged (Ok list_ends) cs j = j
  found-judged (Ok (stands_alone after next)) cs j = j
  found-judged (Ok (has_body after next h body bytes)) cs j = body-judged (run_by standard (rows_taken file taken) h body bytes) (onward after next) cs j

  pub place-judged : (at : ℕ) → Judges (run_place standard file taken at) (place_checks standard file taken at)
  place-judged at = found-judged (find_at file taken at) (place_checks standard file taken at) (place-found at)
