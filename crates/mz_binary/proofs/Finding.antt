-- What is found at a place, from what is answered of its head, its words and its body.
use Rattle.std.proofs.Common.{◌≡◌, ◌≤◌, ◌∙◌, ℕ, Bool, true, false, cond, List, drop, Option, Some, None, Result, Ok, Err, refl, sym, ap, subst, inl, inr}
use Rattle.std.specs.Prelude.{IfOk}
use Rattle.mz_base.specs.Checks.{Checks, AllHold, FailsFirst, Judges}
use Rattle.mz_base.proofs.Offered.{all_hold-excludes, fails_first-unique}
use Rattle.mz_cmd.specs.declared.code.StatementCode.{StatementCode}
use Rattle.mz_cmd.specs.declared.code.StatementCode.TheVariants as codes
use Rattle.mz_cmd.specs.declared.rule.K.{K}
use Rattle.mz_cmd.specs.declared.rule.K.TheVariants as rules
use Rattle.mz_cmd.specs.declared.statement.StmtAt.{StmtAt}
use Rattle.mz_cmd.specs.declared.statement.StmtAt.TheVariants.{End, Head as a_head}
use Rattle.mz_cmd.specs.declared.statement.StmtFault.{StmtFault}
use Rattle.mz_cmd.specs.Codes.{statement_byte, statement_code}
use Rattle.mz_cmd.specs.StatementList.{statement_at}
use Rattle.mz_layout_tables.specs.Heads.{IsHeadAt, IsNextHead, AllTaken, body_bytes, empty_checks, end_checks, head_checks, next_row, row_checks}
use Rattle.mz_layout_tables.specs.Heads as heads
use Rattle.mz_layout_tables.specs.declared.head.Head.{Head}
use Rattle.mz_layout_tables.specs.declared.rows_so_far.Rows.{Rows}
use Rattle.mz_layout_tables.specs.Tables.{sort_count, term_row, thm_row}
use Rattle.mz_machine_theory.specs.Steps.{◌>>◌ as ◌then◌}
use Rattle.mz_machine_theory.specs.MachineState.{Heading}
use Rattle.mz_machine_theory.specs.Lists.{definition_of, assertion_of}
use Rattle.mz_machine_theory.specs.FileRows.{Taken, term_of_file, thm_of_file}
use Rattle.mz_layout_tables.specs.RowWords.{param_checks, word_checks}
use Rattle.mz_layout_tables.proofs.Offered.{length-first_sorts}
use Rattle.mz_machine_theory.specs.Headings.{heading_of}
use Rattle.mz_machine_env.specs.Before.{taken_before}
use Rattle.mz_binary_theory.specs.Checking.{counts}
use Rattle.mz_binary_theory.specs.FileRun.{Passing, test, test_params, test_words, test_row, Found, list_ends, stands_alone, has_body, is_empty_body, with_term, with_thm, after_kind, find_empty, find_term_body, find_term_parts, find_thm_parts, find_parts, find_kind, find_of, find_at, all_taken}
use Rattle.mz_binary.specs.Progress.{Finds, IsOf, StandsAt, found_of, kind_byte, is_axiom_kind, IsTermKind, IsAssertionKind}
use Rattle.mz_binary.specs.declared.statement.Found.{Found as Seen}
use Rattle.mz_binary.specs.declared.statement.Found.TheVariants as seen
use Rattle.mz_binary_theory.proofs.Offered.{code-of, judges-test, params-judged, words-judged, row-judged, empty-decides, taken-decides}

-- ---- one after another

passes : {A : Type 0} (x : Passing) (cs : Checks (ℕ × K)) (y : Result A (ℕ × K)) → Judges x cs → AllHold cs → (x then y) ≡ y
passes (Ok p) cs y j all = refl
passes (Err f) cs y j all = absurd (all_hold-excludes cs f all j)

stops : {A : Type 0} (x : Passing) (cs : Checks (ℕ × K)) (y : Result A (ℕ × K)) (f : ℕ × K) → Judges x cs → FailsFirst cs f → (x then y) ≡ Err f
stops (Ok p) cs y f j first = absurd (all_hold-excludes cs f j first)
stops (Err g) cs y f j first = ap (λ z. Err z) (fails_first-unique cs g f j first)

-- ---- the head

module _ (file : List ℕ) (taken : Taken) (at : ℕ) where
  pub find-there : (there : Result StmtAt StmtFault) → statement_at file at ≡ there → find_at file taken at ≡ find_of file taken at there
  unfolding find_at
  find-there there e = ap (find_of file taken at) e

  pub find-head : (code body next : ℕ) (o : Option StatementCode) → statement_at file at ≡ Ok (a_head code body next) → statement_code code ≡ o → find_at file taken at ≡ find_kind file taken at body next o
  find-head code body next o e is = find-there (Ok (a_head code body next)) e ∙ ap (find_kind file taken at body next) is

  kind-stops : (body next : ℕ) (o : Option StatementCode) (f : ℕ × K) → FailsFirst (heads.kind_checks file (counts taken) at o) f → find_kind file taken at body next o ≡ Err f
  kind-stops body next None f (inl (_, is)) = ap (λ z. Err z) (sym is)
  kind-stops body next None f (inr (never, _)) = absurd never
  kind-stops body next (Some k) f first = stops (test_row file (counts taken) at k) (row_checks file (counts taken) at k) (find_parts file taken at body next k) f (row-judged file (counts taken) at k) first

  of-stops : (there : Result StmtAt StmtFault) (f : ℕ × K) → FailsFirst (heads.checks_of file (counts taken) at there) f → find_of file taken at there ≡ Err f
  of-stops (Err fault) f (inl (_, is)) = ap (λ z. Err z) (sym is)
  of-stops (Err fault) f (inr (never, _)) = absurd never
  of-stops (Ok End) f first =
      stops (test (all_taken file (counts taken)) (at, rules.RowsLeft)) (end_checks file (counts taken) at) (Ok list_ends) f (judges-test _ _ _ (taken-decides file (counts taken))) first
  of-stops (Ok (a_head code body next)) f first = kind-stops body next (statement_code code) f first

  head-stops : (f : ℕ × K) → FailsFirst (head_checks file (counts taken) at) f → find_at file taken at ≡ Err f
  head-stops f first = find-there (statement_at file at) refl ∙ of-stops (statement_at file at) f first

  head-ends : statement_at file at ≡ Ok End → AllTaken file (counts taken) → find_at file taken at ≡ Ok list_ends
  head-ends e all =
      find-there (Ok End) e
      ∙ passes (test (all_taken file (counts taken)) (at, rules.RowsLeft)) (end_checks file (counts taken) at) (Ok list_ends) (judges-test _ _ _ (taken-decides file (counts taken))) (all, tt)

  head-stands : (k : StatementCode) (body next : ℕ) → statement_at file at ≡ Ok (a_head (statement_byte k) body next) → AllHold (row_checks file (counts taken) at k)
      → find_at file taken at ≡ find_parts file taken at body next k
  head-stands k body next e all =
      find-head (statement_byte k) body next (Some k) e (code-of k)
      ∙ passes (test_row file (counts taken) at k) (row_checks file (counts taken) at k) (find_parts file taken at body next k) (row-judged file (counts taken) at k) all

-- ---- the head, after so many rows

module _ (file : List ℕ) (rows : Rows) (few : rows.sorts ≤ sort_count file) (at : ℕ) where
  abbrev before : Taken
  before = taken_before file rows

  counts-before : counts before ≡ rows
  counts-before = ap (λ (n : ℕ). let so_many : Rows = record { sorts = n; terms = rows.terms; thms = rows.thms } in so_many) (length-first_sorts file rows.sorts few)

  pub found-fault : (f : ℕ × K) → FailsFirst (head_checks file rows at) f → find_at file before at ≡ Err f
  found-fault f first = head-stops file before at f (subst (λ (r : Rows). FailsFirst (head_checks file r at) f) (sym counts-before) first)

  pub found-end : statement_at file at ≡ Ok End → AllTaken file rows → find_at file before at ≡ Ok list_ends
  found-end e all = head-ends file before at e (subst (λ (r : Rows). AllTaken file r) (sym counts-before) all)

  module _ (head : Head) (next : IsNextHead file rows at head) where
    pub row-here : AllHold (row_checks file rows head.at head.code)
    row-here = subst (λ (place : ℕ). AllHold (row_checks file rows place head.code)) (sym next.head_is.at_is) (next.row, next.suits)

    pub found-parts : find_at file before at ≡ find_parts file before head.at head.body head.next head.code
    found-parts =
        let there : statement_at file at ≡ Ok (a_head (statement_byte head.code) head.body head.next) =
        subst (λ (place : ℕ). statement_at file place ≡ Ok (a_head (statement_byte head.code) head.body head.next)) next.head_is.at_is next.head_is.stands in
        head-stands file before at head.code head.body head.next there (subst (λ (r : Rows). AllHold (row_checks file r at head.code)) (sym counts-before) (next.row, next.suits))
        ∙ ap (λ (place : ℕ). find_parts file before place head.body head.next head.code) (sym next.head_is.at_is)

-- ---- words and bodies

module _ (file : List ℕ) (taken : Taken) (at body next : ℕ) where
  abbrev bytes : List ℕ
  bytes = body_bytes file body next

  pub sort-parts : (k : StatementCode) → k ≡ codes.Sort → find_parts file taken at body next k ≡ find_empty file (after_kind file taken k) at body next
  sort-parts k e = ap (find_parts file taken at body next) e ∙ sym (ap (λ z. find_empty file (after_kind file taken z) at body next) e)

  -- a term
  abbrev with_body : Bool → Result Found (ℕ × K)
  with_body b = find_term_body file taken at body next (cond b (Some (drop (term_row file taken.terms).stream_at file)) None)

  term-parts : (k : StatementCode) → IsTermKind k → find_parts file taken at body next k ≡ find_term_parts file taken at body next
  term-parts k (inl e) = ap (find_parts file taken at body next) e
  term-parts k (inr e) = ap (find_parts file taken at body next) e

  after-term : (k : StatementCode) → IsTermKind k → with_term taken ≡ after_kind file taken k
  after-term k (inl e) = sym (ap (after_kind file taken) e)
  after-term k (inr e) = sym (ap (after_kind file taken) e)

  pub term-stops : (k : StatementCode) → IsTermKind k → (f : ℕ × K) → FailsFirst (word_checks taken.sorts (term_row file taken.terms)) f → find_parts file taken at body next k ≡ Err f
  term-stops k kind f first =
      let row = term_row file taken.terms in
      term-parts k kind ∙ stops (test_words taken.sorts row) (word_checks taken.sorts row) (with_body row.words.has_body) f (words-judged taken.sorts row) first

  term-goes : (k : StatementCode) → IsTermKind k → AllHold (word_checks taken.sorts (term_row file taken.terms)) → find_parts file taken at body next k ≡ with_body (term_row file taken.terms).words.has_body
  term-goes k kind all =
      let row = term_row file taken.terms in
      term-parts k kind ∙ passes (test_words taken.sorts row) (word_checks taken.sorts row) (with_body row.words.has_body) (words-judged taken.sorts row) all

  pub term-plain : (k : StatementCode) → IsTermKind k → AllHold (word_checks taken.sorts (term_row file taken.terms)) → (term_row file taken.terms).words.has_body ≡ false
      → find_parts file taken at body next k ≡ find_empty file (after_kind file taken k) at body next
  term-plain k kind all is = term-goes k kind all ∙ ap with_body is ∙ ap (λ (z : Taken). find_empty file z at body next) (after-term k kind)

  term-defined : (k : StatementCode) → IsTermKind k → AllHold (word_checks taken.sorts (term_row file taken.terms)) → (term_row file taken.terms).words.has_body ≡ true
      → find_parts file taken at body next k ≡ Ok (has_body (after_kind file taken k) next (definition_of (term_of_file file taken.terms) (drop (term_row file taken.terms).stream_at file)) body bytes)
  term-defined k kind all is =
      term-goes k kind all ∙ ap with_body is
      ∙ ap (λ (z : Taken). Ok (has_body z next (definition_of (term_of_file file taken.terms) (drop (term_row file taken.terms).stream_at file)) body bytes)) (after-term k kind)

  -- an axiom or a theorem
  thm-parts : (k : StatementCode) → IsAssertionKind k → find_parts file taken at body next k ≡ find_thm_parts file taken body next (is_axiom_kind k)
  thm-parts k (inl e) = ap (find_parts file taken at body next) e ∙ sym (ap (λ z. find_thm_parts file taken body next (is_axiom_kind z)) e)
  thm-parts k (inr (inl e)) = ap (find_parts file taken at body next) e ∙ sym (ap (λ z. find_thm_parts file taken body next (is_axiom_kind z)) e)
  thm-parts k (inr (inr e)) = ap (find_parts file taken at body next) e ∙ sym (ap (λ z. find_thm_parts file taken body next (is_axiom_kind z)) e)

  after-thm : (k : StatementCode) → IsAssertionKind k → with_thm taken ≡ after_kind file taken k
  after-thm k (inl e) = sym (ap (after_kind file taken) e)
  after-thm k (inr (inl e)) = sym (ap (after_kind file taken) e)
  after-thm k (inr (inr e)) = sym (ap (after_kind file taken) e)

  abbrev thm_found : Bool → Result Found (ℕ × K)
  thm_found w = Ok (has_body (with_thm taken) next (assertion_of w (thm_of_file file taken.thms)) body bytes)

  pub thm-stops : (k : StatementCode) → IsAssertionKind k → (f : ℕ × K) → FailsFirst (param_checks taken.sorts (thm_row file taken.thms).words_at (thm_row file taken.thms).params) f → find_parts file taken at body next k ≡ Err f
  thm-stops k kind f first =
      let row = thm_row file taken.thms in
      thm-parts k kind
      ∙ stops (test_params taken.sorts row.words_at row.params) (param_checks taken.sorts row.words_at row.params) (thm_found (is_axiom_kind k)) f (params-judged taken.sorts row.words_at row.params) first

  thm-goes : (k : StatementCode) → IsAssertionKind k → AllHold (param_checks taken.sorts (thm_row file taken.thms).words_at (thm_row file taken.thms).params)
      → find_parts file taken at body next k ≡ Ok (has_body (after_kind file taken k) next (assertion_of (is_axiom_kind k) (thm_of_file file taken.thms)) body bytes)
  thm-goes k kind all =
      let row = thm_row file taken.thms in
      thm-parts k kind
      ∙ passes (test_params taken.sorts row.words_at row.params) (param_checks taken.sorts row.words_at row.params) (thm_found (is_axiom_kind k)) (params-judged taken.sorts row.words_at row.params) all
      ∙ ap (λ (z : Taken). Ok (has_body z next (assertion_of (is_axiom_kind k) (thm_of_file file taken.thms)) body bytes)) (after-thm k kind)

-- ---- headings

module _ (file : List ℕ) (rows : Rows) where
  term-heading : (k : StatementCode) → IsTermKind k → definition_of (term_of_file file rows.terms) (drop (term_row file rows.terms).stream_at file) ≡ heading_of file (kind_byte k) (next_row rows k)
  term-heading k (inl e) = sym (ap (λ z. heading_of file (kind_byte z) (next_row rows z)) e)
  term-heading k (inr e) = sym (ap (λ z. heading_of file (kind_byte z) (next_row rows z)) e)

  thm-heading : (k : StatementCode) → IsAssertionKind k → assertion_of (is_axiom_kind k) (thm_of_file file rows.thms) ≡ heading_of file (kind_byte k) (next_row rows k)
  thm-heading k (inl e) = ap (λ z. assertion_of (is_axiom_kind z) (thm_of_file file rows.thms)) e ∙ sym (ap (λ z. heading_of file (kind_byte z) (next_row rows z)) e)
  thm-heading k (inr (inl e)) = ap (λ z. assertion_of (is_axiom_kind z) (thm_of_file file rows.thms)) e ∙ sym (ap (λ z. heading_of file (kind_byte z) (next_row rows z)) e)
  thm-heading k (inr (inr e)) = ap (λ z. assertion_of (is_axiom_kind z) (thm_of_file file rows.thms)) e ∙ sym (ap (λ z. heading_of file (kind_byte z) (next_row rows z)) e)

-- ---- what is seen of a statement whose head is read

module _ (file : List ℕ) (rows : Rows) (head : Head) where
  abbrev taken : Taken
  taken = taken_before file rows

  abbrev parts : Result Found (ℕ × K)
  parts = find_parts file taken head.at head.body head.next head.code

  abbrev with_heading : Heading → Result Found (ℕ × K)
  with_heading h = Ok (has_body (after_kind file taken head.code) head.next h head.body (body_bytes file head.body head.next))

  pub sees-definition : IsTermKind head.code → AllHold (word_checks taken.sorts (term_row file rows.terms)) → (term_row file rows.terms).words.has_body ≡ true → Finds file rows parts (Ok (seen.WithBody head))
  sees-definition kind all is = term-defined file taken head.at head.body head.next head.code kind all is ∙ ap with_heading (term-heading file rows head.code kind)

  pub sees-assertion : IsAssertionKind head.code → AllHold (param_checks taken.sorts (thm_row file rows.thms).words_at (thm_row file rows.thms).params) → Finds file rows parts (Ok (seen.WithBody head))
  sees-assertion kind all = thm-goes file taken head.at head.body head.next head.code kind all ∙ ap with_heading (thm-heading file rows head.code kind)

  -- where nothing is left but an empty body
  pub sees-empty : parts ≡ find_empty file (after_kind file taken head.code) head.at head.body head.next
      → (r : Result Seen (ℕ × K)) → Judges r (empty_checks file head.at head.body head.next) → IfOk r (λ s. s ≡ seen.Alone head) → Finds file rows parts r
  sees-empty e (Err f) j alone =
      e ∙ stops (test (is_empty_body (body_bytes file head.body head.next)) (head.at, rules.StatementLength)) (empty_checks file head.at head.body head.next)
      (Ok (stands_alone (after_kind file taken head.code) head.next)) f (judges-test _ _ _ (empty-decides (body_bytes file head.body head.next))) j
  sees-empty e (Ok s) j alone =
      e ∙ passes (test (is_empty_body (body_bytes file head.body head.next)) (head.at, rules.StatementLength)) (empty_checks file head.at head.body head.next)
      (Ok (stands_alone (after_kind file taken head.code) head.next)) (judges-test _ _ _ (empty-decides (body_bytes file head.body head.next))) j
      ∙ ap (λ (z : Seen). Ok (found_of file rows z)) (sym alone)

  pub is-of : (r : Result Seen (ℕ × K)) → IfOk r (λ s. s ≡ seen.Alone head) → IfOk r (IsOf head)
  is-of (Err f) alone = tt
  is-of (Ok s) alone = subst (IsOf head) (sym alone) refl

  pub of-stands : (at : ℕ) → IsHeadAt file at head → (r : Result Seen (ℕ × K)) → IfOk r (IsOf head) → IfOk r (StandsAt file at)
  of-stands at stands (Err f) is = tt
  of-stands at stands (Ok seen.End) is = absurd is
  of-stands at stands (Ok (seen.Alone other)) is = subst (IsHeadAt file at) (sym is) stands
  of-stands at stands (Ok (seen.WithBody other)) is = subst (IsHeadAt file at) (sym is) stands
