-- A statement whose body is to run: what is asked before it holds.
use Rattle.std.proofs.Common.{◌≡◌, ◌⊎◌, ℕ, Bool, true, false, cond, List, length, drop, Some, None, Result, Ok, Err, refl, sym, subst, inl, inr, arith}
use Rattle.mz_base.specs.Checks.{Checks, AllHold, Judges}
use Rattle.mz_cmd.specs.declared.code.StatementCode.{StatementCode}
use Rattle.mz_cmd.specs.declared.code.StatementCode.TheVariants as codes
use Rattle.mz_cmd.specs.declared.rule.K.{K}
use Rattle.mz_cmd.specs.declared.rule.K.TheVariants as rules
use Rattle.mz_layout_tables.specs.Tables.{TermRow, term_row, thm_row, list_at}
use Rattle.mz_machine_theory.specs.Steps.{◌>>◌ as ◌then◌}
use Rattle.mz_machine_theory.specs.MachineState.{Heading}
use Rattle.mz_layout_tables.specs.RowWords.{param_checks, word_checks}
use Rattle.mz_machine_theory.specs.FileRows.{Taken, thm_of_file}
use Rattle.mz_layout_tables.specs.Heads.{body_bytes, next_row, row_checks}
use Rattle.mz_machine_env.specs.OwnRow.{IsNextRow, MayRun}
use Rattle.mz_machine_theory.specs.Headings.{kind_at}
use Rattle.mz_machine_env.specs.Before.{taken_before}
use Rattle.mz_machine_theory.specs.Lists.{assertion_of}
use Rattle.mz_layout_tables.specs.declared.rows_so_far.Rows.{Rows}
use Rattle.mz_logic_theory.specs.Declaration.{sorts, terms, assertions}
use Rattle.mz_binary_theory.specs.Checking.{counts}
use Rattle.mz_binary_theory.specs.FileRun.{Passing, test, test_params, test_row, test_words, Found, stands_alone, has_body, is_empty_body, with_sort, with_term, with_thm, find_empty, find_term_body, find_term_parts, find_thm_parts, find_parts, find_kind}
use Rattle.mz_binary.specs.Progress.{Progress, IsReached, kind_byte}
use Rattle.mz_binary_theory.proofs.Offered.{params-judged, row-judged, words-judged, then-ok, found-is}
use Rattle.mz_binary.proofs.EarlierWords.{WereRight, were-right}

-- ---- tests that went through

passed : {A : Type 0} (x : Passing) (cs : Checks (ℕ × K)) (y : Result A (ℕ × K)) (z : A) → Judges x cs → (x then y) ≡ Ok z → AllHold cs
passed (Ok p) cs y z j e = j
passed (Err f) cs y z j e = absurd cc

-- a body is to run there
abbrev IsBody : Found → Type 0
IsBody (has_body after next h body bytes) = Unit {0}
IsBody f = ⊥

is-alone : (after : Taken) (next : ℕ) (f : Found) → stands_alone after next ≡ f → IsBody f → ⊥
is-alone after next f e is = subst IsBody (sym e) is

module _ (file : List ℕ) (taken : Taken) (at body next : ℕ) (f : Found) (is : IsBody f) where
  no-empty : (after : Taken) → find_empty file after at body next ≡ Ok f → ⊥
  no-empty after e =
      is-alone after next f
      (found-is (stands_alone after next) f (then-ok (test (is_empty_body (body_bytes file body next)) (at, rules.StatementLength)) (Ok (stands_alone after next)) f e)) is

  defined : (b : Bool) (stream : List ℕ) → find_term_body file taken at body next (cond b (Some stream) None) ≡ Ok f → b ≡ true
  defined true stream e = refl
  defined false stream e = absurd (no-empty (with_term taken) e)

  pub record TermRuns : Type 0 where
    pub is_defined : (term_row file taken.terms).words.has_body ≡ true
    pub right : AllHold (word_checks taken.sorts (term_row file taken.terms))

  term-runs : find_term_parts file taken at body next ≡ Ok f → TermRuns
  term-runs e =
      let row : TermRow = term_row file taken.terms in
      let run : Result Found (ℕ × K) = find_term_body file taken at body next (cond row.words.has_body (Some (drop row.stream_at file)) None) in
      record {
        is_defined = defined row.words.has_body (drop row.stream_at file) (then-ok (test_words taken.sorts row) run f e);
        right = passed (test_words taken.sorts row) (word_checks taken.sorts row) run f (words-judged taken.sorts row) e;
      }

  thm-runs : (w : Bool) → find_thm_parts file taken body next w ≡ Ok f → AllHold (param_checks taken.sorts (thm_row file taken.thms).words_at (thm_row file taken.thms).params)
  thm-runs w e =
      let row = thm_row file taken.thms in
      passed (test_params taken.sorts row.words_at row.params) (param_checks taken.sorts row.words_at row.params)
      (Ok (has_body (with_thm taken) next (assertion_of w (thm_of_file file taken.thms)) body (body_bytes file body next))) f (params-judged taken.sorts row.words_at row.params) e

-- ---- the row may run

module _ (file : List ℕ) (rows : Rows) (at body next : ℕ) (f : Found) (is : IsBody f) where
  abbrev t : Taken
  t = taken_before file rows

  pub record RowMayRun (k : StatementCode) : Type 0 where
    pub kinds : (kind_byte k ≡ 0x02) ⊎ (kind_byte k ≡ 0x05) ⊎ (kind_byte k ≡ 0x06)
    pub next_is : IsNextRow file rows (next_row rows k) (kind_at (kind_byte k))

  by-parts : (k : StatementCode) → AllHold (row_checks file (counts t) at k) → find_parts file t at body next k ≡ Ok f → RowMayRun k
  by-parts codes.Sort row e = absurd (no-empty file t at body next f is (with_sort file t) e)
  by-parts codes.Term row e = let r = term-runs file t at body next f is e in record { kinds = inr (inl refl); next_is = (refl, row.0, r.is_defined, r.right) }
  by-parts codes.LocalDefinition row e = let r = term-runs file t at body next f is e in record { kinds = inr (inl refl); next_is = (refl, row.0, r.is_defined, r.right) }
  by-parts codes.Axiom row e = record { kinds = inl refl; next_is = (refl, row.0, thm-runs file t at body next f is true e) }
  by-parts codes.Theorem row e = record { kinds = inr (inr refl); next_is = (refl, row.0, thm-runs file t at body next f is false e) }
  by-parts codes.LocalTheorem row e = record { kinds = inr (inr refl); next_is = (refl, row.0, thm-runs file t at body next f is false e) }

  row-runs : (k : StatementCode) → find_kind file t at body next (Some k) ≡ Ok f → RowMayRun k
  row-runs k e =
      let test_it : Passing = test_row file (counts t) at k in
      let run : Result Found (ℕ × K) = find_parts file t at body next k in
      by-parts k (passed test_it (row_checks file (counts t) at k) run f (row-judged file (counts t) at k) e) (then-ok test_it run f e)

pub may-run : (p : Progress) (k : StatementCode) (body next : ℕ) (after : Taken) (h : Heading) (place : ℕ) (bytes : List ℕ) → IsReached p
    → find_kind p.file (taken_before p.file p.rows) p.at body next (Some k) ≡ Ok (has_body after next h place bytes) → MayRun p.file (kind_byte k) (next_row p.rows k) p.rows
may-run p k body next after h place bytes reached e =
    let (ss, env, before) = reached.before in
    let row : RowMayRun p.file p.rows p.at body next (has_body after next h place bytes) tt k = row-runs p.file p.rows p.at body next (has_body after next h place bytes) tt k e in
    let right : WereRight p.file (length (sorts env)) (length (terms env)) (length (assertions env)) = were-right p.standard p.file (list_at p.file) ss env p.at before.statements in
    record {
      kinds = row.kinds;
      within = record { sorts_within = reached.sorts_within; terms_within = reached.terms_within; thms_within = reached.thms_within };
      next = row.next_is;
      terms_right = λ t below. let (n, few, words) = right.of_terms t (omega (arith, before.rows.terms_are)) in (n, omega (arith, few, before.rows.sorts_are), words);
      thms_right = λ i below. let (n, few, words) = right.of_thms i (omega (arith, before.rows.thms_are)) in (n, omega (arith, few, before.rows.sorts_are), words);
    }
