-- A statement whose checks hold, as an entry of a list of rows with their bodies.
use Rattle.std.proofs.Common.{◌≡◌, ℕ, Bool, true, false, cond, List, length, drop, Some, None, refl}
use Rattle.std.specs.Prelude.{MatchBool, ⊤}
use Rattle.mz_base.specs.Checks.{Checks, AllHold}
use Rattle.mz_base.proofs.Offered.{all_hold-first, all_hold-rest}
use Rattle.mz_cmd.specs.declared.code.StatementCode.{StatementCode}
use Rattle.mz_cmd.specs.declared.code.StatementCode.TheVariants as codes
use Rattle.mz_cmd.specs.declared.rule.K.{K}
use Rattle.mz_logic_theory.specs.Words.{binders_of, result_of}
use Rattle.mz_logic_theory.specs.declared.binder.SortMods.{SortMods}
use Rattle.mz_logic_theory.specs.declared.word.Word.{Word}
use Rattle.mz_logic_theory.proofs.Offered.{words_say_results}
use Rattle.mz_layout_tables.specs.Tables.{TermRow, mods_of, term_row, thm_row}
use Rattle.mz_machine_theory.specs.Sound.{AreRowParams, IsRowResult}
use Rattle.mz_machine_theory.specs.Lists.{Body, Entry, a_sort, a_term, an_assertion, definition_of, assertion_of, BodyIsGood, IsGoodEntry}
use Rattle.mz_layout_tables.specs.RowWords.{AreParamWords, IsResultWord, param_checks, word_checks}
use Rattle.mz_layout_tables.specs.Heads.{body_bytes}
use Rattle.mz_machine_theory.specs.FileRows.{Taken, stream_of, term_of_file, thm_of_file, rows_taken}
use Rattle.mz_binary_theory.specs.Checking.{term_body_checks, term_checks, thm_checks, kind_checks}
use Rattle.mz_layout_tables.proofs.Offered.{params-right, result-right, right-words, term-params-right}
use Rattle.mz_binary_theory.specs.Standards.{Standard, checks_by, lets_gaps}
use Rattle.mz_binary_theory.proofs.ByTable.{runs-by-table}

-- the body of a statement
abbrev pub body_of : List ℕ → ℕ → ℕ → Body
body_of file body next = record { at = body; bytes = body_bytes file body next }

-- the entry of the next row of a kind
abbrev pub entry_of : List ℕ → Taken → ℕ → ℕ → StatementCode → Entry
entry_of file taken body next codes.Sort = a_sort (mods_of file (length taken.sorts))
entry_of file taken body next codes.Term = a_term false (term_of_file file taken.terms) (body_of file body next)
entry_of file taken body next codes.LocalDefinition = a_term true (term_of_file file taken.terms) (body_of file body next)
entry_of file taken body next codes.Axiom = an_assertion false true (thm_of_file file taken.thms) (body_of file body next)
entry_of file taken body next codes.Theorem = an_assertion false false (thm_of_file file taken.thms) (body_of file body next)
entry_of file taken body next codes.LocalTheorem = an_assertion true false (thm_of_file file taken.thms) (body_of file body next)

-- ---- words

row-params : (ss : List SortMods) (ws : List Word) → AreParamWords ss ws → AreRowParams ss (binders_of ws)
row-params ss ws right = let say = right-words ss ws right in (say.0, say.1)

module _ (ss : List SortMods) (row : TermRow) (all : AllHold (word_checks ss row)) where
  term-params : AreRowParams ss (binders_of row.words.params)
  term-params = row-params ss row.words.params (term-params-right ss row all)

  term-result : IsRowResult ss (binders_of row.words.params) (result_of row.words)
  term-result =
      let right : IsResultWord ss row = result-right ss row all in
      (rw right.named right.may_be, words_say_results row.words)

-- ---- bodies

module _ (standard : Standard) (file : List ℕ) (taken : Taken) (at body next : ℕ) where
  body-good : (is_local b : Bool) (stream : List ℕ) → AllHold (term_body_checks standard file taken at body next (cond b (Some stream) None)) → MatchBool is_local (b ≡ true) ⊤
      → BodyIsGood (lets_gaps standard) (rows_taken file taken) is_local (term_of_file file taken.terms) (body_of file body next) (cond b (Some stream) None)
  body-good is_local true stream all mark = runs-by-table standard (rows_taken file taken) (definition_of (term_of_file file taken.terms) stream) body (body_bytes file body next) all
  body-good true false stream all mark = absurd (let bad : false ≡ true = mark in cc)
  body-good false false stream all mark = refl

  term-good : (is_local : Bool) → MatchBool is_local ((term_row file taken.terms).words.has_body ≡ true) ⊤ → AllHold (term_checks standard file taken at body next) → IsGoodEntry (lets_gaps standard) (rows_taken file taken) (a_term is_local (term_of_file file taken.terms) (body_of file body next))
  term-good is_local mark all =
      let row : TermRow = term_row file taken.terms in
      let words = all_hold-first (word_checks taken.sorts row) (term_body_checks standard file taken at body next (stream_of file row)) all in
      let run = all_hold-rest (word_checks taken.sorts row) (term_body_checks standard file taken at body next (stream_of file row)) all in
      (term-params taken.sorts row words, term-result taken.sorts row words, body-good is_local row.words.has_body (drop row.stream_at file) run mark)

  thm-good : (is_local without_proof : Bool) → (is_local ≡ true → without_proof ≡ false) → AllHold (thm_checks standard file taken body next without_proof)
      → IsGoodEntry (lets_gaps standard) (rows_taken file taken) (an_assertion is_local without_proof (thm_of_file file taken.thms) (body_of file body next))
  thm-good is_local without_proof mark all =
      let row = thm_row file taken.thms in
      let run : Checks (ℕ × K) = checks_by standard (rows_taken file taken) (assertion_of without_proof (thm_of_file file taken.thms)) body (body_bytes file body next) in
      let words = all_hold-first (param_checks taken.sorts row.words_at row.params) run all in
      (mark, row-params taken.sorts row.params (params-right taken.sorts row.words_at row.params words), runs-by-table standard (rows_taken file taken) (assertion_of without_proof (thm_of_file file taken.thms)) body (body_bytes file body next) (all_hold-rest (param_checks taken.sorts row.words_at row.params) run all))

  pub entry-good : (k : StatementCode) → AllHold (kind_checks standard file taken at body next (Some k)) → IsGoodEntry (lets_gaps standard) (rows_taken file taken) (entry_of file taken body next k)
  entry-good codes.Sort all = tt
  entry-good codes.Term all = term-good false tt all.1.1
  entry-good codes.LocalDefinition all = term-good true all.1.0 all.1.1
  entry-good codes.Axiom all = thm-good false true (λ e. absurd cc) all.1
  entry-good codes.Theorem all = thm-good false false (λ e. refl) all.1
  entry-good codes.LocalTheorem all = thm-good true false (λ e. refl) all.1
