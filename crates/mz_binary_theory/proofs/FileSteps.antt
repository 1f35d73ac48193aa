-- The commands executed in a whole file are bounded.
use Rattle.std.proofs.Common.{◌≡◌, ◌≤◌, ◌+◌, ◌-◌, ◌*◌, ℕ, zero, suc, Bool, true, false, cond, List, [], ◌∷◌, length, map, drop, Option, Some, None, Result, Ok, Err, refl, sym, ap, subst, ◌∙◌, arith, mul-suc}
use Rattle.std.specs.Prelude.{slice_get}
use Rattle.std.specs.List.{range_with_len}
use Rattle.std.proofs.lemmas.List.{length-drop, length-take}
use Rattle.mz_cmd.specs.declared.code.StatementCode.{StatementCode}
use Rattle.mz_cmd.specs.declared.code.StatementCode.TheVariants as codes
use Rattle.mz_cmd.specs.declared.rule.K.{K}
use Rattle.mz_cmd.specs.declared.rule.K.TheVariants as rules
use Rattle.mz_cmd.specs.declared.statement.StmtAt.{StmtAt}
use Rattle.mz_cmd.specs.declared.statement.StmtAt.TheVariants.{End, Head}
use Rattle.mz_cmd.specs.declared.statement.StmtFault.{StmtFault}
use Rattle.mz_cmd.specs.Codes.{statement_code}
use Rattle.mz_cmd.specs.StatementList.{statement_at}
use Rattle.mz_layout_tables.specs.Tables.{TermRow, list_at, term_row, thm_row}
use Rattle.mz_layout_tables.specs.Heads.{body_bytes}
use Rattle.mz_machine_theory.specs.Steps.{◌>>=◌, ◌>>◌ as ◌then◌}
use Rattle.mz_machine_theory.specs.Spells.{SpelledTerm, SpelledThm}
use Rattle.mz_machine_theory.specs.MachineState.{Heading}
use Rattle.mz_machine_theory.specs.Laws.{StreamsWithin}
use Rattle.mz_machine_theory.specs.Lists.{assertion_of}
use Rattle.mz_machine_theory.proofs.Offered.{steps-le, times-grow, add-times}
use Rattle.mz_machine_theory.specs.FileRows.{Taken, nothing_taken, stream_of, term_of_file, thm_of_file, rows_taken}
use Rattle.mz_binary_theory.specs.Checking.{counts}
use Rattle.mz_binary_theory.specs.FileRun.{Passing, test, test_params, test_words, is_empty_body, with_sort, with_term, with_thm, all_taken, test_row, Found, list_ends, stands_alone, has_body, onward, if_runs, run_found, find_empty, find_term_body, find_term_parts, find_thm_parts, find_parts, find_kind, find_of, find_at, test_layout, found_steps, follow_steps, list_steps, steps_after}
use Rattle.mz_binary_theory.specs.WholeLaws.{StepsAreFew, StepsOfAFile}
use Rattle.mz_binary_theory.proofs.Heads.{head-at}
use Rattle.mz_binary_theory.specs.Standards.{Standard, published, run_by}
use Rattle.mz_base.specs.declared.mode.Mode.{Mode}
use Rattle.mz_base.specs.Gaps.{gaps_of}
use Rattle.mz_machine_theory.specs.Profile.{Profile, plain}
use Rattle.mz_machine_theory.specs.Bodies.{body_start}

-- ---- streams lie within the file

mapped : {A B : Type 0} (f : A → B) (xs : List A) (i : ℕ) (y : B) → slice_get (map f xs) i ≡ Some y → (x : A) × (y ≡ f x)
mapped f [] i y e = absurd cc
mapped f (x ∷ xs) zero y e = (x, (let same : f x ≡ y = cc in sym same))
mapped f (x ∷ xs) (suc i) y e = mapped f xs i y e

dropped : (n : ℕ) (file : List ℕ) → length (drop n file) ≤ length file
dropped n file = omega (arith, length-drop n file)

stream-within : (file stream : List ℕ) (at : ℕ) (b : Bool) → cond b (Some (drop at file)) None ≡ Some stream → length stream ≤ length file
stream-within file stream at true e = let same : drop at file ≡ stream = cc in subst (λ z. length z ≤ length file) same (dropped at file)
stream-within file stream at false e = absurd cc

streams-within : (file : List ℕ) (taken : Taken) (h : Heading) → length h.stream ≤ length file → StreamsWithin (rows_taken file taken) h (length file)
streams-within file taken h own = record {
  own = own;
  of_terms = λ t row stream at is.
      let (i, row-is) = mapped (term_of_file file) (range_with_len 0 taken.terms) t row at in
      stream-within file stream (term_row file i).stream_at (term_row file i).words.has_body (sym (ap (λ (r : SpelledTerm). r.stream) row-is) ∙ is);
  of_thms = λ t row at.
      let (i, row-is) = mapped (thm_of_file file) (range_with_len 0 taken.thms) t row at in
      subst (λ (r : SpelledThm). length r.stream ≤ length file) (sym row-is) (dropped (thm_row file i).stream_at file);
}

-- ---- what is found

-- a body that is to run stands between these places, and its stream in the file
abbrev Within : List ℕ → ℕ → ℕ → Result Found (ℕ × K) → Type 0
Within file body next (Err r) = Unit {0}
Within file body next (Ok list_ends) = Unit {0}
Within file body next (Ok (stands_alone after to)) = to ≡ next
Within file body next (Ok (has_body after to h at bytes)) = (to ≡ next) × (bytes ≡ body_bytes file body next) × (length h.stream ≤ length file)

module _ (file : List ℕ) (body next : ℕ) where
  then-within : (x : Passing) (y : Result Found (ℕ × K)) → Within file body next y → Within file body next (x then y)
  then-within (Ok p) y w = w
  then-within (Err r) y w = tt

  empty-within : (after : Taken) (at : ℕ) → Within file body next (find_empty file after at body next)
  empty-within after at = then-within (test (is_empty_body (body_bytes file body next)) (at, rules.StatementLength)) (Ok (stands_alone after next)) refl

  term-body-within : (taken : Taken) (at : ℕ) (b : Bool) (s : ℕ) → Within file body next (find_term_body file taken at body next (cond b (Some (drop s file)) None))
  term-body-within taken at true s = (refl, refl, dropped s file)
  term-body-within taken at false s = empty-within (with_term taken) at

  term-within : (taken : Taken) (at : ℕ) → Within file body next (find_term_parts file taken at body next)
  term-within taken at =
      let row : TermRow = term_row file taken.terms in
      then-within (test_words taken.sorts row) (find_term_body file taken at body next (stream_of file row)) (term-body-within taken at row.words.has_body row.stream_at)

  thm-within : (taken : Taken) (w : Bool) → Within file body next (find_thm_parts file taken body next w)
  thm-within taken w =
      let row = thm_row file taken.thms in
      then-within (test_params taken.sorts row.words_at row.params) (Ok (has_body (with_thm taken) next (assertion_of w (thm_of_file file taken.thms)) body (body_bytes file body next))) (refl, refl, dropped row.stream_at file)

  parts-within : (taken : Taken) (at : ℕ) (k : StatementCode) → Within file body next (find_parts file taken at body next k)
  parts-within taken at codes.Sort = empty-within (with_sort file taken) at
  parts-within taken at codes.Term = term-within taken at
  parts-within taken at codes.LocalDefinition = term-within taken at
  parts-within taken at codes.Axiom = thm-within taken true
  parts-within taken at codes.Theorem = thm-within taken false
  parts-within taken at codes.LocalTheorem = thm-within taken false

  kind-within : (taken : Taken) (at : ℕ) (o : Option StatementCode) → Within file body next (find_kind file taken at body next o)
  kind-within taken at None = tt
  kind-within taken at (Some k) = then-within (test_row file (counts taken) at k) (find_parts file taken at body next k) (parts-within taken at k)

-- ---- a place

-- the commands executed at a place and after it
abbrev Steps : Standard → List ℕ → Taken → (Taken → ℕ → ℕ) → Result Found (ℕ × K) → ℕ
Steps standard file taken rest r = found_steps standard file taken r + follow_steps (r >>= run_found standard file taken) rest

module _ (standard : Standard) (few : StepsAreFew standard) (file : List ℕ) (taken : Taken) (rest : Taken → ℕ → ℕ)
    (rest-le : (after : Taken) (to : ℕ) → to ≤ length file → rest after to ≤ (length file - to) * (length file + 1)) where
  abbrev n : ℕ
  n = length file

  two-parts : (at body next : ℕ) (a b : ℕ) → at ≤ body → body ≤ next → next ≤ n → a ≤ (next - body) * (n + 1) → b ≤ (n - next) * (n + 1) → a + b ≤ (n - at) * (n + 1)
  two-parts at body next a b p q r small rest-small =
      let sum : ((next - body) + (n - next)) * (n + 1) ≡ (next - body) * (n + 1) + (n - next) * (n + 1) = add-times (next - body) (n - next) (n + 1) in
      let grow : ((next - body) + (n - next)) * (n + 1) ≤ (n - at) * (n + 1) = times-grow ((next - body) + (n - next)) (n - at) (n + 1) (omega arith) in
      omega (arith, sum, grow)

  if-le : {A : Type 0} (r : Result A (ℕ × K)) (after : Taken) (to bound : ℕ) → rest after to ≤ bound → follow_steps (if_runs r (onward after to)) rest ≤ bound
  if-le (Ok x) after to bound le = le
  if-le (Err f) after to bound le = omega arith

  found-le : (at body next : ℕ) (r : Result Found (ℕ × K)) → at ≤ body → body ≤ next → next ≤ n → Within file body next r → Steps standard file taken rest r ≤ (n - at) * (n + 1)
  found-le at body next (Err f) p q l w = omega arith
  found-le at body next (Ok list_ends) p q l w = omega arith
  found-le at body next (Ok (stands_alone after to)) p q l w =
      two-parts at body next 0 (rest after to) p q l (omega arith) (subst (λ (z : ℕ). rest after to ≤ (n - z) * (n + 1)) w (rest-le after to (omega (arith, w))))
  found-le at body next (Ok (has_body after to h place bytes)) p q l (to-is, bytes-are, own) =
      let long : length bytes ≤ next - body = omega (arith, ap length bytes-are, length-take (next - body) (drop body file)) in
      let run : standard.steps (rows_taken file taken) h place bytes ≤ length bytes * (n + 1) =
      few (rows_taken file taken) h n (streams-within file taken h own) place bytes in
      let within : standard.steps (rows_taken file taken) h place bytes ≤ (next - body) * (n + 1) = omega (arith, run, times-grow (length bytes) (next - body) (n + 1) long) in
      two-parts at body next (standard.steps (rows_taken file taken) h place bytes) _ p q l within
      (if-le (run_by standard (rows_taken file taken) h place bytes) after to _ (subst (λ (z : ℕ). rest after to ≤ (n - z) * (n + 1)) to-is (rest-le after to (omega (arith, to-is)))))

  by-place : (at : ℕ) (there : Result StmtAt StmtFault) → statement_at file at ≡ there → Steps standard file taken rest (find_of file taken at there) ≤ (n - at) * (n + 1)
  by-place at (Err f) is = omega arith
  by-place at (Ok End) is = ends-le (test (all_taken file (counts taken)) (at, rules.RowsLeft))
    where
      ends-le : (x : Passing) → Steps standard file taken rest (x then Ok list_ends) ≤ (n - at) * (n + 1)
      ends-le (Ok p) = omega arith
      ends-le (Err f) = omega arith
  by-place at (Ok (Head code body next)) is =
      let head = head-at file at code body next is in
      found-le at body next (find_kind file taken at body next (statement_code code)) head.before head.order head.within (kind-within file body next taken at (statement_code code))

  place-le : (at : ℕ) → Steps standard file taken rest (find_at file taken at) ≤ (n - at) * (n + 1)
  unfolding find_at
  place-le at = by-place at (statement_at file at) refl

-- ---- the list, and the file

list-le : (standard : Standard) → StepsAreFew standard → (file : List ℕ) (bound : ℕ) (taken : Taken) (at : ℕ) → list_steps standard file bound taken at ≤ (length file - at) * (length file + 1)
unfolding list_steps
list-le standard few file zero taken at = omega arith
list-le standard few file (suc bound) taken at = place-le standard few file taken (λ after next. list_steps standard file bound after next) (λ after to le. list-le standard few file bound after to) at

pub steps-by-table : (mode : Mode) → StepsAreFew (published mode)
steps-by-table mode tables h n within at bytes =
    let machine : Profile = plain (gaps_of mode) in
    steps-le machine tables h n within (length bytes) (length bytes) at bytes (body_start machine h) (omega arith)

pub steps-of-file : StepsOfAFile
steps-of-file standard few file = go (test_layout file)
  where
    go : (r : Passing) → steps_after r (list_steps standard file (length file + 1) nothing_taken (list_at file)) ≤ length file * length file + length file
    go (Err f) = omega arith
    go (Ok x) =
        let one : length file + 1 ≡ suc (length file) = omega arith in
        let square : length file * (length file + 1) ≡ length file * length file + length file = ap (λ (z : ℕ). length file * z) one ∙ mul-suc (length file) (length file) in
        omega (arith, list-le standard few file (length file + 1) nothing_taken (list_at file), times-grow (length file - list_at file) (length file) (length file + 1) (omega arith), square)
