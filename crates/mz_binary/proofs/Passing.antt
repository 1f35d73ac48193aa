-- Past one statement more.
use Rattle.std.proofs.Common.{◌≡◌, ◌⊎◌, ◌<◌, ◌≤◌, ◌+◌, ◌∙◌, ℕ, Bool, true, false, List, [], ◌∷◌, ◌++◌, length, Some, Result, Ok, Err, refl, sym, ap, subst, inl, inr, arith, length-append}
use Rattle.std.specs.Prelude.{◌↔◌, MatchBool, if◌then◌else◌}
use Rattle.mz_base.specs.Checks.{AllHold, Judges}
use Rattle.mz_cmd.specs.declared.code.StatementCode.{StatementCode}
use Rattle.mz_cmd.specs.declared.code.StatementCode.TheVariants as codes
use Rattle.mz_cmd.specs.declared.rule.K.{K}
use Rattle.mz_cmd.specs.declared.rule.Refusal.{Refusal}
use Rattle.mz_cmd.specs.declared.statement.StmtAt.TheVariants as there
use Rattle.mz_cmd.specs.Codes.{statement_byte}
use Rattle.mz_cmd.specs.StatementList.{statement_at}
use Rattle.mz_logic_theory.specs.Tree.{Tree}
use Rattle.mz_logic_theory.specs.Declaration.{Declaration, sort_decl, term_decl, assertion_decl, sorts, assertions}
use Rattle.mz_logic_theory.specs.LegalLists.{Statement}
use Rattle.mz_layout_tables.specs.Tables.{list_at, mods_of, sort_count, term_count, thm_count}
use Rattle.mz_layout_tables.specs.Layout.{IsBinary}
use Rattle.mz_machine_theory.specs.Steps.{◌>>=◌}
use Rattle.mz_machine_theory.specs.MachineState.{Heading, Kind, State}
use Rattle.mz_machine_theory.specs.Headings.{heading_by, kind_at}
use Rattle.mz_machine_env.specs.Before.{tables_before, taken_before}
use Rattle.mz_binary.specs.declared.statement.Found.TheVariants as seen
use Rattle.mz_layout_tables.specs.declared.head.Head.{Head}
use Rattle.mz_layout_tables.specs.declared.rows_so_far.Rows.{Rows}
use Rattle.mz_layout_tables.specs.Heads.{IsHead, body_bytes, next_row, rows_after}
use Rattle.mz_binary_theory.specs.declared.statement.Statement.{Statement as Reported}
use Rattle.mz_machine_theory.specs.FileRows.{Taken, taken_by}
use Rattle.mz_binary_theory.specs.Spelling.{IsKindOf, HasKind, IsSpelled, is_local_code}
use Rattle.mz_binary_theory.specs.Checking.{kind_checks, place_checks}
use Rattle.mz_binary_theory.specs.FileRun.{with_term, with_thm, Found, list_ends, has_body, Onward, ended, onward, if_runs, after_kind, find_at, found_steps, run_found, run_place, RunsBody}
use Rattle.mz_binary_theory.specs.Chains.{IsGoodStatement, GoodTo}
use Rattle.mz_binary_theory.specs.Good.{Good, FailsAfter}
use Rattle.mz_binary.specs.Progress.{Progress, HasPassed, found_of, CountsRows, IsReached, RestsOnGap, marks_past, kind_byte, is_local_kind, kind_code, row_after}
use Rattle.mz_binary_theory.specs.Gapped.{AreMarks}
use Rattle.mz_binary.specs.Judging.{Passes}
use Rattle.mz_binary_theory.proofs.Offered.{code-of, head-at, IsHeadAt, chain-more, place-judged, ends-there, FollowedBy, followed, well-chain, at-head, no-assertion}
use Rattle.mz_binary.proofs.GapMarks.{kind-tells, NewMark, new-mark}
use Rattle.mz_binary.proofs.TakenSoFar.{taken}
use Rattle.mz_binary_theory.specs.Standards.{Standard, lets_gaps, run_by}

-- ---- kinds

mark-of : (k : StatementCode) → is_local_kind k ≡ is_local_code (statement_byte k)
mark-of codes.Axiom = refl
mark-of codes.Sort = refl
mark-of codes.Term = refl
mark-of codes.Theorem = refl
mark-of codes.LocalDefinition = refl
mark-of codes.LocalTheorem = refl

-- the kind that is reported, and the row
pub record IsReported (rows : Rows) (env : List Declaration) (k : StatementCode) (d : Declaration) : Type 0 where
  pub kind : kind_byte k ≡ kind_code d
  pub row : next_row rows k ≡ row_after env d

axiom-told : (code : ℕ) (b : Bool) → code ≡ 0x02 → MatchBool b (code ≡ 0x02) ((code ≡ 0x06) ⊎ (code ≡ 0x0E)) → kind_byte codes.Axiom ≡ (if b then 0x02 else 0x06)
axiom-told code true e h = refl
axiom-told code false e (inl h) = absurd (omega arith)
axiom-told code false e (inr h) = absurd (omega arith)

theorem-told : (code : ℕ) (b : Bool) → (code ≡ 0x06) ⊎ (code ≡ 0x0E) → MatchBool b (code ≡ 0x02) ((code ≡ 0x06) ⊎ (code ≡ 0x0E)) → kind_byte codes.Theorem ≡ (if b then 0x02 else 0x06)
theorem-told code true (inl e) h = absurd (omega arith)
theorem-told code true (inr e) h = absurd (omega arith)
theorem-told code false is h = refl

module _ (rows : Rows) (env : List Declaration) (counts : CountsRows rows env) where
  is-reported : (k : StatementCode) (d : Declaration) → IsKindOf (statement_byte k) d → IsReported rows env k d
  is-reported codes.Sort (sort_decl m) h = record { kind = refl; row = counts.sorts_are }
  is-reported codes.Axiom (sort_decl m) h = absurd cc
  is-reported codes.Term (sort_decl m) h = absurd cc
  is-reported codes.Theorem (sort_decl m) h = absurd cc
  is-reported codes.LocalDefinition (sort_decl m) h = absurd cc
  is-reported codes.LocalTheorem (sort_decl m) h = absurd cc
  is-reported codes.Term (term_decl d) h = record { kind = refl; row = counts.terms_are }
  is-reported codes.LocalDefinition (term_decl d) h = record { kind = refl; row = counts.terms_are }
  is-reported codes.Sort (term_decl d) (inl h) = absurd cc
  is-reported codes.Sort (term_decl d) (inr h) = absurd cc
  is-reported codes.Axiom (term_decl d) (inl h) = absurd cc
  is-reported codes.Axiom (term_decl d) (inr h) = absurd cc
  is-reported codes.Theorem (term_decl d) (inl h) = absurd cc
  is-reported codes.Theorem (term_decl d) (inr h) = absurd cc
  is-reported codes.LocalTheorem (term_decl d) (inl h) = absurd cc
  is-reported codes.LocalTheorem (term_decl d) (inr h) = absurd cc
  is-reported codes.Sort (assertion_decl a) h = absurd (no-assertion 0x04 a.is_axiom (inl refl) h)
  is-reported codes.Term (assertion_decl a) h = absurd (no-assertion 0x05 a.is_axiom (inr (inl refl)) h)
  is-reported codes.LocalDefinition (assertion_decl a) h = absurd (no-assertion 0x0D a.is_axiom (inr (inr refl)) h)
  is-reported codes.Axiom (assertion_decl a) h = record { kind = axiom-told 0x02 a.is_axiom refl h; row = counts.thms_are }
  is-reported codes.Theorem (assertion_decl a) h = record { kind = theorem-told 0x06 a.is_axiom (inl refl) h; row = counts.thms_are }
  is-reported codes.LocalTheorem (assertion_decl a) h = record { kind = theorem-told 0x0E a.is_axiom (inr refl) h; row = counts.thms_are }

  -- ---- rows

  counts-sort : (file : List ℕ) (env' : List Declaration) → taken_by env' ≡ after_kind file (taken_by env) codes.Sort → CountsRows (rows_after rows codes.Sort) env'
  counts-sort file env' e = record {
    sorts_are = omega (arith, counts.sorts_are, ap (λ (t : Taken). length t.sorts) e, length-append (sorts env) (mods_of file (length (sorts env)) ∷ []));
    terms_are = counts.terms_are ∙ sym (ap (λ (t : Taken). t.terms) e);
    thms_are = counts.thms_are ∙ sym (ap (λ (t : Taken). t.thms) e);
  }

  counts-term : (env' : List Declaration) → taken_by env' ≡ with_term (taken_by env) → CountsRows (rows_after rows codes.Term) env'
  counts-term env' e = record {
    sorts_are = counts.sorts_are ∙ sym (ap (λ (t : Taken). length t.sorts) e);
    terms_are = ap (λ (n : ℕ). n + 1) counts.terms_are ∙ sym (ap (λ (t : Taken). t.terms) e);
    thms_are = counts.thms_are ∙ sym (ap (λ (t : Taken). t.thms) e);
  }

  counts-thm : (env' : List Declaration) → taken_by env' ≡ with_thm (taken_by env) → CountsRows (rows_after rows codes.Axiom) env'
  counts-thm env' e = record {
    sorts_are = counts.sorts_are ∙ sym (ap (λ (t : Taken). length t.sorts) e);
    terms_are = counts.terms_are ∙ sym (ap (λ (t : Taken). t.terms) e);
    thms_are = ap (λ (n : ℕ). n + 1) counts.thms_are ∙ sym (ap (λ (t : Taken). t.thms) e);
  }

  counts-past : (file : List ℕ) (k : StatementCode) (env' : List Declaration) → taken_by env' ≡ after_kind file (taken_by env) k → CountsRows (rows_after rows k) env'
  counts-past file codes.Sort env' e = counts-sort file env' e
  counts-past file codes.Term env' e = counts-term env' e
  counts-past file codes.LocalDefinition env' e = counts-term env' e
  counts-past file codes.Axiom env' e = counts-thm env' e
  counts-past file codes.Theorem env' e = counts-thm env' e
  counts-past file codes.LocalTheorem env' e = counts-thm env' e

-- all rows of the file are enough for these, and so many statements took them
pub record RowsWithin (file : List ℕ) (rows : Rows) (passed : ℕ) : Type 0 where
  pub sorts_within : rows.sorts ≤ sort_count file
  pub terms_within : rows.terms ≤ term_count file
  pub thms_within : rows.thms ≤ thm_count file
  pub many : passed ≡ rows.sorts + rows.terms + rows.thms

module _ (standard : Standard) (file : List ℕ) (rows : Rows) (env : List Declaration) (counts : CountsRows rows env) (at body next passed : ℕ) (before : RowsWithin file rows passed) where
  pub within-past : (k : StatementCode) → AllHold (kind_checks standard file (taken_by env) at body next (Some k)) → RowsWithin file (rows_after rows k) (passed + 1)
  within-past codes.Sort all = record { sorts_within = omega (arith, all.0, counts.sorts_are); terms_within = before.terms_within; thms_within = before.thms_within; many = omega (arith, before.many) }
  within-past codes.Term all = record { sorts_within = before.sorts_within; terms_within = omega (arith, all.0, counts.terms_are); thms_within = before.thms_within; many = omega (arith, before.many) }
  within-past codes.LocalDefinition all = record { sorts_within = before.sorts_within; terms_within = omega (arith, all.0, counts.terms_are); thms_within = before.thms_within; many = omega (arith, before.many) }
  within-past codes.Axiom all = record { sorts_within = before.sorts_within; terms_within = before.terms_within; thms_within = omega (arith, all.0, counts.thms_are); many = omega (arith, before.many) }
  within-past codes.Theorem all = record { sorts_within = before.sorts_within; terms_within = before.terms_within; thms_within = omega (arith, all.0, counts.thms_are); many = omega (arith, before.many) }
  within-past codes.LocalTheorem all = record { sorts_within = before.sorts_within; terms_within = before.terms_within; thms_within = omega (arith, all.0, counts.thms_are); many = omega (arith, before.many) }

-- ---- what is found runs

pub run-of : (standard : Standard) (file : List ℕ) (t : Taken) (at : ℕ) (f : Found) → find_at file t at ≡ Ok f → run_place standard file t at ≡ run_found standard file t f
run-of standard file t at f e = ap (λ r. r >>= run_found standard file t) e

-- with its body, under the heading of the kind and the row
module _ (standard : Standard) (file : List ℕ) (rows : Rows) (at : ℕ) (head : Head) (there : find_at file (taken_before file rows) at ≡ Ok (found_of file rows (seen.WithBody head)))
    (kind : Kind) (row : ℕ) (kind-is : kind ≡ kind_at (kind_byte head.code)) (row-is : row ≡ next_row rows head.code) where
  abbrev on : Onward
  on = onward (after_kind file (taken_before file rows) head.code) head.next

  abbrev run : Result (State Tree) (ℕ × K)
  run = run_by standard (tables_before file rows) (heading_by file row kind) head.body (body_bytes file head.body head.next)

  run-is : run_place standard file (taken_before file rows) at ≡ if_runs run on
  run-is =
      subst (λ (n : ℕ). run_place standard file (taken_before file rows) at ≡ if_runs (run_by standard (tables_before file rows) (heading_by file n kind) head.body (body_bytes file head.body head.next)) on) (sym row-is)
      (subst (λ (k : Kind). run_place standard file (taken_before file rows) at ≡ if_runs (run_by standard (tables_before file rows) (heading_by file (next_row rows head.code) k) head.body (body_bytes file head.body head.next)) on) (sym kind-is)
      (run-of standard file (taken_before file rows) at (found_of file rows (seen.WithBody head)) there))

  pub body-runs : (last : State Tree) → run ≡ Ok last → run_place standard file (taken_before file rows) at ≡ Ok on
  body-runs last is = run-is ∙ ap (λ (r : Result (State Tree) (ℕ × K)). if_runs r on) is

  abbrev counted : ℕ → Kind → ℕ
  counted r k = standard.steps (tables_before file rows) (heading_by file r k) head.body (body_bytes file head.body head.next)

  steps-there : found_steps standard file (taken_before file rows) (find_at file (taken_before file rows) at) ≡ counted row kind
  steps-there = ap (found_steps standard file (taken_before file rows)) there ∙ ap (λ (r : ℕ). counted r (kind_at (kind_byte head.code))) (sym row-is) ∙ ap (counted row) (sym kind-is)

  pub body-counts : (old new : ℕ) → new ≡ old + counted row kind → new ≡ old + found_steps standard file (taken_before file rows) (find_at file (taken_before file rows) at)
  body-counts old new is = is ∙ ap (λ (n : ℕ). old + n) (sym steps-there)

  pub body-stops : (f : ℕ × K) → run ≡ Err f → run_place standard file (taken_before file rows) at ≡ Err f
  body-stops f is = run-is ∙ ap (λ (r : Result (State Tree) (ℕ × K)). if_runs r on) is

-- ---- what stops the checker

module _ (p : Progress) (ss : List Statement) (env : List Declaration) (before : HasPassed p ss env) where
  -- the place is judged after what env declares
  judged-here : (r : Result Onward (ℕ × K)) → run_place p.standard p.file (taken_before p.file p.rows) p.at ≡ r → Judges r (place_checks p.standard p.file (taken_by env) p.at)
  judged-here r e =
      subst (λ (x : Result Onward (ℕ × K)). Judges x (place_checks p.standard p.file (taken_by env) p.at)) (ap (λ t. run_place p.standard p.file t p.at) (taken p ss env before) ∙ e) (place-judged p.standard p.file (taken_by env) p.at)

  -- the first rule that fails after the statements before
  pub fails-here : (refusal : Refusal) → IsReached p → refusal.statement ≡ p.passed + 1 → run_place p.standard p.file (taken_before p.file p.rows) p.at ≡ Err (refusal.at, refusal.rule) → FailsAfter p.standard p.file ss env p.at refusal
  fails-here refusal reached number e =
      record { layout = reached.binary.layout; statements = before.statements; number = omega (arith, number, before.many); fails = judged-here (Err (refusal.at, refusal.rule)) e }

  found-here : (f : Found) → find_at p.file (taken_before p.file p.rows) p.at ≡ Ok f → find_at p.file (taken_by env) p.at ≡ Ok f
  found-here f e = ap (λ t. find_at p.file t p.at) (taken p ss env before) ∙ e

  -- the list's end after the statements before
  pub ends-here : IsReached p → find_at p.file (taken_before p.file p.rows) p.at ≡ Ok list_ends → Good p.standard p.file ss
  ends-here reached e =
      let ran : run_place p.standard p.file (taken_by env) p.at ≡ Ok ended = run-of p.standard p.file (taken_by env) p.at list_ends (found-here list_ends e) in
      record {
        layout = reached.binary.layout;
        env = env;
        to = p.at;
        statements = before.statements;
        ends = record {
          ends = ends-there p.standard p.file (taken_by env) p.at ran;
          passes = subst (λ (x : Result Onward (ℕ × K)). Judges x (place_checks p.standard p.file (taken_by env) p.at)) ran (place-judged p.standard p.file (taken_by env) p.at);
        };
      }

  pub body-here : (after : Taken) (next : ℕ) (h : Heading) (body : ℕ) (bytes : List ℕ) → find_at p.file (taken_before p.file p.rows) p.at ≡ Ok (has_body after next h body bytes) → RunsBody p.file (taken_by env) p.at
  body-here after next h body bytes e = (after, next, h, body, bytes, found-here (has_body after next h body bytes) e)

  -- ---- a good statement

  module _ (head : Head) (stands : IsHead p.file head) (place : head.at ≡ p.at) (ran : run_place p.standard p.file (taken_before p.file p.rows) p.at ≡ Ok (onward (after_kind p.file (taken_before p.file p.rows) head.code) head.next)) where
    stands-there : statement_at p.file p.at ≡ Ok (there.Head (statement_byte head.code) head.body head.next)
    stands-there = subst (λ at. statement_at p.file at ≡ Ok (there.Head (statement_byte head.code) head.body head.next)) place stands

    passes-all : AllHold (place_checks p.standard p.file (taken_by env) p.at)
    passes-all = judged-here (Ok (onward (after_kind p.file (taken_before p.file p.rows) head.code) head.next)) ran

    kind-holds : AllHold (kind_checks p.standard p.file (taken_by env) p.at head.body head.next (Some head.code))
    kind-holds = at-head p.standard p.file env p.at (statement_byte head.code) head.body head.next head.code stands-there (code-of head.code) passes-all

    follows : FollowedBy p.standard p.file env p.at head.body head.next head.code
    follows =
        let (legal, declares) = well-chain p.standard p.file [] (list_at p.file) ss env p.at before.statements tt (record { sorts_are = refl; terms_are = tt; thms_are = tt }) in
        followed p.standard p.file env p.at (statement_byte head.code) head.body head.next stands-there head.code (code-of head.code) legal declares kind-holds

-- the checker and what it says, past a statement
pub record IsPast (p after : Progress) (told : Reported) (head : Head) : Type 0 where
  pub same_file : after.file ≡ p.file
  pub same_standard : after.standard ≡ p.standard
  pub goes_on : after.at ≡ head.next
  pub one_more : after.passed ≡ p.passed + 1
  pub rows_are : after.rows ≡ rows_after p.rows head.code
  pub number : told.number ≡ p.passed + 1
  pub place : told.at ≡ p.at
  pub kind : told.kind ≡ kind_byte head.code
  pub row : told.row ≡ next_row p.rows head.code
  pub mark : told.local ≡ is_local_kind head.code
  pub gap : (told.gap ≡ true) ↔ RestsOnGap p head
  pub marks_are : after.marks ≡ marks_past (lets_gaps p.standard) head.code told.gap p.marks

spelled-kind : (file : List ℕ) (env : List Declaration) (at : ℕ) (s : Statement) (next code body : ℕ) → IsSpelled file env at s next → statement_at file at ≡ Ok (there.Head code body next) → HasKind code s
spelled-kind file env at s next code body sp e =
    let both : Ok (there.Head sp.code sp.body next) ≡ Ok (there.Head code body next) = sym sp.stands ∙ e in
    let same : sp.code ≡ code = cc in
    subst (λ (z : ℕ). HasKind z s) same sp.kind

module _ (p after : Progress) (told : Reported) (head : Head) (past : IsPast p after told head) (stands : IsHead p.file head) (place : head.at ≡ p.at)
    (ran : run_place p.standard p.file (taken_before p.file p.rows) p.at ≡ Ok (onward (after_kind p.file (taken_before p.file p.rows) head.code) head.next)) where
  module _ (ss : List Statement) (env : List Declaration) (before : HasPassed p ss env) where
    f : FollowedBy p.standard p.file env p.at head.body head.next head.code
    f = follows p ss env before head stands place ran

    abbrev s : Statement
    s = f.statement

    good : IsGoodStatement p.standard p.file env p.at s after.at
    good = subst (λ (to : ℕ). IsGoodStatement p.standard p.file env p.at s to) (sym past.goes_on) (record { spelled = f.spelled; passes = passes-all p ss env before head stands place ran })

    kind-is : HasKind (statement_byte head.code) s
    kind-is = spelled-kind p.file env p.at s head.next (statement_byte head.code) head.body f.spelled (stands-there p ss env before head stands place ran)

    -- the flags with the new one, and whether the new one is a tainted theorem's
    news : lets_gaps p.standard ≡ true → NewMark p.file ss p.at s head.code (marks_past true head.code told.gap p.marks) told.gap (length (assertions env))
    news mode =
        new-mark p.standard p.file ss env p.at before.statements s head.code head.body head.next (stands-there p ss env before head stands place ran) (kind-tells head.code s.decl kind-is.0) p.marks (before.marks mode) told.gap
        (λ h. let (m, k, why) = past.gap.0 h in (k, why), λ (k, why). past.gap.1 (mode, k, why))

    marks-after : lets_gaps p.standard ≡ true → AreMarks after.file (ss ++ s ∷ []) after.marks
    marks-after mode =
        subst (λ file. AreMarks file (ss ++ s ∷ []) after.marks) (sym past.same_file)
        (subst (AreMarks p.file (ss ++ s ∷ [])) (sym (past.marks_are ∙ ap (λ g. marks_past g head.code told.gap p.marks) mode)) (news mode).are)

    passed : HasPassed after (ss ++ s ∷ []) (env ++ s.decl ∷ [])
    passed = record {
      statements = subst (λ g. GoodTo g after.file [] (list_at after.file) (ss ++ s ∷ []) (env ++ s.decl ∷ []) after.at) (sym past.same_standard)
          (subst (λ file. GoodTo p.standard file [] (list_at file) (ss ++ s ∷ []) (env ++ s.decl ∷ []) after.at) (sym past.same_file)
          (chain-more (IsGoodStatement p.standard p.file) [] (list_at p.file) ss env p.at s after.at before.statements good));
      many = omega (arith, past.one_more, before.many, length-append ss (s ∷ []));
      rows = subst (λ r. CountsRows r (env ++ s.decl ∷ [])) (sym past.rows_are) (counts-past p.rows env before.rows p.file head.code (env ++ s.decl ∷ []) f.taken);
      marks = λ mode. marks-after (ap lets_gaps (sym past.same_standard) ∙ mode);
    }

    head-is : IsHeadAt p.file p.at (statement_byte head.code) head.body head.next
    head-is = head-at p.file p.at (statement_byte head.code) head.body head.next (stands-there p ss env before head stands place ran)

    pub passes : Passes p ss env after told
    passes =
        let kind : HasKind (statement_byte head.code) s = kind-is in
        let t : IsReported p.rows env head.code s.decl = is-reported p.rows env before.rows head.code s.decl kind.0 in
        record {
          statement = s;
          good = good;
          passed = passed;
          tells = record {
            number = omega (arith, past.number, before.many);
            place = past.place;
            kind = past.kind ∙ t.kind;
            row = past.row ∙ t.row;
            mark = past.mark ∙ mark-of head.code ∙ sym kind.1;
          };
          gap = (λ h. (let (mode, k, why) = past.gap.0 h in (mode, (news mode).told.0 h)), λ (mode, g). (news mode).told.1 g);
          same_file = past.same_file;
          same_standard = past.same_standard;
          further = omega (arith, past.goes_on, head-is.further);
          within = omega (arith, past.goes_on, head-is.within);
        }

  pub reached : IsReached p → IsReached after
  reached r =
      let (ss, env, before) = r.before in
      let enough : RowsWithin p.file (rows_after p.rows head.code) (p.passed + 1) = within-past p.standard p.file p.rows env before.rows p.at head.body head.next p.passed
      (record { sorts_within = r.sorts_within; terms_within = r.terms_within; thms_within = r.thms_within; many = r.many }) head.code (kind-holds p ss env before head stands place ran) in
      let files : length after.file ≡ length p.file = ap length past.same_file in
      let sort_counts : sort_count after.file ≡ sort_count p.file = ap sort_count past.same_file in
      let term_counts : term_count after.file ≡ term_count p.file = ap term_count past.same_file in
      let thm_counts : thm_count after.file ≡ thm_count p.file = ap thm_count past.same_file in
      let sort_rows : after.rows.sorts ≡ (rows_after p.rows head.code).sorts = ap (λ (x : Rows). x.sorts) past.rows_are in
      let term_rows : after.rows.terms ≡ (rows_after p.rows head.code).terms = ap (λ (x : Rows). x.terms) past.rows_are in
      let thm_rows : after.rows.thms ≡ (rows_after p.rows head.code).thms = ap (λ (x : Rows). x.thms) past.rows_are in
      record {
        binary = subst IsBinary (sym past.same_file) r.binary;
        within = omega (arith, past.goes_on, (head-is ss env before).within, files);
        sorts_within = omega (arith, enough.sorts_within, sort_rows, sort_counts);
        terms_within = omega (arith, enough.terms_within, term_rows, term_counts);
        thms_within = omega (arith, enough.thms_within, thm_rows, thm_counts);
        many = omega (arith, past.one_more, enough.many, sort_rows, term_rows, thm_rows);
        before = (ss ++ s ss env before ∷ [], env ++ (s ss env before).decl ∷ [], passed ss env before);
      }

  -- the rows that are taken after it
  pub taken-past : IsReached p → after_kind p.file (taken_before p.file p.rows) head.code ≡ taken_before after.file after.rows
  taken-past r =
      let (ss, env, before) = r.before in
      ap (λ t. after_kind p.file t head.code) (sym (taken p ss env before)) ∙ sym (f ss env before).taken
      ∙ taken after (ss ++ s ss env before ∷ []) (env ++ (s ss env before).decl ∷ []) (passed ss env before)

  pub further : IsReached p → (p.at < after.at) × (after.at ≤ length p.file)
  further r = let (ss, env, before) = r.before in (omega (arith, past.goes_on, (head-is ss env before).further), omega (arith, past.goes_on, (head-is ss env before).within))

  -- the next row of the kind is there
  pub row-there : IsReached p → next_row p.rows head.code < sort_count p.file + term_count p.file + thm_count p.file
  row-there r = let (ss, env, before) = r.before in go env before.rows head.code (kind-holds p ss env before head stands place ran)
    where
      go : (env : List Declaration) → CountsRows p.rows env → (k : StatementCode) → AllHold (kind_checks p.standard p.file (taken_by env) p.at head.body head.next (Some k))
          → next_row p.rows k < sort_count p.file + term_count p.file + thm_count p.file
      go env counts codes.Sort all = omega (arith, all.0, counts.sorts_are)
      go env counts codes.Term all = omega (arith, all.0, counts.terms_are)
      go env counts codes.LocalDefinition all = omega (arith, all.0, counts.terms_are)
      go env counts codes.Axiom all = omega (arith, all.0, counts.thms_are)
      go env counts codes.Theorem all = omega (arith, all.0, counts.thms_are)
      go env counts codes.LocalTheorem all = omega (arith, all.0, counts.thms_are)
