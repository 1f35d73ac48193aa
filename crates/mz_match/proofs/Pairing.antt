-- One statement more, beside the declarations.
use Rattle.std.proofs.Common.{◌≡◌, ◌<◌, ◌≤◌, ◌+◌, ◌^◌, ◌∙◌, ℕ, zero, suc, Bool, true, false, List, [], ◌∷◌, ◌++◌, length, drop, Ok, refl, sym, ap, ap₂, subst, inl, inr, arith, length-append}
use Rattle.std.specs.Prelude.{if◌then◌else◌}
use Rattle.std.proofs.lemmas.List.{append-nil}
use Rattle.mz_base.specs.Checks.{AllHold, FailsFirst}
use Rattle.mz_cmd.specs.declared.rule.Refusal.{Refusal}
use Rattle.mz_cmd.specs.declared.statement.StmtAt.TheVariants.{End}
use Rattle.mz_logic_theory.specs.Declaration.{Declaration, sort_decl, term_decl, assertion_decl, sorts, terms}
use Rattle.mz_logic_theory.specs.LegalLists.{Statement, declarations}
use Rattle.mz_layout_tables.specs.Layout.{Layout}
use Rattle.mz_layout_tables.specs.Tables.{list_at}
use Rattle.mz_layout_tables.proofs.Offered.{parts-of_layout}
use Rattle.mz_layout_tables.specs.RowWords.{first_sorts}
use Rattle.mz_machine_theory.specs.FileRows.{Taken, taken_by}
use Rattle.mz_layout_tables.specs.Heads.{AllTaken}
use Rattle.mz_binary_theory.specs.Checking.{counts, checks_of}
use Rattle.mz_binary_theory.specs.Chains.{IsGoodStatement, GoodTo}
use Rattle.mz_binary_theory.specs.Good.{Good, FailsAfter}
use Rattle.mz_binary_theory.specs.declared.statement.Statement.{Statement as Reported}
use Rattle.mz_binary.specs.Progress.{Progress, HasPassed, Tells, kind_code, next_steps, row_after, steps_left}
use Rattle.mz_binary.specs.Judging.{Passes}
use Rattle.mz_binary_theory.specs.FileRun.{find_at, found_steps, list_steps, file_steps, steps_through}
use Rattle.mz_binary_theory.proofs.Offered.{chain-declares, chain-sorts, same-taken, steps-here, steps-rest}
use Rattle.mz_spec_theory.specs.Spec.{SpecMakes}
use Rattle.mz_spec_theory.specs.State.{Entry, env_of}
use Rattle.mz_match.specs.declared.progress.Matching.{Matching}
use Rattle.mz_spec_proved_theory.specs.declared.rule.M.{M}
use Rattle.mz_spec_proved_theory.specs.declared.rule.M.TheVariants as rules
use Rattle.mz_match_theory.specs.declared.verdict.Verdict.{Verdict}
use Rattle.mz_match_theory.specs.declared.verdict.Verdict.TheVariants as verdicts
use Rattle.mz_spec_proved_theory.specs.Match.{partner_of, publics_after, publics, term_row_of, term_rows, Agrees, Leaves, partner_checks}
use Rattle.mz_match.specs.Drafts.{ListsGapsOf, IsJudged}
use Rattle.mz_match.specs.Reported.{IsReported, IsMatched}
use Rattle.mz_match_theory.specs.Verdict.{IsDifferenceAt, TicksBy, counts_of, IsSoundIfAccepted, IsVerdict, IsVerdictBy}
use Rattle.mz_spec_proved_theory.proofs.Offered.{publics-append, publics-local, publics-public, term_rows-append, drop-further, drop-past, kinds-total, length-declarations, length-env, leaves-nothing, leaves-local, leaves-public, partner-there}
use Rattle.mz_match_theory.proofs.Offered.{accepted-sound}
use Rattle.mz_binary_theory.specs.Standards.{Standard, lets_gaps}

abbrev assertion_code : Bool → ℕ
assertion_code b = if b then 0x02 else 0x06

assertion-code : (b : Bool) → assertion_code b ≡ 0x05 → ⊥
assertion-code true e = absurd (omega arith)
assertion-code false e = absurd (omega arith)

after-fewer : (before ss : List Statement) → length (publics_after before ss) ≤ length ss
after-fewer before [] = omega arith
after-fewer before (s ∷ ss) = by s.is_local (after-fewer (before ++ s ∷ []) ss)
  where
    by : (local : Bool) → length (publics_after (before ++ s ∷ []) ss) ≤ length ss → length (if local then publics_after (before ++ s ∷ []) ss else partner_of before s ∷ publics_after (before ++ s ∷ []) ss) ≤ length (s ∷ ss)
    by true few = omega arith
    by false few = omega arith

publics-fewer : (ss : List Statement) → length (publics ss) ≤ length ss
publics-fewer ss = after-fewer [] ss

-- before the first statement
pub matched-nothing : (p : Progress) (ds : List Declaration) (m : Matching) → Layout p.file → HasPassed p [] [] → m.done ≡ 0 → m.passed ≡ 0 → m.publics ≡ [] → IsMatched p ds m [] []
matched-nothing p ds m layout passed none no_statements no_rows = record {
  layout = layout;
  passed = passed;
  leaves = subst (λ k. Leaves ds [] (drop k ds)) (sym none) (leaves-nothing ds);
  within = omega (arith, none);
  done_is = none;
  passed_is = no_statements;
  rows_are = no_rows;
}

-- what is reported is the next statement
pub told-next : (p : Progress) (ds : List Declaration) (m : Matching) (ss : List Statement) (env : List Declaration) (after : Progress) (told : Reported)
    → IsMatched p ds m ss env → (passes : Passes p ss env after told) → IsReported p.standard p.file m.publics told ss env passes.statement after.at
told-next p ds m ss env after told matched passes =
    let here : p.at ≡ told.at = sym passes.tells.place in
    record {
      before = subst (λ at. GoodTo p.standard p.file [] (list_at p.file) ss env at) here matched.passed.statements;
      good = subst (λ at. IsGoodStatement p.standard p.file env at passes.statement after.at) here passes.good;
      tells = subst (λ at. Tells told (length ss + 1) at env passes.statement) here passes.tells;
      rows_are = matched.rows_are;
    }

module _ (p : Progress) (ds : List Declaration) (m : Matching) (ss : List Statement) (env : List Declaration) (after : Progress) (told : Reported)
    (matched : IsMatched p ds m ss env) (passes : Passes p ss env after told) (later : Matching) (number : later.passed ≡ told.number) where
  abbrev s : Statement
  s = passes.statement

  many : later.passed ≡ length (ss ++ s ∷ [])
  many = omega (arith, number, passes.tells.number, length-append ss (s ∷ []))

  layout : Layout after.file
  layout = subst Layout (sym passes.same_file) matched.layout

  -- the rows that were taken before
  taken : length (terms (declarations ss)) ≡ length (terms env)
  taken = ap (λ ds. length (terms ds)) (sym (chain-declares (IsGoodStatement p.standard p.file) [] (list_at p.file) ss env p.at matched.passed.statements))

  rows-more : term_rows 0 (ss ++ s ∷ []) ≡ m.publics ++ term_rows (length (terms env)) (s ∷ [])
  rows-more =
      let place : 0 + length (terms (declarations ss)) ≡ length (terms env) = omega (arith, taken) in
      term_rows-append 0 ss (s ∷ []) ∙ ap (λ xs. xs ++ term_rows (0 + length (terms (declarations ss))) (s ∷ [])) (sym matched.rows_are)
      ∙ ap (λ n. m.publics ++ term_rows n (s ∷ [])) place

  -- a local statement changes nothing
  pub matched-local : s.is_local ≡ true → later.done ≡ m.done → later.publics ≡ m.publics → IsMatched after ds later (ss ++ s ∷ []) (env ++ s.decl ∷ [])
  matched-local is_local same_done same_rows = record {
    layout = layout;
    passed = passes.passed;
    leaves = subst (λ k. Leaves ds (ss ++ s ∷ []) (drop k ds)) (sym same_done) (leaves-local ds (drop m.done ds) ss s is_local matched.leaves);
    within = omega (arith, same_done, matched.within);
    done_is = same_done ∙ matched.done_is ∙ ap length (sym (publics-append [] ss (s ∷ []) ∙ ap (λ ps. publics ss ++ ps) (publics-local ss s is_local) ∙ append-nil (publics ss)));
    passed_is = many;
    rows_are = same_rows ∙ sym (rows-more ∙ ap (λ (b : Bool). m.publics ++ ((if b then [] else term_row_of (length (terms env)) s.decl) ++ [])) is_local ∙ append-nil m.publics);
  }

  -- a public one has its partner
  pub matched-public : s.is_local ≡ false → AllHold (partner_checks (drop m.done ds) (partner_of ss s)) → later.done ≡ m.done + 1 → later.publics ≡ m.publics ++ term_row_of (length (terms env)) s.decl
      → IsMatched after ds later (ss ++ s ∷ []) (env ++ s.decl ∷ [])
  matched-public is_public agrees one_more rows =
      let there = partner-there (drop m.done ds) (partner_of ss s) agrees in
      let further = drop-further ds m.done there.0 there.1 there.2 in
      let next : later.done ≡ suc m.done = omega (arith, one_more) in
      let counted : length (publics (ss ++ s ∷ [])) ≡ length (publics ss) + 1 =
      ap length (publics-append [] ss (s ∷ []) ∙ ap (λ ps. publics ss ++ ps) (publics-public ss s [] is_public)) ∙ length-append (publics ss) (partner_of ss s ∷ []) in
      record {
        layout = layout;
        passed = passes.passed;
        leaves = subst (λ k. Leaves ds (ss ++ s ∷ []) (drop k ds)) (sym next) (subst (Leaves ds (ss ++ s ∷ [])) (sym further.0)
            (leaves-public ds there.1 there.0 ss s is_public there.3 (subst (Leaves ds ss) there.2 matched.leaves)));
        within = omega (arith, one_more, further.1);
        done_is = omega (arith, one_more, matched.done_is, counted);
        passed_is = many;
        rows_are = rows ∙ sym (rows-more ∙ ap (λ (b : Bool). m.publics ++ ((if b then [] else term_row_of (length (terms env)) s.decl) ++ [])) is_public
            ∙ ap (λ xs. m.publics ++ xs) (append-nil (term_row_of (length (terms env)) s.decl)));
      }

-- the rows that a declaration reported as a term takes, and another
pub term-row : (env : List Declaration) (d : Declaration) → kind_code d ≡ 0x05 → term_row_of (length (terms env)) d ≡ row_after env d ∷ []
term-row env (sort_decl m) is = absurd (omega arith)
term-row env (term_decl d) is = refl
term-row env (assertion_decl a) is = absurd (assertion-code a.is_axiom is)

pub no-term-row : (n : ℕ) (d : Declaration) → (kind_code d ≡ 0x05 → ⊥) → term_row_of n d ≡ []
no-term-row n (sort_decl m) is = refl
no-term-row n (term_decl d) is = absurd (is refl)
no-term-row n (assertion_decl a) is = refl

-- fewer declarations are done than statements were reported
pub done-fewer : (p : Progress) (ds : List Declaration) (m : Matching) (ss : List Statement) (env : List Declaration) (after : Progress) (told : Reported)
    → IsMatched p ds m ss env → Passes p ss env after told → m.done + 1 ≤ told.number
done-fewer p ds m ss env after told matched passes = omega (arith, matched.done_is, passes.tells.number, publics-fewer ss)

-- ---- verdicts

-- a public statement differs
pub differs-here : (text : List ℕ) (es : List Entry) (p : Progress) (m : Matching) (ss : List Statement) (env : List Declaration) (after : Progress) (told : Reported) (rule : M)
    → SpecMakes text es → IsMatched p (env_of es) m ss env → (passes : Passes p ss env after told) → told.local ≡ false → FailsFirst (partner_checks (drop m.done (env_of es)) (partner_of ss passes.statement)) rule
    → IsVerdictBy p.standard text p.file (verdicts.Match (m.done + 1) told.number rule)
differs-here text es p m ss env after told rule makes matched passes is_public fails = (
  env_of es,
  (es, makes, refl),
  record {
    layout = matched.layout;
    before = ss;
    env = env;
    at = p.at;
    left = drop m.done (env_of es);
    statements = matched.passed.statements;
    leaves = matched.leaves;
    declaration_is = ap (λ n. n + 1) matched.done_is;
    statement_is = passes.tells.number;
    fails = inr (passes.statement, after.at, passes.good, sym passes.tells.mark ∙ is_public, fails);
  },
)

-- a rule of the binary fails
pub fails-here : (text : List ℕ) (es : List Entry) (p : Progress) (m : Matching) (ss : List Statement) (env : List Declaration) (r : Refusal)
    → SpecMakes text es → IsMatched p (env_of es) m ss env → FailsAfter p.standard p.file ss env p.at r → IsVerdictBy p.standard text p.file (verdicts.Binary r)
fails-here text es p m ss env r makes matched fails =
    (env_of es, (es, makes, refl), inr (ss, env, p.at, drop m.done (env_of es), fails, matched.leaves))

-- a declaration is left
pub missing-here : (text : List ℕ) (es : List Entry) (p : Progress) (m : Matching) (ss : List Statement) (env : List Declaration)
    → SpecMakes text es → IsMatched p (env_of es) m ss env → Good p.standard p.file ss → m.done < length es → IsVerdictBy p.standard text p.file (verdicts.Match (m.done + 1) (m.passed + 1) rules.Missing)
missing-here text es p m ss env makes matched good short = (
  env_of es,
  (es, makes, refl),
  record {
    layout = matched.layout;
    before = ss;
    env = good.env;
    at = good.to;
    left = drop m.done (env_of es);
    statements = good.statements;
    leaves = matched.leaves;
    declaration_is = ap (λ n. n + 1) matched.done_is;
    statement_is = ap (λ n. n + 1) matched.passed_is;
    fails = inl (good.ends, inl (some-left (env_of es) m.done (omega (arith, length-env es, short)), refl));
  },
)
  where
    some-left : (ds : List Declaration) (i : ℕ) → i < length ds → drop i ds ≡ [] → ⊥
    some-left [] i below none = absurd (omega arith)
    some-left (d ∷ ds) zero below none = absurd cc
    some-left (d ∷ ds) (suc i) below none = some-left ds i (omega arith) none

-- none is left
pub accepted-here : (text : List ℕ) (es : List Entry) (p : Progress) (m : Matching) (ss : List Statement) (env : List Declaration) (places : List ℕ)
    → SpecMakes text es → IsMatched p (env_of es) m ss env → Good p.standard p.file ss → m.done ≡ length es → (lets_gaps p.standard ≡ true → ListsGapsOf p.file ss places)
    → IsJudged p.standard text p.file (verdicts.Accepted (counts_of (env_of es))) places
accepted-here text es p m ss env places makes matched good all lists =
    let none : drop m.done (env_of es) ≡ [] = drop-past (env_of es) m.done (omega (arith, length-env es, all)) in
    let done : env_of es ≡ matched.leaves.done = matched.leaves.all ∙ ap (λ xs. matched.leaves.done ++ xs) none ∙ append-nil matched.leaves.done in
    (record { declared = env_of es; statements = ss; is_spec = (es, makes, refl); is_good = good; agrees = subst (λ ds. Agrees ds (publics ss)) (sym done) matched.leaves.agrees }, refl, lists)

-- the number of a good list's statements
pub few-statements : (standard : Standard) (file : List ℕ) (ss : List Statement) → length file < 2 ^ 32 → Good standard file ss → length ss + 1 < 2 ^ 32
few-statements standard file ss small good =
    let parts = parts-of_layout file good.layout in
    let at_end : AllHold (checks_of standard file (taken_by good.env) good.to (Ok End)) = subst (λ r. AllHold (checks_of standard file (taken_by good.env) good.to r)) good.ends.ends good.ends.passes in
    let taken : AllTaken file (counts (taken_by good.env)) = at_end.0 in
    let declares : length good.env ≡ length (declarations ss) = ap length (chain-declares (IsGoodStatement standard file) [] (list_at file) ss good.env good.to good.statements) in
    omega (arith, small, parts.few_sorts, parts.few_terms, parts.few_thms, taken.sorts_taken, taken.terms_taken, taken.thms_taken, declares, kinds-total good.env, length-declarations ss)

pub sound : (spec bin : List ℕ) (v : Verdict) → IsVerdict spec bin v → IsSoundIfAccepted spec bin v
sound spec bin (verdicts.Accepted counts) (a, is) = accepted-sound spec bin a
sound spec bin (verdicts.Spec refusal) is = tt
sound spec bin (verdicts.Binary refusal) is = tt
sound spec bin (verdicts.Match declaration statement rule) is = tt
sound spec bin verdicts.Mem is = tt

-- ---- steps

-- the rows that the statements passed have taken
taken-before : (p : Progress) (ss : List Statement) (env : List Declaration) → HasPassed p ss env
    → taken_by env ≡ record { sorts = first_sorts p.file p.rows.sorts; terms = p.rows.terms; thms = p.rows.thms }
taken-before p ss env before =
    let declared : sorts env ≡ first_sorts p.file p.rows.sorts = chain-sorts p.standard p.file [] (list_at p.file) ss env p.at before.statements refl ∙ ap (first_sorts p.file) (sym before.rows.sorts_are) in
    same-taken (taken_by env) (record { sorts = first_sorts p.file p.rows.sorts; terms = p.rows.terms; thms = p.rows.thms }) declared (sym before.rows.terms_are) (sym before.rows.thms_are)

-- what is counted with the next statement's commands
pub steps-next : (p : Progress) (ss : List Statement) (env : List Declaration) → Layout p.file → HasPassed p ss env
    → (old now : ℕ) → now + steps_left p ≡ old + file_steps p.standard p.file → now + next_steps p ≡ old + steps_through p.standard p.file (length ss + 1)
steps-next p ss env layout passed old now counted =
    let taken = taken-before p ss env passed in
    let rest = steps-rest p.standard p.file layout ss env p.at passed.statements in
    let here = steps-here p.standard p.file layout ss env p.at passed.statements in
    let left : list_steps p.standard p.file (length p.file + 1) (taken_by env) p.at ≡ steps_left p = ap (λ (t : Taken). list_steps p.standard p.file (length p.file + 1) t p.at) taken in
    let next : found_steps p.standard p.file (taken_by env) (find_at p.file (taken_by env) p.at) ≡ next_steps p = ap (λ (t : Taken). found_steps p.standard p.file t (find_at p.file t p.at)) taken in
    omega (arith, counted, rest, here, left, next)

-- of a checker of this file, by this standard
pub counted-next : (standard : Standard) (bin : List ℕ) (p : Progress) (m : Matching) (ds : List Declaration) (ss : List Statement) (env : List Declaration) → p.standard ≡ standard → p.file ≡ bin → IsMatched p ds m ss env
    → (old now : ℕ) → now + steps_left p ≡ old + file_steps standard bin → now + next_steps p ≡ old + steps_through standard bin (length ss + 1)
counted-next standard bin p m ds ss env same_standard same_file matched old now counted =
    let whole : file_steps p.standard p.file ≡ file_steps standard bin = ap₂ file_steps same_standard same_file in
    let front : steps_through p.standard p.file (length ss + 1) ≡ steps_through standard bin (length ss + 1) = ap₂ (λ (b : Standard) (f : List ℕ). steps_through b f (length ss + 1)) same_standard same_file in
    let next = steps-next p ss env matched.layout matched.passed old now (counted ∙ ap (λ (k : ℕ). old + k) (sym whole)) in
    omega (arith, next, front)

pub stop-ticks : (standard : Standard) (bin : List ℕ) (old new n : ℕ) (v : Verdict) → IsDifferenceAt n v → new ≡ old + steps_through standard bin n → TicksBy standard bin old new v
stop-ticks standard bin old new n (verdicts.Accepted counts) is count = absurd is
stop-ticks standard bin old new n (verdicts.Spec refusal) is count = absurd is
stop-ticks standard bin old new n (verdicts.Binary refusal) is count = absurd is
stop-ticks standard bin old new n (verdicts.Match declaration statement rule) is count = count ∙ ap (λ (k : ℕ). old + steps_through standard bin k) (sym is)
stop-ticks standard bin old new n verdicts.Mem is count = tt
