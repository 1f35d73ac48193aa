-- A file is good without gaps exactly where it is good with gaps and none of its theorems is gapped.
use Rattle.std.proofs.Common.{◌≡◌, ◌∙◌, ◌⊎◌, ℕ, zero, suc, Bool, true, false, List, [], ◌∷◌, ◌++◌, slice_get, Some, Result, Ok, refl, sym, ap, subst, inl, inr}
use Rattle.std.specs.Prelude.{⊤, MatchBool}
use Rattle.std.proofs.lemmas.Option.{none-some}
use Rattle.mz_base.specs.Checks.{Checks, AllHold}
use Rattle.mz_base.proofs.Offered.{all_hold-rest}
use Rattle.mz_cmd.specs.declared.rule.K.{K}
use Rattle.mz_cmd.specs.declared.statement.StmtAt.{StmtAt}
use Rattle.mz_cmd.specs.declared.statement.StmtAt.TheVariants.{Head}
use Rattle.mz_cmd.specs.declared.statement.StmtFault.{StmtFault}
use Rattle.mz_cmd.specs.Codes.{statement_code}
use Rattle.mz_cmd.specs.StatementList.{statement_at}
use Rattle.mz_logic_theory.specs.Declaration.{Assertion, Declaration, sort_decl, term_decl, assertion_decl}
use Rattle.mz_logic_theory.specs.LegalLists.{Statement}
use Rattle.mz_logic_theory.proofs.Offered.{one_at}
use Rattle.mz_layout_tables.specs.Tables.{list_at, thm_row}
use Rattle.mz_layout_tables.specs.Heads.{body_bytes}
use Rattle.mz_layout_tables.specs.Heads as heads
use Rattle.mz_layout_tables.specs.RowWords.{param_checks}
use Rattle.mz_machine_theory.specs.Profile.{plain, strict}
use Rattle.mz_machine_theory.specs.MachineState.{RowsBefore, is_theorem, Heading}
use Rattle.mz_machine_theory.specs.Bodies.{body_checks}
use Rattle.mz_machine_theory.specs.FileRows.{Taken, taken_by, thm_of_file, rows_taken}
use Rattle.mz_machine_theory.specs.Lists.{assertion_of}
use Rattle.mz_machine_theory.specs.Sound.{HasGap}
use Rattle.mz_machine_theory.proofs.Offered.{bodies-checked}
use Rattle.mz_binary_theory.specs.Spelling.{IsKindOf}
use Rattle.mz_binary_theory.specs.Checking.{counts, thm_checks, parts_of, checks_of, rest_checks}
use Rattle.mz_binary_theory.specs.Chains.{IsGoodStatement, GoodTo}
use Rattle.mz_binary_theory.specs.Gapped.{AssertionBody, body_there, place_after, body_of, bodies_from, bodies_of, IsTheoremBody, IsGapped, leaves_gap, rests_on}
use Rattle.mz_binary_theory.specs.DraftLaws.{FinishedDraftsAreGood}
use Rattle.mz_binary_theory.specs.Standards.{checks_by, strict_standard, draft_standard}
use Rattle.mz_binary_theory.proofs.ChainLaws.{chain-weaker}
use Rattle.mz_binary_theory.proofs.GaplessBodies.{run-same, runs-free}
use Rattle.mz_binary_theory.proofs.OtherStandard.{IsProving, statement-by, end-by}

-- ---- bodies

-- no theorem's body among these leaves a gap
abbrev NoneLeft : List AssertionBody → Type 0
NoneLeft bodies = (T : ℕ) (bytes : List ℕ) → IsTheoremBody bodies T bytes → HasGap bytes → ⊥

none-gapped : (bodies : List AssertionBody) → NoneLeft bodies → (T : ℕ) → IsGapped bodies T → ⊥
none-gapped bodies none T (leaves_gap T0 bytes there gap) = none T bytes there gap
none-gapped bodies none T (rests_on T0 U bytes there cited earlier on) = none-gapped bodies none U on

abbrev free : List ℕ → Type 0
free bytes = HasGap bytes → ⊥

abbrev any : List ℕ → Type 0
any bytes = ⊤

without : (tables : RowsBefore) (h : Heading) (at : ℕ) (bytes : List ℕ) → (h.kind ≡ is_theorem → free bytes) → AllHold (checks_by draft_standard tables h at bytes) → AllHold (checks_by strict_standard tables h at bytes)
without tables h at bytes fine all =
    let (last, e) = (bodies-checked (plain true) tables h at bytes).0.0 all in
    (bodies-checked strict tables h at bytes).0.1 (last, sym (run-same tables h true at bytes (λ gap is. fine is gap)) ∙ e)

with-gaps : (tables : RowsBefore) (h : Heading) (at : ℕ) (bytes : List ℕ) → (h.kind ≡ is_theorem → any bytes) → AllHold (checks_by strict_standard tables h at bytes) → AllHold (checks_by draft_standard tables h at bytes)
with-gaps tables h at bytes fine all =
    let (last, e) = (bodies-checked strict tables h at bytes).0.0 all in
    (bodies-checked (plain true) tables h at bytes).0.1 (last, run-same tables h true at bytes (λ gap is. runs-free tables h at bytes (last, e) gap) ∙ e)

-- ---- codes and kinds

-- a statement with a proof is a theorem
theorem-is : (code : ℕ) (d : Declaration) → IsProving (statement_code code) → IsKindOf code d → (a : Assertion) × (d ≡ assertion_decl a) × (a.is_axiom ≡ false)
theorem-is code (sort_decl m) proving kind = absurd (subst (λ (c : ℕ). IsProving (statement_code c)) kind proving)
theorem-is code (term_decl t) proving (inl kind) = absurd (subst (λ (c : ℕ). IsProving (statement_code c)) kind proving)
theorem-is code (term_decl t) proving (inr kind) = absurd (subst (λ (c : ℕ). IsProving (statement_code c)) kind proving)
theorem-is code (assertion_decl a) proving kind = by a.is_axiom refl kind
  where
    by : (b : Bool) → a.is_axiom ≡ b → MatchBool b (code ≡ 0x02) ((code ≡ 0x06) ⊎ (code ≡ 0x0E)) → (c : Assertion) × (assertion_decl a ≡ assertion_decl c) × (c.is_axiom ≡ false)
    by true is k = absurd (subst (λ (c : ℕ). IsProving (statement_code c)) k proving)
    by false is k = (a, refl, is)

-- and a theorem's code is one of two
theorem-code : (code : ℕ) (a : Assertion) → a.is_axiom ≡ false → IsKindOf code (assertion_decl a) → (code ≡ 0x06) ⊎ (code ≡ 0x0E)
theorem-code code a is kind = subst (λ (b : Bool). MatchBool b (code ≡ 0x02) ((code ≡ 0x06) ⊎ (code ≡ 0x0E))) is kind

module _ (file : List ℕ) where
  -- ---- the first body, and those after it

  module _ (from : ℕ) (tail : List AssertionBody) where
    none-past : (a : Assertion) → (a.is_axiom ≡ false → HasGap (body_there file (statement_at file from)) → ⊥) → NoneLeft tail → NoneLeft (body_of file from (assertion_decl a) ++ tail)
    none-past a here later zero bytes there gap =
        let same : ◌≡◌ {A = AssertionBody} (record { is_axiom = a.is_axiom; bytes = body_there file (statement_at file from) }) (record { is_axiom = false; bytes = bytes }) = one_at refl there in
        here (ap (λ (b : AssertionBody). b.is_axiom) same) (subst HasGap (sym (ap (λ (b : AssertionBody). b.bytes) same)) gap)
    none-past a here later (suc T) bytes there gap = later T bytes there gap

    none-with : (d : Declaration) → ((a : Assertion) → d ≡ assertion_decl a → a.is_axiom ≡ false → HasGap (body_there file (statement_at file from)) → ⊥) → NoneLeft tail → NoneLeft (body_of file from d ++ tail)
    none-with (sort_decl m) here later = later
    none-with (term_decl t) here later = later
    none-with (assertion_decl a) here later = none-past a (here a refl) later

    none-behind : (d : Declaration) → NoneLeft (body_of file from d ++ tail) → NoneLeft tail
    none-behind (sort_decl m) none = none
    none-behind (term_decl t) none = none
    none-behind (assertion_decl a) none = λ T bytes there gap. none (suc T) bytes there gap

    none-first : (d : Declaration) (a : Assertion) → d ≡ assertion_decl a → a.is_axiom ≡ false → NoneLeft (body_of file from d ++ tail) → HasGap (body_there file (statement_at file from)) → ⊥
    none-first d a is theorem none gap =
        let bytes : List ℕ = body_there file (statement_at file from) in
        none zero bytes (ap (λ (e : Declaration). slice_get (body_of file from e ++ tail) 0) is ∙ ap (λ (b : Bool). Some (record { is_axiom = b; bytes = bytes })) theorem) gap

  -- ---- from gaps to none

  finished-chain : (env : List Declaration) (from : ℕ) (ss : List Statement) (env' : List Declaration) (to : ℕ) → GoodTo draft_standard file env from ss env' to
      → NoneLeft (bodies_from file from ss) → GoodTo strict_standard file env from ss env' to
  finished-chain env from [] env' to chain none = chain
  finished-chain env from (s ∷ ss) env' to (next, good, rest) none =
      let goes : place_after (statement_at file from) ≡ next = ap place_after good.spelled.stands in
      let bytes : body_there file (statement_at file from) ≡ body_bytes file good.spelled.body next = ap (body_there file) good.spelled.stands in
      let tail : List AssertionBody = bodies_from file (place_after (statement_at file from)) ss in (
        next,
        statement-by draft_standard strict_standard free without file env from s next good (λ proving gap.
            let (a, is, theorem) = theorem-is good.spelled.code s.decl proving good.spelled.kind.0 in
            none-first from tail s.decl a is theorem none (subst HasGap (sym bytes) gap)),
        finished-chain (env ++ s.decl ∷ []) next ss env' to rest (subst (λ (n : ℕ). NoneLeft (bodies_from file n ss)) goes (none-behind from tail s.decl none)),
      )

  -- ---- from none to gaps

  module _ (taken : Taken) (at body next code : ℕ) where
    abbrev tables : RowsBefore
    tables = rows_taken file taken

    abbrev h : Heading
    h = assertion_of false (thm_of_file file taken.thms)

    abbrev bytes : List ℕ
    bytes = body_bytes file body next

    abbrev words : Checks (ℕ × K)
    words = param_checks taken.sorts (thm_row file taken.thms).words_at (thm_row file taken.thms).params

    abbrev Passing : ℕ → Type 0
    Passing c = AllHold (parts_of strict_standard file taken at body next (statement_code c))

    proved : (code ≡ 0x06) ⊎ (code ≡ 0x0E) → Passing code → AllHold (thm_checks strict_standard file taken body next false)
    proved (inl is) all = subst Passing is all
    proved (inr is) all = subst Passing is all

    -- a theorem's body leaves none
    body-free : (code ≡ 0x06) ⊎ (code ≡ 0x0E) → Passing code → HasGap bytes → ⊥
    body-free which all gap =
        runs-free tables h body bytes ((bodies-checked strict tables h body bytes).0.0 (all_hold-rest words (body_checks strict tables h body bytes) (proved which all))) gap

  statement-free : (env : List Declaration) (at : ℕ) (s : Statement) (next : ℕ) → IsGoodStatement strict_standard file env at s next
      → (a : Assertion) → s.decl ≡ assertion_decl a → a.is_axiom ≡ false → HasGap (body_there file (statement_at file at)) → ⊥
  statement-free env at s next good a is theorem gap =
      let taken : Taken = taken_by env in
      let there : Result StmtAt StmtFault = Ok (Head good.spelled.code good.spelled.body next) in
      let all : AllHold (checks_of strict_standard file taken at there) = subst (λ (r : Result StmtAt StmtFault). AllHold (checks_of strict_standard file taken at r)) good.spelled.stands good.passes in
      body-free taken at good.spelled.body next good.spelled.code (theorem-code good.spelled.code a theorem (subst (IsKindOf good.spelled.code) is good.spelled.kind.0))
      (all_hold-rest (heads.checks_of file (counts taken) at there) (rest_checks strict_standard file taken at there) all) (subst HasGap (ap (body_there file) good.spelled.stands) gap)

  strict-free : (env : List Declaration) (from : ℕ) (ss : List Statement) (env' : List Declaration) (to : ℕ) → GoodTo strict_standard file env from ss env' to → NoneLeft (bodies_from file from ss)
  strict-free env from [] env' to chain = λ T bytes there gap. none-some _ there
  strict-free env from (s ∷ ss) env' to (next, good, rest) =
      let goes : place_after (statement_at file from) ≡ next = ap place_after good.spelled.stands in
      none-with from (bodies_from file (place_after (statement_at file from)) ss) s.decl (statement-free env from s next good)
      (subst (λ (n : ℕ). NoneLeft (bodies_from file n ss)) (sym goes) (strict-free (env ++ s.decl ∷ []) next ss env' to rest))

  as-draft : (env : List Declaration) (at : ℕ) (s : Statement) (next : ℕ) → IsGoodStatement strict_standard file env at s next → IsGoodStatement draft_standard file env at s next
  as-draft env at s next good = statement-by strict_standard draft_standard any with-gaps file env at s next good (λ proving. tt)

pub finished-good : FinishedDraftsAreGood
finished-good file ss = (
  (λ good. (
    record {
      layout = good.layout;
      env = good.env;
      to = good.to;
      statements = chain-weaker (IsGoodStatement strict_standard file) (IsGoodStatement draft_standard file) (as-draft file) [] (list_at file) ss good.env good.to good.statements;
      ends = end-by strict_standard draft_standard any with-gaps file good.env good.to good.ends;
    },
    none-gapped (bodies_of file ss) (strict-free file [] (list_at file) ss good.env good.to good.statements),
  )),
  (λ (good, none). record {
    layout = good.layout;
    env = good.env;
    to = good.to;
    statements = finished-chain file [] (list_at file) ss good.env good.to good.statements (λ T bytes there gap. none T (leaves_gap T bytes there gap));
    ends = end-by draft_standard strict_standard free without file good.env good.to good.ends;
  }),
)
