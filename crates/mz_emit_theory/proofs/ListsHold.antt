-- Each statement of a written list is good at its place, and the list ends with no rows left.
use Rattle.std.proofs.Common.{◌≡◌, ◌⊎◌, ◌-◌, ◌∙◌, ℕ, Bool, true, false, List, [], ◌∷◌, ◌++◌, length, take, drop, Some, Ok, Result, refl, sym, ap, subst, inl, inr, arith}
use Rattle.std.specs.Prelude.{MatchBool}
use Rattle.mz_base.specs.Checks.{AllHold}
use Rattle.mz_cmd.specs.declared.code.StatementCode.TheVariants as codes
use Rattle.mz_cmd.specs.declared.statement.StmtAt.{StmtAt}
use Rattle.mz_cmd.specs.declared.statement.StmtAt.TheVariants.{Head, End}
use Rattle.mz_cmd.specs.declared.statement.StmtFault.{StmtFault}
use Rattle.mz_cmd.specs.Codes.{statement_code}
use Rattle.mz_cmd.specs.StatementList.{statement_at}
use Rattle.mz_logic_theory.specs.Signature.{Signature}
use Rattle.mz_logic_theory.specs.Declaration.{Form, plain_form, abstract_form, defined, Term, Assertion, Declaration, sort_decl, term_decl, assertion_decl, sorts, terms}
use Rattle.mz_logic_theory.specs.Legality.{IsLegalDecl, IsLegalEnv}
use Rattle.mz_logic_theory.specs.LegalLists.{Statement, LegalAfter, allowed_with}
use Rattle.mz_logic_theory.specs.declared.binder.SortMods.{SortMods}
use Rattle.mz_logic_theory.specs.declared.word.Word.{Word}
use Rattle.mz_layout_tables.specs.Normal.{Written, Parts, file_of}
use Rattle.mz_layout_tables.specs.Standing.{Fit, Stands, AreListed, body_place, next_place}
use Rattle.mz_layout_tables.proofs.Offered.{counts-said, stands-bytes}
use Rattle.mz_layout_tables.specs.Heads.{AllTaken, body_bytes}
use Rattle.mz_machine_theory.specs.FileRows.{taken_by, rows_taken}
use Rattle.mz_machine_theory.specs.MachineState.{Declares}
use Rattle.mz_machine_theory.proofs.Offered.{pairs-long}
use Rattle.mz_binary_theory.specs.Chains.{IsGoodStatement, GoodTo, EndsAt}
use Rattle.mz_binary_theory.specs.Checking.{counts, kind_checks, checks_of}
use Rattle.mz_binary_theory.specs.Spelling.{IsKindOf, is_local_code}
use Rattle.mz_binary_theory.proofs.Offered.{well-chain}
use Rattle.mz_emit_theory.specs.AlphaEquivalence.{IsSameTerm, IsSameEnv}
use Rattle.mz_emit_theory.proofs.Joining.{same-with-sort, same-with-term, same-with-assertion}
use Rattle.mz_emit_theory.specs.FileWriting.{SaySignature, IsWrittenForm, IsWrittenDeclaration, IsWrittenStatement, HaveNoMore, AreWritten}
use Rattle.mz_emit_theory.proofs.RowsHold.{IsGoodRow, term_code, assertion_code, sort-good, plain-good, definition-good, assertion-good}
use Rattle.mz_binary_theory.specs.Standards.{by_table, Standard}

pub body-is : (file : List ℕ) (at : ℕ) (w : Written) → Stands file (body_place at w) w.body → body_bytes file (body_place at w) (next_place at w) ≡ w.body
body-is file at w stands =
    let n : next_place at w - body_place at w ≡ length w.body = omega arith in
    ap (λ (k : ℕ). take k (drop (body_place at w) file)) n ∙ stands-bytes file (body_place at w) w.body stands

module _ (gaps : Bool) (p : Parts) (fit : Fit p) (env env' : List Declaration) (same : IsSameEnv env env') (declares : Declares (rows_taken (file_of p) (taken_by env')) env') where
  abbrev file : List ℕ
  file = file_of p

  module _ (at body next : ℕ) (bytes : List ℕ) (bytes-are : body_bytes (file_of p) body next ≡ bytes) where
    term-good : (is_local : Bool) (signature : Signature) (form form' : Form) (ws : List Word) (result : Word) → IsLegalDecl env (term_decl (record { signature = signature; form = form }))
        → IsSameTerm (record { signature = signature; form = form }) (record { signature = signature; form = form' })
        → SaySignature (sorts env) ws result signature → IsWrittenForm gaps p env is_local signature ws result form form' bytes
        → IsGoodRow file env' (term_decl (record { signature = signature; form = form' })) (kind_checks (by_table gaps) file (taken_by env') at body next (Some (term_code is_local)))
    term-good is_local signature plain_form plain_form ws result legal same-term say (row, mark, empty) =
        plain-good gaps p fit env env' same declares at body next bytes bytes-are is_local signature ws result say row mark empty
    term-good is_local signature (defined ds e) (defined ds' e') ws result legal same-term say (stream, row, text, shared) =
        definition-good gaps p fit env env' same declares at body next bytes bytes-are is_local signature ws result say stream ds ds' e e' row legal same-term.1 text.spells shared.body
    term-good is_local signature _ _ ws result legal same-term say w = absurd w

    -- the checks are those of the code
    GoodBy : ℕ → Declaration → Type 0
    GoodBy code d = IsGoodRow file env' d (kind_checks (by_table gaps) file (taken_by env') at body next (statement_code code))

    term-by : (code : ℕ) (is_local : Bool) (d : Term) → (code ≡ 0x05) ⊎ (code ≡ 0x0D) → is_local ≡ is_local_code code
        → IsGoodRow file env' (term_decl d) (kind_checks (by_table gaps) file (taken_by env') at body next (Some (term_code is_local))) → GoodBy code (term_decl d)
    unfolding GoodBy
    term-by code is_local d (inl e) mark good =
        let l : is_local ≡ false = mark ∙ ap is_local_code e in
        subst (λ (c : ℕ). IsGoodRow file env' (term_decl d) (kind_checks (by_table gaps) file (taken_by env') at body next (statement_code c))) (sym e)
        (subst (λ (z : Bool). IsGoodRow file env' (term_decl d) (kind_checks (by_table gaps) file (taken_by env') at body next (Some (term_code z)))) l good)
    term-by code is_local d (inr e) mark good =
        let l : is_local ≡ true = mark ∙ ap is_local_code e in
        subst (λ (c : ℕ). IsGoodRow file env' (term_decl d) (kind_checks (by_table gaps) file (taken_by env') at body next (statement_code c))) (sym e)
        (subst (λ (z : Bool). IsGoodRow file env' (term_decl d) (kind_checks (by_table gaps) file (taken_by env') at body next (Some (term_code z)))) l good)

    assertion-by : (code : ℕ) (a : Assertion) (without_proof : Bool) → MatchBool without_proof (code ≡ 0x02) ((code ≡ 0x06) ⊎ (code ≡ 0x0E))
        → IsGoodRow file env' (assertion_decl a) (kind_checks (by_table gaps) file (taken_by env') at body next (Some (assertion_code without_proof))) → GoodBy code (assertion_decl a)
    unfolding GoodBy
    assertion-by code a true e good = subst (λ (c : ℕ). IsGoodRow file env' (assertion_decl a) (kind_checks (by_table gaps) file (taken_by env') at body next (statement_code c))) (sym e) good
    assertion-by code a false (inl e) good = subst (λ (c : ℕ). IsGoodRow file env' (assertion_decl a) (kind_checks (by_table gaps) file (taken_by env') at body next (statement_code c))) (sym e) good
    assertion-by code a false (inr e) good = subst (λ (c : ℕ). IsGoodRow file env' (assertion_decl a) (kind_checks (by_table gaps) file (taken_by env') at body next (statement_code c))) (sym e) good

    good-by : (code : ℕ) (is_local : Bool) (d d' : Declaration) → IsLegalDecl env d → IsKindOf code d' → is_local ≡ is_local_code code → IsWrittenDeclaration gaps p env is_local d d' bytes → GoodBy code d'
    unfolding GoodBy
    good-by code is_local (sort_decl m) (sort_decl m') legal kind mark (is, row, empty) =
        subst (λ (c : ℕ). IsGoodRow file env' (sort_decl m') (kind_checks (by_table gaps) file (taken_by env') at body next (statement_code c))) (sym kind)
        (subst (λ (z : SortMods). IsGoodRow file env' (sort_decl z) (kind_checks (by_table gaps) file (taken_by env') at body next (Some codes.Sort))) is
        (sort-good gaps p fit env env' same declares at body next bytes bytes-are m row empty))
    good-by code is_local (term_decl d) (term_decl d') legal kind mark (same-term, (ws, result, say, form)) =
        term-by code is_local d' kind mark
        (subst (λ (z : Signature). IsGoodRow file env' (term_decl (record { signature = z; form = d'.form })) (kind_checks (by_table gaps) file (taken_by env') at body next (Some (term_code is_local)))) same-term.0
        (term-good is_local d.signature d.form d'.form ws result legal (refl, same-term.1) say form))
    good-by code is_local (assertion_decl a) (assertion_decl a') legal kind mark (is, w) =
        assertion-by code a' a'.is_axiom kind
        (subst (λ (z : Assertion). IsGoodRow file env' (assertion_decl z) (kind_checks (by_table gaps) file (taken_by env') at body next (Some (assertion_code z.is_axiom)))) is
        (assertion-good gaps p fit env env' same declares at body next bytes bytes-are a legal w))
    good-by code is_local _ _ legal kind mark w = absurd w

  -- ---- a statement at its place

  good-here : (at : ℕ) (t s : Statement) (w : Written) → IsLegalDecl env t.decl → IsWrittenStatement gaps p env t s w
      → statement_at file at ≡ Ok (Head w.code (body_place at w) (next_place at w)) → Stands file (body_place at w) w.body → IsGoodStatement (by_table gaps) file env' at s (next_place at w)
  unfolding GoodBy
  good-here at t s w legal written stands body-stands =
      let good : GoodBy at (body_place at w) (next_place at w) w.body (body-is file at w body-stands) w.code s.decl =
      good-by at (body_place at w) (next_place at w) w.body (body-is file at w body-stands) w.code s.is_local t.decl s.decl legal written.code.0 written.code.1 written.declaration in
      record {
        spelled = record { code = w.code; body = body_place at w; stands = stands; kind = written.code; row = good.row };
        passes = subst (λ (r : Result StmtAt StmtFault). AllHold (checks_of (by_table gaps) file (taken_by env') at r)) (sym stands) good.holds;
      }

  -- both environments go on as they were
  pub same-after : (is_local : Bool) (d d' : Declaration) (bytes : List ℕ) → IsWrittenDeclaration gaps p env is_local d d' bytes → IsSameEnv (env ++ d ∷ []) (env' ++ d' ∷ [])
  same-after is_local (sort_decl m) (sort_decl m') bytes (is, _, _) = subst (λ (z : SortMods). IsSameEnv (env ++ sort_decl m ∷ []) (env' ++ sort_decl z ∷ [])) is (same-with-sort env env' m same)
  same-after is_local (term_decl d) (term_decl d') bytes (same-term, _) = same-with-term env env' d d' same same-term
  same-after is_local (assertion_decl a) (assertion_decl a') bytes (is, _) =
      subst (λ (z : Assertion). IsSameEnv (env ++ assertion_decl a ∷ []) (env' ++ assertion_decl z ∷ [])) is (same-with-assertion env env' a same)
  same-after is_local _ _ bytes w = absurd w

  ends-here : (at : ℕ) → HaveNoMore p env → statement_at file at ≡ Ok End → EndsAt (by_table gaps) file env' at
  ends-here at none-left stands =
      let said = counts-said p fit.short in
      let all : AllTaken file (counts (taken_by env')) = record {
        sorts_taken = ap length (sym same.sorts_are) ∙ none-left.no_sorts ∙ sym said.sorts;
        terms_taken = sym (pairs-long IsSameTerm (terms env) (terms env') same.terms_are) ∙ none-left.no_terms ∙ sym said.terms;
        thms_taken = ap length (sym same.assertions_are) ∙ none-left.no_thms ∙ sym said.thms;
      } in
      record { ends = stands; passes = subst (λ (r : Result StmtAt StmtFault). AllHold (checks_of (by_table gaps) file (taken_by env') at r)) (sym stands) (all, tt) }

-- ---- all of them

-- from a place on the made statements are good, and then the list ends
pub record IsGoodRest (standard : Standard) (file : List ℕ) (env : List Declaration) (at : ℕ) (ss : List Statement) : Type 0 where
  pub last : List Declaration
  pub to : ℕ
  pub statements : GoodTo standard file env at ss last to
  pub ends : EndsAt standard file last to

module _ (gaps : Bool) (p : Parts) (fit : Fit p) where
  pub rest-good : (env env' : List Declaration) (at : ℕ) (ts ss : List Statement) (ws : List Written) → AreWritten gaps p env ts ss ws → LegalAfter (allowed_with gaps) env ts → AreListed (file_of p) at ws
      → IsSameEnv env env' → IsLegalEnv env' → Declares (rows_taken (file_of p) (taken_by env')) env' → IsGoodRest (by_table gaps) (file_of p) env' at ss
  rest-good env env' at [] [] [] written legal listed same legal-env declares = record { last = env'; to = at; statements = (refl, refl); ends = ends-here gaps p fit env env' same declares at written listed }
  rest-good env env' at (t ∷ ts) (s ∷ ss) (w ∷ ws) (written, all) (legal, all-legal) (stands, body, listed) same legal-env declares =
      let here : IsGoodStatement (by_table gaps) (file_of p) env' at s (next_place at w) = good-here gaps p fit env env' same declares at t s w legal.0 written stands body in
      let (legal-env', declares') = well-chain (by_table gaps) (file_of p) env' at (s ∷ []) (env' ++ s.decl ∷ []) (next_place at w) (next_place at w, here, (refl, refl)) legal-env declares in
      let r = rest-good (env ++ t.decl ∷ []) (env' ++ s.decl ∷ []) (next_place at w) ts ss ws all all-legal listed (same-after gaps p fit env env' same declares s.is_local t.decl s.decl w.body written.declaration) legal-env' declares' in
      record { last = r.last; to = r.to; statements = (next_place at w, here, r.statements); ends = r.ends }
  rest-good env env' at _ _ _ written legal listed same legal-env declares = absurd written
