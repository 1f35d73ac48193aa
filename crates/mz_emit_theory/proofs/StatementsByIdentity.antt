-- The body of a written statement runs by identity where it runs by the standard machine, and the rows after it share.
use Rattle.std.proofs.Common.{◌≡◌, ◌+◌, ◌∙◌, ℕ, Bool, false, List, [], ◌∷◌, ◌++◌, length, map, slice_get, Option, Some, None, refl, sym, ap, subst, arith}
use Rattle.std.specs.List.{range_with_len}
use Rattle.mz_cmd.specs.declared.code.StatementCode.TheVariants as codes
use Rattle.mz_logic_theory.specs.Tree.{Tree}
use Rattle.mz_logic_theory.specs.Signature.{Signature}
use Rattle.mz_logic_theory.specs.Declaration.{Form, plain_form, abstract_form, defined, Assertion, Declaration, sort_decl, term_decl, assertion_decl, sorts, terms, assertions}
use Rattle.mz_logic_theory.specs.Legality.{Each, IsLegalDecl, IsDummy}
use Rattle.mz_logic_theory.specs.Modifiers.{MayBeDummySort}
use Rattle.mz_logic_theory.specs.declared.binder.Binder.{Binder}
use Rattle.mz_logic_theory.specs.declared.word.Word.{Word}
use Rattle.mz_logic_theory.proofs.Offered.{each_from_all, assertions_are_sorted, terms_are_sorted}
use Rattle.mz_layout_tables.specs.Normal.{Parts, row_of_term, file_of}
use Rattle.mz_layout_tables.specs.Standing.{Fit}
use Rattle.mz_machine_theory.specs.Spells.{SpelledTerm, SpelledThm, SpellsForm}
use Rattle.mz_machine_theory.proofs.Offered.{some_is, pairs-long}
use Rattle.mz_layout_tables.specs.Heads.{body_bytes}
use Rattle.mz_machine_theory.specs.FileRows.{taken_by, term_of_file, thm_of_file, rows_taken}
use Rattle.mz_machine_theory.specs.Lists.{definition_of, assertion_of}
use Rattle.mz_machine_theory.specs.MachineState.{RowsBefore, Declares}
use Rattle.mz_binary_theory.specs.Spelling.{SpellsRow}
use Rattle.mz_binary_theory.proofs.Offered.{terms-many, rows-after}
use Rattle.mz_emit_theory.specs.AlphaEquivalence.{IsSameTerm, IsSameEnv}
use Rattle.mz_emit_theory.specs.SharedRows.{AreSharedRows}
use Rattle.mz_emit_theory.proofs.LongerRows.{shared-with-term}
use Rattle.mz_emit_theory.proofs.Statements.{assertions-run, definitions-run}
use Rattle.mz_emit_theory.proofs.RowsHold.{definition-row}
use Rattle.mz_emit_theory.specs.FileWriting.{SaySignature, IsWrittenForm, IsWrittenAssertion, IsWrittenDeclaration}
use Rattle.mz_emit_theory.proofs.BodiesByIdentity.{RunsToo, BodyRunsToo}

-- a plain term's row has no stream
no-stream : (sigs : List Signature) (params : List Binder) (o : Option (List ℕ)) → SpellsForm sigs params o plain_form → (stream : List ℕ) → o ≡ Some stream → ⊥
no-stream sigs params None h stream is = cc
no-stream sigs params (Some s) h stream is = h

module _ (p : Parts) (fit : Fit p) (env env' : List Declaration) (same : IsSameEnv env env') (declares : Declares (rows_taken (file_of p) (taken_by env')) env')
    (shared : AreSharedRows (rows_taken (file_of p) (taken_by env')).terms) (body next : ℕ) (bytes : List ℕ) (bytes-are : body_bytes (file_of p) body next ≡ bytes) where
  abbrev file : List ℕ
  file = file_of p

  abbrev tables : RowsBefore
  tables = rows_taken file (taken_by env')

  -- the row that the next term has, and the next assertion
  abbrev term-row : SpelledTerm
  term-row = term_of_file file (length (terms env'))

  abbrev thm-row : SpelledThm
  thm-row = thm_of_file file (length (assertions env'))

  -- the declaration's body runs by identity too, and the rows after it share
  pub record GoesOn (d : Declaration) : Type 0 where
    pub runs : BodyRunsToo file (taken_by env') body next d
    pub shares : AreSharedRows (rows_taken file (taken_by (env' ++ d ∷ []))).terms

  -- ---- rows

  same-rows : (d : Declaration) → terms (d ∷ []) ≡ [] → AreSharedRows (rows_taken file (taken_by (env' ++ d ∷ []))).terms
  same-rows d none =
      let many : length (terms (env' ++ d ∷ [])) ≡ length (terms env') = terms-many env' (d ∷ []) ∙ ap (λ (ts : List _). length (terms env') + length ts) none ∙ omega arith in
      subst AreSharedRows (sym (ap (λ (k : ℕ). map (term_of_file file) (range_with_len 0 k)) many)) shared

  one-row : (d : Declaration) → length (terms (d ∷ [])) ≡ 1 → AreSharedRows (tables.terms ++ term-row ∷ []) → AreSharedRows (rows_taken file (taken_by (env' ++ d ∷ []))).terms
  one-row d one rows =
      let many : length (terms (env' ++ d ∷ [])) ≡ length (terms env') + 1 = terms-many env' (d ∷ []) ∙ ap (λ (k : ℕ). length (terms env') + k) one in
      subst AreSharedRows (sym (ap (λ (k : ℕ). map (term_of_file file) (range_with_len 0 k)) many ∙ ap (λ (t : RowsBefore). t.terms) (rows-after file (taken_by env') body next codes.Term))) rows

  -- ---- terms

  abbrev TermGoesOn : Type 0
  TermGoesOn = ((stream : List ℕ) → term-row.stream ≡ Some stream → RunsToo tables (definition_of term-row stream) body (body_bytes file body next)) × AreSharedRows (tables.terms ++ term-row ∷ [])

  definition-goes : (signature : Signature) (ws : List Word) (result : Word) (dummies dummies' : List Binder) (e e' : Tree) → IsLegalDecl env (term_decl (record { signature = signature; form = defined dummies e }))
      → SaySignature (sorts env) ws result signature → (is_local : Bool) → IsWrittenForm false p env is_local signature ws result (defined dummies e) (defined dummies' e') bytes → TermGoesOn
  definition-goes signature ws result dummies dummies' e e' legal say is_local (stream, row, text, shares) =
      let (_, params, are-dummies, _, _, _) = (terms_are_sorted env (record { signature = signature; form = defined dummies e })).0 legal in
      let plain-ones : Each dummies (λ _ b. b.deps ≡ []) = λ i x here. (each_from_all (λ b. IsDummy b × MayBeDummySort (sorts env) b.sort) dummies are-dummies i x here).0.1 in
      let here : slice_get p.terms (length (terms env')) ≡ Some (row_of_term ws result (Some stream)) =
      subst (λ (n : ℕ). slice_get p.terms n ≡ Some (row_of_term ws result (Some stream))) (pairs-long IsSameTerm (terms env) (terms env') same.terms_are) row in
      let (further, is) = definition-row p fit (length (terms env')) signature ws result stream say.said here in
      let (too, rows) = definitions-run tables env env' declares same shared signature dummies dummies' e e' stream further body bytes params plain-ones text shares term-row is in
      let whole : term-row.stream ≡ Some (stream ++ further) = ap (λ (r : SpelledTerm). r.stream) is in (
        (λ s s-is.
            subst (λ (z : List ℕ). RunsToo tables (definition_of term-row z) body (body_bytes file body next)) (some_is whole s-is)
            (subst (RunsToo tables (definition_of term-row (stream ++ further)) body) (sym bytes-are) too)),
        rows,
      )

  term-goes : (is_local : Bool) (signature : Signature) (form form' : Form) (ws : List Word) (result : Word) → IsLegalDecl env (term_decl (record { signature = signature; form = form }))
      → SaySignature (sorts env) ws result signature → (sigs : List Signature) (params : List Binder) → SpellsForm sigs params term-row.stream form'
      → IsWrittenForm false p env is_local signature ws result form form' bytes → TermGoesOn
  term-goes is_local signature plain_form plain_form ws result legal say sigs params spells w =
      (λ stream is. absurd (no-stream sigs params term-row.stream spells stream is), shared-with-term tables.terms term-row shared (λ stream is. absurd (no-stream sigs params term-row.stream spells stream is)))
  term-goes is_local signature (defined ds e) (defined ds' e') ws result legal say sigs params spells w = definition-goes signature ws result ds ds' e e' legal say is_local w
  term-goes is_local signature _ _ ws result legal say sigs params spells w = absurd w

  -- ---- axioms and theorems

  assertion-goes : (a : Assertion) → IsLegalDecl env (assertion_decl a) → thm-row.params ≡ a.params → IsWrittenAssertion false p env a bytes
      → RunsToo tables (assertion_of a.is_axiom thm-row) body (body_bytes file body next)
  assertion-goes a legal params-are w =
      let (_, params, _, _) = (assertions_are_sorted env a).0 legal in
      subst (λ (ps : List Binder). RunsToo tables (assertion_of a.is_axiom (record { params = ps; stream = thm-row.stream })) body (body_bytes file body next)) (sym params-are)
      (subst (RunsToo tables (assertion_of a.is_axiom (record { params = a.params; stream = thm-row.stream })) body) (sym bytes-are)
      (assertions-run tables env env' declares same shared a w.dummies thm-row.stream body bytes params w.are_dummies w.body))

  -- ---- any statement

  pub goes-on : (is_local : Bool) (d d' : Declaration) → IsLegalDecl env d → SpellsRow file env' d' → IsWrittenDeclaration false p env is_local d d' bytes → GoesOn d'
  goes-on is_local (sort_decl m) (sort_decl m') legal row w = record { runs = tt; shares = same-rows (sort_decl m') refl }
  goes-on is_local (term_decl d) (term_decl d') legal (_, (_, spells)) (_, (ws, result, say, form)) =
      let (runs, rows) = term-goes is_local d.signature d.form d'.form ws result legal say _ _ spells form in
      record { runs = runs; shares = one-row (term_decl d') refl rows }
  goes-on is_local (assertion_decl a) (assertion_decl a') legal (_, (params, _)) (is, w) = record {
    runs = subst (λ (z : Assertion). RunsToo tables (assertion_of z.is_axiom thm-row) body (body_bytes file body next)) is (assertion-goes a legal (params ∙ ap (λ (z : Assertion). z.params) (sym is)) w);
    shares = same-rows (assertion_decl a') refl;
  }
  goes-on is_local _ _ legal row w = absurd w
