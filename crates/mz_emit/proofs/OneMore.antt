-- One statement more is written, by the next row of its kind.
use Rattle.std.proofs.Common.{ℕ, suc, Bool, if◌then◌else◌, length-append, ◌≡◌, ◌≤◌, ◌+◌, ◌*◌, false, ◌⊎◌, inl, List, [], ◌∷◌, ◌++◌, length, refl, sym, ap, subst, ◌∙◌, arith}
use Rattle.std.specs.Prelude.{Some, None}
use Rattle.mz_logic_theory.specs.Tree.{Tree, listed}
use Rattle.mz_logic_theory.specs.Signature.{Signature}
use Rattle.mz_logic_theory.specs.Declaration.{plain_form, defined, Assertion, sort_decl, term_decl, assertion_decl, sorts}
use Rattle.mz_logic_theory.specs.Legality.{Each}
use Rattle.mz_logic_theory.specs.LegalLists.{Statement as Marked, declarations}
use Rattle.mz_logic_theory.specs.WordsWritten.{words_of, words_from, result_word}
use Rattle.mz_logic_theory.specs.declared.binder.Binder.{Binder}
use Rattle.mz_logic_theory.specs.declared.binder.SortMods.{SortMods}
use Rattle.mz_layout_tables.specs.Normal.{Row, Written, Parts, row_of_term}
use Rattle.mz_binary_theory.specs.Spelling.{HasKind, is_local_code}
use Rattle.mz_mmu_theory.specs.Statements.{Statement}
use Rattle.mz_mmu_theory.specs.Meaning.{marked}
use Rattle.mz_type.specs.TypedText.{declared}
use Rattle.mz_mmu_theory.specs.Weight.{declaration_weight, statement_weight, weight_of}
use Rattle.mz_emit_theory.specs.AlphaEquivalence.{IsSameForm}
use Rattle.mz_emit_theory.specs.SpelledLists.{form_spelled, decl_spelled, statement_spelled, list_spelled}
use Rattle.mz_emit_theory.specs.FileGrowing.{HasOneMore}
use Rattle.mz_emit_theory.specs.FileWriting.{SayParams, SaySignature, IsWrittenDeclaration, IsWrittenStatement, IsWrittenAssertion, HaveNoMore, IsWrittenAs}
use Rattle.mz_emit_theory.proofs.Offered.{writing-grows, rows-counted, appended-next}
use Rattle.mz_emit_theory.specs.CompiledFile.{with_sort, with_term, with_thm, with_form, with_declaration, term_row, thm_row, definition_code, assertion_code, definition_stream_of, definition_body_of, assertion_stream_of, assertion_body_of}
use Rattle.mz_emit_theory.specs.Gapped.{StatementUses, SayTheirUses}
use Rattle.mz_emit.proofs.Gapped.{uses_more}
use Rattle.mz_emit.proofs.Lengths.{cost_of, sort_more, term_more, thm_more, short_more}
use Rattle.mz_emit.proofs.Speaking.{SaysDefinition, SaysAssertion}
use Rattle.mz_emit.proofs.Weights.{stated_same}

-- a statement with its visibility alone
abbrev pub mark : Statement → Marked
mark s = record { is_local = s.is_local; decl = s.decl }

marked_more : (ss : List Statement) (s : Statement) → marked (ss ++ s ∷ []) ≡ marked ss ++ mark s ∷ []
marked_more [] s = refl
marked_more (t ∷ ss) s = ap (λ ts. mark t ∷ ts) (marked_more ss s)

spelled_more : (ts : List Marked) (t : Marked) → list_spelled (ts ++ t ∷ []) ≡ list_spelled ts ++ statement_spelled t ∷ []
spelled_more [] t = refl
spelled_more (u ∷ ts) t = ap (λ us. statement_spelled u ∷ us) (spelled_more ts t)

pub marked_declared : (ss : List Statement) → declarations (marked ss) ≡ declared ss
marked_declared [] = refl
marked_declared (s ∷ ss) = ap (λ ds. s.decl ∷ ds) (marked_declared ss)

pub words_many : (i : ℕ) (places : List ℕ) (bs : List Binder) → length (words_from i places bs) ≡ length bs
words_many i places [] = refl
words_many i places (b ∷ bs) = ap suc (words_many (suc i) (if b.bound then places ++ i ∷ [] else places) bs)

-- the parts say these statements, of whose theorems the bodies use what the proofs do, in proportion to their weight
pub record HasWritten (gaps : Bool) (ss : List Statement) (p : Parts) : Type 0 where
  pub says : IsWrittenAs gaps p (marked ss) (list_spelled (marked ss))
  pub uses : SayTheirUses ss p.statements
  pub short : cost_of p ≤ 32 * weight_of ss

module _ (gaps : Bool) (ss : List Statement) (p : Parts) (h : HasWritten gaps ss p) where
  pub counted : HaveNoMore p (declared ss)
  counted = subst (HaveNoMore p) (marked_declared ss) (rows-counted gaps p (marked ss) (list_spelled (marked ss)) h.says)

  grown : (p' : Parts) (s : Statement) (w : Written) → HasOneMore p p' s.decl w → p'.statements ≡ p.statements ++ w ∷ []
      → StatementUses s.decl s.proof w.body
      → IsWrittenStatement gaps p' (declared ss) (mark s) (statement_spelled (mark s)) w
      → cost_of p' ≤ cost_of p + 32 * statement_weight (declared ss) s → HasWritten gaps (ss ++ s ∷ []) p'
  grown p' s w more listed using said cost = record {
    says =
        let there = subst (λ env. IsWrittenStatement gaps p' env (mark s) (statement_spelled (mark s)) w) (sym (marked_declared ss)) said in
        let all = writing-grows gaps p p' (marked ss) (list_spelled (marked ss)) (mark s) (statement_spelled (mark s)) w h.says more there in
        let spelled : list_spelled (marked ss) ++ statement_spelled (mark s) ∷ [] ≡ list_spelled (marked (ss ++ s ∷ []))
        = sym (spelled_more (marked ss) (mark s)) ∙ ap list_spelled (sym (marked_more ss s)) in
        subst (λ ts. IsWrittenAs gaps p' ts (list_spelled (marked (ss ++ s ∷ [])))) (sym (marked_more ss s))
        (subst (IsWrittenAs gaps p' (marked ss ++ mark s ∷ [])) spelled all);
    uses = subst (SayTheirUses (ss ++ s ∷ [])) (sym listed) (uses_more ss p.statements s w h.uses using);
    short = short_more p p' ss s h.short cost;
  }

  module _ (s : Statement) where
    stated : (p' : Parts) (w : Written) → HasKind w.code (statement_spelled (mark s))
        → IsWrittenDeclaration gaps p' (declared ss) s.is_local s.decl (decl_spelled s.decl) w.body
        → IsWrittenStatement gaps p' (declared ss) (mark s) (statement_spelled (mark s)) w
    stated p' w kind said = record { mark = refl; code = kind; declaration = said }

    pub sort_next : (m : SortMods) → s.decl ≡ sort_decl m → s.is_local ≡ false → HasWritten gaps (ss ++ s ∷ []) (with_sort p m.0)
    sort_next m e unmarked =
        let w : Written = record { code = 0x04; body = [] } in
        grown (with_sort p m.0) s w
        (subst (λ d. HasOneMore p (with_sort p m.0) d w) (sym e) (m.0, refl)) refl
        (subst (λ d. StatementUses d s.proof []) (sym e) tt)
        (stated (with_sort p m.0) w
        (subst (λ d. HasKind 0x04 (record { is_local = s.is_local; decl = decl_spelled d })) (sym e) (refl, unmarked))
        (subst (λ d. IsWrittenDeclaration gaps (with_sort p m.0) (declared ss) s.is_local d (decl_spelled d) []) (sym e)
        (refl, (appended-next p (declared ss) counted).0 m.0, refl)))
        (omega (arith, sort_more p w m.0))

    pub plain_next : (sg : Signature) → s.decl ≡ term_decl (record { signature = sg; form = plain_form }) → s.is_local ≡ false
        → SaySignature (sorts (declared ss)) (words_of sg.params) (result_word sg.params sg.result) sg
        → HasWritten gaps (ss ++ s ∷ []) (with_term p (row_of_term (words_of sg.params) (result_word sg.params sg.result) None) (record { code = 0x05; body = [] }))
    plain_next sg e unmarked say =
        let w : Written = record { code = 0x05; body = [] } in
        let r : Row = row_of_term (words_of sg.params) (result_word sg.params sg.result) None in
        grown (with_term p r w) s w
        (subst (λ d. HasOneMore p (with_term p r w) d w) (sym e) (r, refl)) refl
        (subst (λ d. StatementUses d s.proof []) (sym e) tt)
        (stated (with_term p r w) w
        (subst (λ d. HasKind 0x05 (record { is_local = s.is_local; decl = decl_spelled d })) (sym e) (inl refl, unmarked))
        (subst (λ d. IsWrittenDeclaration gaps (with_term p r w) (declared ss) s.is_local d (decl_spelled d) []) (sym e)
        ((refl, tt), (words_of sg.params, result_word sg.params sg.result, say, ((appended-next p (declared ss) counted).1 r, unmarked, refl)))))
        (omega (arith, term_more p w r, ap declaration_weight e, length-append (words_of sg.params) (result_word sg.params sg.result ∷ []), words_many 0 [] sg.params))

    pub definition_next : (sg : Signature) (dummies : List Binder) (body : Tree) → s.decl ≡ term_decl (record { signature = sg; form = defined dummies body })
        → ((definition_code s.is_local ≡ 0x05) ⊎ (definition_code s.is_local ≡ 0x0D)) × (s.is_local ≡ is_local_code (definition_code s.is_local))
        → SaySignature (sorts (declared ss)) (words_of sg.params) (result_word sg.params sg.result) sg
        → IsSameForm sg.params (defined dummies body) (form_spelled sg.params (defined dummies body)) → SaysDefinition (declared ss) sg.params dummies body
        → HasWritten gaps (ss ++ s ∷ []) (with_form p s.is_local sg (defined dummies body))
    definition_next sg dummies body e kind say same says =
        let code : ℕ = definition_code s.is_local in
        let stream : List ℕ = definition_stream_of sg.params dummies body in
        let bytes : List ℕ = definition_body_of sg.params dummies body in
        let w : Written = record { code = code; body = bytes } in
        let r : Row = term_row sg (Some stream) in
        grown (with_term p r w) s w
        (subst (λ d. HasOneMore p (with_term p r w) d w) (sym e) (r, refl)) refl
        (subst (λ d. StatementUses d s.proof bytes) (sym e) tt)
        (stated (with_term p r w) w
        (subst (λ d. HasKind code (record { is_local = s.is_local; decl = decl_spelled d })) (sym e) kind)
        (subst (λ d. IsWrittenDeclaration gaps (with_term p r w) (declared ss) s.is_local d (decl_spelled d) bytes) (sym e)
        ((refl, same), (words_of sg.params, result_word sg.params sg.result, say, (stream, (appended-next p (declared ss) counted).1 r, says.text, says.makes gaps)))))
        (omega (arith, term_more p w r, ap declaration_weight e, length-append (words_of sg.params) (result_word sg.params sg.result ∷ []), words_many 0 [] sg.params, says.short))

    pub assertion_next : (a : Assertion) → s.decl ≡ assertion_decl a → HasKind (assertion_code a.is_axiom s.is_local) (record { is_local = s.is_local; decl = assertion_decl a })
        → SayParams (sorts (declared ss)) (words_of a.params) a.params → Each s.dummies (λ _ b. b.deps ≡ []) → SaysAssertion gaps (declared ss) a s.dummies s.proof
        → HasWritten gaps (ss ++ s ∷ []) (with_declaration (declared ss) p s.is_local s.dummies s.proof (assertion_decl a))
    assertion_next a e kind say free says =
        let code : ℕ = assertion_code a.is_axiom s.is_local in
        let stream : List ℕ = assertion_stream_of a in
        let bytes : List ℕ = assertion_body_of (declared ss) a.params s.dummies (listed a.hyps) a.conclusion s.proof in
        let w : Written = record { code = code; body = bytes } in
        let r : Row = thm_row a stream in
        let said : IsWrittenAssertion gaps (with_thm p r w) (declared ss) a bytes = record {
          words = words_of a.params;
          stream = stream;
          row = (appended-next p (declared ss) counted).2 r;
          say = say;
          text = says.text;
          dummies = s.dummies;
          are_dummies = free;
          body = says.makes;
        } in
        grown (with_thm p r w) s w
        (subst (λ d. HasOneMore p (with_thm p r w) d w) (sym e) (r, refl)) refl
        (subst (λ d. StatementUses d s.proof bytes) (sym e) says.uses)
        (stated (with_thm p r w) w
        (subst (λ d. HasKind code (record { is_local = s.is_local; decl = decl_spelled d })) (sym e) kind)
        (subst (λ d. IsWrittenDeclaration gaps (with_thm p r w) (declared ss) s.is_local d (decl_spelled d) bytes) (sym e) (refl, said)))
        (omega (arith, thm_more p w r, ap declaration_weight e, words_many 0 [] a.params, says.short, stated_same (declared ss) s.proof))
