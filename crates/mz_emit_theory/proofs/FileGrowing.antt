-- Parts that say a text grow by a statement.
use Rattle.std.proofs.Common.{◌≡◌, ℕ, zero, suc, Bool, List, [], ◌∷◌, ◌++◌, length, slice_get, Some, refl, sym, subst, arith, append_assoc, append-nil, length-append}
use Rattle.mz_logic_theory.specs.Signature.{Signature}
use Rattle.mz_logic_theory.specs.Declaration.{Form, plain_form, abstract_form, defined, Declaration, sort_decl, term_decl, assertion_decl, sorts, terms, assertions}
use Rattle.mz_logic_theory.specs.LegalLists.{Statement, declarations}
use Rattle.mz_logic_theory.specs.declared.word.Word.{Word}
use Rattle.mz_logic_theory.proofs.Offered.{Extends, extends_append, extends_itself}
use Rattle.mz_layout_tables.specs.Normal.{Written, Parts}
use Rattle.mz_binary_theory.proofs.Offered.{sorts-many, terms-many, assertions-many}
use Rattle.mz_emit_theory.specs.FileGrowing.{HasOneMore, NothingIsWritten, WritingGrows, RowsAreCounted, AppendedIsNext}
use Rattle.mz_emit_theory.specs.FileWriting.{IsWrittenForm, IsWrittenDeclaration, IsWrittenStatement, HaveNoMore, AreWritten}

-- ---- what is written stays so under further rows

pub record HaveAll (p p' : Parts) : Type 0 where
  pub sorts_stay : Extends p.sorts p'.sorts
  pub terms_stay : Extends p.terms p'.terms
  pub thms_stay : Extends p.thms p'.thms

module _ (gaps : Bool) (p p' : Parts) (more : HaveAll p p') where
  form-stays : (env : List Declaration) (is_local : Bool) (signature : Signature) (ws : List Word) (result : Word) (f g : Form) (bytes : List ℕ) → IsWrittenForm gaps p env is_local signature ws result f g bytes
      → IsWrittenForm gaps p' env is_local signature ws result f g bytes
  form-stays env is_local signature ws result plain_form plain_form bytes (row, mark, empty) = (more.terms_stay (length (terms env)) _ row, mark, empty)
  form-stays env is_local signature ws result (defined ds e) (defined es f) bytes (stream, row, text, body) = (stream, more.terms_stay (length (terms env)) _ row, text, body)
  form-stays env is_local signature ws result _ _ bytes w = w

  declaration-stays : (env : List Declaration) (is_local : Bool) (d e : Declaration) (bytes : List ℕ) → IsWrittenDeclaration gaps p env is_local d e bytes → IsWrittenDeclaration gaps p' env is_local d e bytes
  declaration-stays env is_local (sort_decl m) (sort_decl m') bytes (is, row, empty) = (is, more.sorts_stay (length (sorts env)) m.0 row, empty)
  declaration-stays env is_local (term_decl d) (term_decl e) bytes (same, (ws, result, say, form)) = (same, (ws, result, say, form-stays env is_local d.signature ws result d.form e.form bytes form))
  declaration-stays env is_local (assertion_decl a) (assertion_decl b) bytes (is, w) =
      (is, record { words = w.words; stream = w.stream; row = more.thms_stay (length (assertions env)) _ w.row; say = w.say; text = w.text; dummies = w.dummies; are_dummies = w.are_dummies; body = w.body })
  declaration-stays env is_local _ _ bytes w = w

  statement-stays : (env : List Declaration) (t s : Statement) (w : Written) → IsWrittenStatement gaps p env t s w → IsWrittenStatement gaps p' env t s w
  statement-stays env t s w written = record { mark = written.mark; code = written.code; declaration = declaration-stays env s.is_local t.decl s.decl w.body written.declaration }

  -- a statement more at the end
  all-stay : (env : List Declaration) (ts ss : List Statement) (ws : List Written) (t s : Statement) (w : Written) → AreWritten gaps p env ts ss ws → IsWrittenStatement gaps p' (env ++ declarations ts) t s w → HaveNoMore p' ((env ++ declarations ts) ++ t.decl ∷ [])
      → AreWritten gaps p' env (ts ++ t ∷ []) (ss ++ s ∷ []) (ws ++ w ∷ [])
  all-stay env [] [] [] t s w written one none-left =
      let same : env ++ [] ≡ env = append-nil env in
      (subst (λ (z : List Declaration). IsWrittenStatement gaps p' z t s w) same one, subst (λ (z : List Declaration). HaveNoMore p' (z ++ t.decl ∷ [])) same none-left)
  all-stay env (t' ∷ ts) (s' ∷ ss) (v ∷ ws) t s w (here, all) one none-left =
      let same : env ++ declarations (t' ∷ ts) ≡ (env ++ t'.decl ∷ []) ++ declarations ts = sym (append_assoc env (t'.decl ∷ []) (declarations ts)) in
      (statement-stays env t' s' v here, all-stay (env ++ t'.decl ∷ []) ts ss ws t s w all (subst (λ (z : List Declaration). IsWrittenStatement gaps p' z t s w) same one) (subst (λ (z : List Declaration). HaveNoMore p' (z ++ t.decl ∷ [])) same none-left))
  all-stay env _ _ _ t s w written one none-left = absurd written

-- ---- counts

counted-after : (gaps : Bool) (p : Parts) (env : List Declaration) (ts ss : List Statement) (ws : List Written) → AreWritten gaps p env ts ss ws → HaveNoMore p (env ++ declarations ts)
counted-after gaps p env [] [] [] written = subst (HaveNoMore p) (sym (append-nil env)) written
counted-after gaps p env (t ∷ ts) (s ∷ ss) (w ∷ ws) (here, all) = subst (HaveNoMore p) (append_assoc env (t.decl ∷ []) (declarations ts)) (counted-after gaps p (env ++ t.decl ∷ []) ts ss ws all)
counted-after gaps p env _ _ _ written = absurd written

pub rows-counted : RowsAreCounted
rows-counted gaps p text made written = counted-after gaps p [] text made p.statements written

last-at : {A : Type 0} (xs : List A) (x : A) (n : ℕ) → n ≡ length xs → slice_get (xs ++ x ∷ []) n ≡ Some x
last-at [] x zero is = refl
last-at (y ∷ xs) x (suc n) is = last-at xs x n (omega arith)
last-at _ x _ is = absurd (omega arith)

pub appended-next : AppendedIsNext
appended-next p env counts = (
  λ m. last-at p.sorts m (length (sorts env)) counts.no_sorts,
  (λ r. last-at p.terms r (length (terms env)) counts.no_terms),
  (λ r. last-at p.thms r (length (assertions env)) counts.no_thms),
)

-- ---- one more

pub nothing-written : NothingIsWritten
nothing-written gaps = record { no_sorts = refl; no_terms = refl; no_thms = refl }

abbrev Grown : Parts → Parts → List Declaration → Declaration → Written → Type 0
Grown p p' env d w = HaveAll p p' × HaveNoMore p' (env ++ d ∷ []) × (p'.statements ≡ p.statements ++ w ∷ [])

grown : (p p' : Parts) (env : List Declaration) (d : Declaration) (w : Written) → HaveNoMore p env → HasOneMore p p' d w → Grown p p' env d w
grown p p' env (sort_decl n) w counts (m, is) = subst (λ (q : Parts). Grown p q env (sort_decl n) w) (sym is) (
  record { sorts_stay = extends_append p.sorts (m ∷ []); terms_stay = extends_itself p.terms; thms_stay = extends_itself p.thms },
  record {
    no_sorts = omega (arith, sorts-many env (sort_decl n ∷ []), counts.no_sorts, length-append p.sorts (m ∷ []));
    no_terms = omega (arith, terms-many env (sort_decl n ∷ []), counts.no_terms);
    no_thms = omega (arith, assertions-many env (sort_decl n ∷ []), counts.no_thms);
  },
  refl,
)
grown p p' env (term_decl d) w counts (r, is) = subst (λ (q : Parts). Grown p q env (term_decl d) w) (sym is) (
  record { sorts_stay = extends_itself p.sorts; terms_stay = extends_append p.terms (r ∷ []); thms_stay = extends_itself p.thms },
  record {
    no_sorts = omega (arith, sorts-many env (term_decl d ∷ []), counts.no_sorts);
    no_terms = omega (arith, terms-many env (term_decl d ∷ []), counts.no_terms, length-append p.terms (r ∷ []));
    no_thms = omega (arith, assertions-many env (term_decl d ∷ []), counts.no_thms);
  },
  refl,
)
grown p p' env (assertion_decl a) w counts (r, is) = subst (λ (q : Parts). Grown p q env (assertion_decl a) w) (sym is) (
  record { sorts_stay = extends_itself p.sorts; terms_stay = extends_itself p.terms; thms_stay = extends_append p.thms (r ∷ []) },
  record {
    no_sorts = omega (arith, sorts-many env (assertion_decl a ∷ []), counts.no_sorts);
    no_terms = omega (arith, terms-many env (assertion_decl a ∷ []), counts.no_terms);
    no_thms = omega (arith, assertions-many env (assertion_decl a ∷ []), counts.no_thms, length-append p.thms (r ∷ []));
  },
  refl,
)

pub writing-grows : WritingGrows
writing-grows gaps p p' text made t s w written one-more one =
    let (more, counts, is) = grown p p' (declarations text) t.decl w (rows-counted gaps p text made written) one-more in
    subst (λ (z : List Written). AreWritten gaps p' [] (text ++ t ∷ []) (made ++ s ∷ []) z) (sym is) (all-stay gaps p p' more [] text made p.statements t s w written one counts)
