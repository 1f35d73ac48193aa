-- The lines of a text's public statements are the same under either numbers of terms.
use Rattle.std.proofs.Common.{◌≡◌, ◌≤◌, ◌∙◌, ◌++◌, ℕ, suc, List, [], ◌∷◌, length, Bool, false, Some, None, ap, ap₂, sym, refl, arith}
use Rattle.std.specs.Prelude.{if◌then◌else◌}
use Rattle.std.proofs.lemmas.Bool.{or_parts}
use Rattle.mz_logic_theory.specs.Tree.{Tree, Trees, var, app, none, more}
use Rattle.mz_logic_theory.specs.Signature.{Signature}
use Rattle.mz_logic_theory.specs.Declaration.{Form, plain_form, abstract_form, defined, Declaration, sort_decl, term_decl, assertion_decl, signatures}
use Rattle.mz_logic_theory.specs.Legality.{InRange, AllInRange, NamesThere}
use Rattle.mz_logic_theory.specs.LegalLists.{LegalAfter, Legal, gap_free}
use Rattle.mz_logic_theory.specs.declared.binder.Binder.{Binder}
use Rattle.mz_mmu_theory.specs.Statements.{Statement}
use Rattle.mz_mmu_theory.specs.Meaning.{marked}
use Rattle.mz_prefix.specs.Lines.{PlainBinder, Tokens, term_line, assert_line, definition_line}
use Rattle.mz_prefix.specs.NamedDeclarations.{Vocabulary, plain_type, plain_param, plain_dummy, plain_dummies, plain_binders, formula_of, formulas_of, kind_of, term_line_of, line_of_decl, lines_of, decls_of}
use Rattle.mz_prefix.specs.PublicPart.{public_number, renamed, all_renamed, mentions_local, any_mentions_local, shown, public_decl, public_decls, public_part, Hides, IsSayable}
use Rattle.mz_prefix.proofs.Beside.{all-public}
use Rattle.mz_prefix.proofs.Legal.{IsAt, at-next}
use Rattle.mz_prefix.specs.Wording.{local_terms, publics_named, vocabulary_of}
use Rattle.mz_prefix.proofs.Cases.{chosen}
use Rattle.mz_prefix.proofs.Spoken.{KeepsName, same-tokens}
use Rattle.mz_prefix.proofs.Printing.{spoken, named, AreWanted, keeps-names, few-terms}

-- ---- numbers that aren't changed

mutual
  own-tree : (e : Tree) → renamed (λ t. t) e ≡ e
  own-tree (var x) = refl
  own-tree (app t es) = ap (app t) (own-trees es)

  own-trees : (es : Trees) → all_renamed (λ t. t) es ≡ es
  own-trees none = refl
  own-trees (more e es) = ap₂ more (own-tree e) (own-trees es)

module _ (all : List Statement) (hidden : Tree → Bool) (n : ℕ) where
  abbrev ls : List Bool
  ls = local_terms all

  abbrev f : ℕ → ℕ
  f = public_number ls

  abbrev v : Vocabulary
  v = vocabulary_of all

  abbrev w : Vocabulary
  w = spoken all

  abbrev own : ℕ → ℕ
  own t = t

  -- ---- binders

  same-dummies : (x : ℕ) (ds : List Binder) → plain_dummies w x ds ≡ plain_dummies v x ds
  same-dummies x [] = refl
  same-dummies x (d ∷ ds) = ap (λ (bs : List PlainBinder). plain_dummy v x d ∷ bs) (same-dummies (suc x) ds)

  same-binders : (x : ℕ) (bs ds : List Binder) → plain_binders w x bs ds ≡ plain_binders v x bs ds
  same-binders x [] ds = same-dummies x ds
  same-binders x (b ∷ bs) ds = ap (λ (cs : List PlainBinder). plain_param v x b ∷ cs) (same-binders (suc x) bs ds)

  module _ (env : List Declaration) (few : length (signatures env) ≤ length ls) where
    same-formula : (m : ℕ) (e : Tree) → mentions_local ls e ≡ false → InRange (signatures env) m e → formula_of w (renamed f e) ≡ formula_of v (renamed own e)
    same-formula m e none_ range =
        same-tokens f v.term w.term v.variable e
        (all-public ls (KeepsName f v.term w.term v.variable) (signatures env) (λ t less public. keeps-names all hidden n t (omega (arith, less, few)) public) m e none_ range)
        ∙ sym (ap (formula_of v) (own-tree e))

    same-formulas : (m : ℕ) (es : Trees) → any_mentions_local ls es ≡ false → AllInRange (signatures env) m es → formulas_of w (all_renamed f es) ≡ formulas_of v (all_renamed own es)
    same-formulas m none none_ range = refl
    same-formulas m (more e es) none_ range =
        let parts = or_parts (mentions_local ls e) (any_mentions_local ls es) none_ in
        ap₂ ◌∷◌ (same-formula m e parts.0 range.0) (same-formulas m es parts.1 range.1)

    same-term : Hides ls hidden → (name : List ℕ) (sig : Signature) (form : Form) → NamesThere env (term_decl (record { signature = sig; form = form }))
        → term_line_of w name sig (shown hidden f form) ≡ term_line_of v name sig (shown hidden own form)
    same-term hides name sig plain_form names = ap (λ (bs : List PlainBinder). term_line name bs (plain_type v sig.result.sort sig.result.deps)) (same-binders 0 sig.params [])
    same-term hides name sig abstract_form names = ap (λ (bs : List PlainBinder). definition_line name bs (plain_type v sig.result.sort sig.result.deps) None) (same-binders 0 sig.params [])
    same-term hides name sig (defined ds e) names =
        chosen (λ (b : Bool). term_line_of w name sig (if b then abstract_form else defined ds (renamed f e)) ≡ term_line_of v name sig (if b then abstract_form else defined ds (renamed own e))) (hidden e)
        (λ is. ap (λ (bs : List PlainBinder). definition_line name bs (plain_type v sig.result.sort sig.result.deps) None) (same-binders 0 sig.params []))
        (λ is. ap₂ (λ (bs : List PlainBinder) (ts : Tokens). definition_line name bs (plain_type v sig.result.sort sig.result.deps) (Some ts)) (same-binders 0 sig.params ds)
        (same-formula (length (sig.params ++ ds)) e (hides e is) names.4.0))

    same-line : Hides ls hidden → (name : List ℕ) (d : Declaration) → IsSayable ls d → NamesThere env d → line_of_decl w name (public_decl hidden f d) ≡ line_of_decl v name (public_decl hidden own d)
    same-line hides name (sort_decl m) sayable names = refl
    same-line hides name (term_decl d) sayable names = same-term hides name d.signature d.form names
    same-line hides name (assertion_decl a) sayable names =
        ap₂ (λ (bs : List PlainBinder) (hyps : List Tokens). assert_line (kind_of a.is_axiom) name bs hyps (formula_of w (renamed f a.conclusion))) (same-binders 0 a.params [])
        (same-formulas (length a.params) a.hyps sayable.0 names.1)
        ∙ ap (λ (ts : Tokens). assert_line (kind_of a.is_axiom) name (plain_binders v 0 a.params []) (formulas_of v (all_renamed own a.hyps)) ts)
        (same-formula (length a.params) a.conclusion sayable.1 names.2)

  -- ---- all statements

  lines-after : Hides ls hidden → (ss : List Statement) (env : List Declaration) → IsAt ls env (marked ss) → AreWanted all hidden n ss → LegalAfter gap_free env (marked ss)
      → lines_of w (named hidden f ss) ≡ lines_of v (publics_named hidden ss)
  lines-after hides [] env at wanted legal = refl
  lines-after hides (s ∷ ss) env at wanted legal =
      let rest = lines-after hides ss (env ++ s.decl ∷ []) (at-next ls env (record { is_local = s.is_local; decl = s.decl }) (marked ss) at) wanted.1 legal.1 in
      chosen (λ (b : Bool). lines_of w (if b then named hidden f ss else record { name = s.name; decl = public_decl hidden f s.decl } ∷ named hidden f ss)
      ≡ lines_of v (if b then publics_named hidden ss else record { name = s.name; decl = public_decl hidden own s.decl } ∷ publics_named hidden ss)) s.is_local
      (λ local. rest)
      (λ public. ap₂ ◌∷◌ (same-line env (few-terms all hidden n env (s ∷ ss) at) hides s.name s.decl (wanted.0 public).0 legal.0.0.0) rest)

  pub same-lines : Hides ls hidden → AreWanted all hidden n all → Legal (marked all) → lines_of w (named hidden f all) ≡ lines_of v (publics_named hidden all)
  same-lines hides wanted legal = lines-after hides all [] (record { before = []; all = refl; place = refl }) wanted legal

  decls-of : (ss : List Statement) → decls_of (named hidden f ss) ≡ public_decls hidden f (marked ss)
  decls-of [] = refl
  decls-of (s ∷ ss) =
      let rest = decls-of ss in
      chosen (λ (b : Bool). decls_of (if b then named hidden f ss else record { name = s.name; decl = public_decl hidden f s.decl } ∷ named hidden f ss)
      ≡ (if b then public_decls hidden f (marked ss) else public_decl hidden f s.decl ∷ public_decls hidden f (marked ss))) s.is_local
      (λ local. rest) (λ public. ap (λ (ds : List Declaration). public_decl hidden f s.decl ∷ ds) rest)

  -- what is declared is the public part
  pub same-decls : decls_of (named hidden f all) ≡ public_part hidden (marked all)
  same-decls = decls-of all
