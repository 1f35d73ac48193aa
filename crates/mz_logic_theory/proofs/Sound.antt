-- In a legal environment the sides of a conversion have one sort, and what is derived has a provable sort.
use Rattle.std.proofs.Common.{ℕ, zero, suc, ◌≡◌, List, [], ◌∷◌, ◌++◌, slice_get, Some, refl, sym, ap, ◌∙◌, subst}
use Rattle.std.proofs.lemmas.Option.{none-some}
use Rattle.mz_logic_theory.specs.Tree.{Tree, Trees, app, none, more, instance, followed_by, variables}
use Rattle.mz_logic_theory.specs.Signature.{Signature}
use Rattle.mz_logic_theory.specs.Declaration.{defined, Term, Assertion, Declaration, sort_decl, term_decl, assertion_decl, sorts, terms, signatures, assertions}
use Rattle.mz_logic_theory.specs.Modifiers.{MayBeClaimSort}
use Rattle.mz_logic_theory.specs.Sorts.{HasSort, Fits, IsSorted, HasProvable, AreProvable}
use Rattle.mz_logic_theory.specs.Legality.{Each, IsDummy}
use Rattle.mz_logic_theory.specs.Conversions.{Conversion, refl_conv, sym_conv, cong_conv, unfold_conv, gap_conv, AreFresh, Between}
use Rattle.mz_logic_theory.specs.Derivations.{Derivation, hypothesis, cite, convert, gap, Derives}
use Rattle.mz_logic_theory.specs.declared.binder.Binder.{Binder}
use Rattle.mz_logic_theory.proofs.Instance.{one_at, sort_of_instance}
use Rattle.mz_logic_theory.specs.Laws.{BoundArePlain}
use Rattle.mz_logic_theory.proofs.Rules.{one_sort}

-- the body has the result's sort over the parameters and the dummies
abbrev pub TermRight : List Declaration → Term → Type 0
TermRight env d = (dummies : List Binder) (body : Tree) → d.form ≡ defined dummies body
    → HasSort (signatures env) (d.signature.params ++ dummies) body d.signature.result.sort × Each dummies (λ _ b. IsDummy b)

abbrev pub AssertionRight : List Declaration → Assertion → Type 0
AssertionRight env a = BoundArePlain a.params × AreProvable env a.params a.hyps × HasProvable env a.params a.conclusion

pub record RightEnv (env : List Declaration) : Type 0 where
  pub terms_right : (t : ℕ) (d : Term) → slice_get (terms env) t ≡ Some d → TermRight env d
  pub assertions_right : (T : ℕ) (a : Assertion) → slice_get (assertions env) T ≡ Some a → AssertionRight env a

pub signature_of_term : (env : List Declaration) (t : ℕ) (d : Term) → slice_get (terms env) t ≡ Some d → slice_get (signatures env) t ≡ Some d.signature
signature_of_term [] t d at = absurd (none-some _ at)
signature_of_term (sort_decl _ ∷ env) t d at = signature_of_term env t d at
signature_of_term (term_decl c ∷ env) zero d at = ap (λ x. Some x.signature) (one_at refl at)
signature_of_term (term_decl c ∷ env) (suc t) d at = signature_of_term env t d at
signature_of_term (assertion_decl _ ∷ env) t d at = signature_of_term env t d at

-- ---- the operands and fresh variables of a definition

pub fits_followed_by : (sigs : List Signature) (ctx : List Binder) (es fs : Trees) (ps qs : List Binder)
    → Fits sigs ctx es ps → Fits sigs ctx fs qs → Fits sigs ctx (followed_by es fs) (ps ++ qs)
fits_followed_by sigs ctx none fs [] qs h k = k
fits_followed_by sigs ctx none fs (p ∷ ps) qs h k = absurd h
fits_followed_by sigs ctx (more e es) fs [] qs h k = absurd h
fits_followed_by sigs ctx (more e es) fs (p ∷ ps) qs (h, bd, rest) k = (h, bd, fits_followed_by sigs ctx es fs ps qs rest k)

pub fresh_fit : (sigs : List Signature) (ctx : List Binder) (es : Trees) (ys : List ℕ) (bs : List Binder) → AreFresh ctx es ys bs → Fits sigs ctx (variables ys) bs
fresh_fit sigs ctx es [] [] h = tt
fresh_fit sigs ctx es [] (b ∷ bs) h = absurd h
fresh_fit sigs ctx es (y ∷ ys) [] h = absurd h
fresh_fit sigs ctx es (y ∷ ys) (b ∷ bs) ((c, at, bd, is), _, _, rest) =
    ((c, at, is), λ _. (y, c, refl, at, bd), fresh_fit sigs ctx es ys bs rest)

module _ (env : List Declaration) (ctx : List Binder) (right : RightEnv env) where
  -- both sides of a conversion have one sort
  pub same_sort : (c : Conversion) (l r : Tree) (s : ℕ) → Between env ctx c l r → HasSort (signatures env) ctx l s → HasSort (signatures env) ctx r s
  same_sort (refl_conv e) l r s (_, _, is, is') h = subst (λ x. HasSort (signatures env) ctx x s) (is ∙ sym is') h
  same_sort (sym_conv c) l r s (_, (s', h'), k) h =
      subst (HasSort (signatures env) ctx r) (one_sort (signatures env) ctx l s' s (same_sort c r l s' k h') h) h'
  same_sort (cong_conv t cs) l r s (_, (s', h'), (ls, rs, is, is', _)) h =
      let k : HasSort (signatures env) ctx (app t ls) s = subst (λ x. HasSort (signatures env) ctx x s) is h in
      let k' : HasSort (signatures env) ctx (app t rs) s' = subst (λ x. HasSort (signatures env) ctx x s') is' h' in
      subst (HasSort (signatures env) ctx r) (sym k'.2 ∙ ap (λ d. d.result.sort) (one_at k'.1 k.1) ∙ k.2) h'
  same_sort (unfold_conv t es ys c) l r s (_, _, is, (d, dummies, body, (at, form), fits, fresh, k)) h =
      let h' : HasSort (signatures env) ctx (app t es) s = subst (λ x. HasSort (signatures env) ctx x s) is h in
      let same : d.signature.result.sort ≡ s = ap (λ x. x.result.sort) (one_at (signature_of_term env t d at) h'.1) ∙ h'.2 in
      same_sort c (instance (followed_by es (variables ys)) body) r s k
      (sort_of_instance (signatures env) ctx (d.signature.params ++ dummies) (followed_by es (variables ys))
      (fits_followed_by (signatures env) ctx es (variables ys) d.signature.params dummies fits (fresh_fit (signatures env) ctx es ys dummies fresh))
      body s (subst (HasSort (signatures env) (d.signature.params ++ dummies) body) same (right.terms_right t d at dummies body form).0))
  same_sort (gap_conv a b) l r s (_, _, _, _, (s', h', k)) h = subst (HasSort (signatures env) ctx r) (one_sort (signatures env) ctx l s' s h' h) k

  -- what is derived from provable hypotheses has a provable sort
  pub derived_is_provable : (hyps : Trees) → AreProvable env ctx hyps → (d : Derivation) (e : Tree) → Derives env ctx hyps d e → HasProvable env ctx e
  derived_is_provable hyps given (hypothesis i) e at = given i e at
  derived_is_provable hyps given (cite T es ds) e (a, at, is, fits, _, _) =
      let k = (right.assertions_right T a at).2 in
      (k.0, subst (λ x. HasSort (signatures env) ctx x k.0) (sym is) (sort_of_instance (signatures env) ctx a.params es fits a.conclusion k.0 k.1), k.2)
  derived_is_provable hyps given (gap f) e h = h.1
  derived_is_provable hyps given (convert f c d) e (is, (g, between, h)) = go (derived_is_provable hyps given d g h) (sorted_left c f g between)
    where
      sorted_left : (c : Conversion) (l r : Tree) → Between env ctx c l r → IsSorted env ctx l
      sorted_left (refl_conv _) l r h = h.0
      sorted_left (sym_conv _) l r h = h.0
      sorted_left (cong_conv _ _) l r h = h.0
      sorted_left (unfold_conv _ _ _ _) l r h = h.0
      sorted_left (gap_conv _ _) l r h = h.0

      go : HasProvable env ctx g → IsSorted env ctx f → HasProvable env ctx e
      go (s, k, provable) (s', k') = (
        s',
        subst (λ x. HasSort (signatures env) ctx x s') (sym is) k',
        subst (MayBeClaimSort (sorts env)) (one_sort (signatures env) ctx g s s' k (same_sort c f g s' between k')) provable,
      )
