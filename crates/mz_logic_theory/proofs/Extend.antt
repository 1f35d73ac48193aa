-- What holds over an environment and a context holds over longer ones.
use Rattle.std.proofs.Common.{ℕ, zero, suc, ◌≡◌, ◌≤◌, List, [], ◌∷◌, ◌++◌, slice_get, length, Some, refl, sym, ap, ◌∙◌, subst, inl, inr, arith, append-nil}
use Rattle.std.proofs.lemmas.Option.{none-some}
use Rattle.mz_logic_theory.specs.Tree.{Tree, Trees, var, app, none, more, operand, instance, instances, followed_by, variables}
use Rattle.mz_logic_theory.specs.Signature.{Signature}
use Rattle.mz_logic_theory.specs.Declaration.{Declaration, sort_decl, term_decl, assertion_decl, sorts, terms, signatures, assertions}
use Rattle.mz_logic_theory.specs.Modifiers.{MayBeClaimSort}
use Rattle.mz_logic_theory.specs.Sorts.{IsBoundVar, HasSort, Fits, IsSorted}
use Rattle.mz_logic_theory.specs.Variables.{InV, InSomeV, AreDisjoint}
use Rattle.mz_logic_theory.specs.Conversions.{Conversion, Conversions, refl_conv, sym_conv, cong_conv, unfold_conv, gap_conv, no_convs, more_convs, IsBoundOf, AreFresh, Between, AllBetween}
use Rattle.mz_logic_theory.specs.Derivations.{Derivation, Derivations, hypothesis, cite, convert, gap, no_derivs, more_derivs, Derives, AllDerive}
use Rattle.mz_logic_theory.specs.declared.binder.Binder.{Binder}
use Rattle.mz_logic_theory.proofs.Instance.{one_at}
use Rattle.mz_logic_theory.proofs.AreDisjoint.{operand_has_sort}

-- ys has what xs has, at the same places
abbrev pub Extends : {A : Type 0} → List A → List A → Type 0
Extends {A} xs ys = (i : ℕ) (x : A) → slice_get xs i ≡ Some x → slice_get ys i ≡ Some x

pub extends_append : {A : Type 0} (xs ys : List A) → Extends xs (xs ++ ys)
extends_append [] ys i x at = absurd (none-some _ at)
extends_append (a ∷ xs) ys zero x at = at
extends_append (a ∷ xs) ys (suc i) x at = extends_append xs ys i x at

pub extends_itself : {A : Type 0} (xs : List A) → Extends xs xs
extends_itself xs i x at = at

pub bound_var_extends : (ctx ctx' : List Binder) → Extends ctx ctx' → (e : Tree) → IsBoundVar ctx e → IsBoundVar ctx' e
bound_var_extends ctx ctx' longer e (x, b, is, at, bd) = (x, b, is, longer x b at, bd)

mutual
  pub sort_extends : (sigs sigs' : List Signature) (ctx ctx' : List Binder) → Extends sigs sigs' → Extends ctx ctx'
      → (e : Tree) (s : ℕ) → HasSort sigs ctx e s → HasSort sigs' ctx' e s
  sort_extends sigs sigs' ctx ctx' m l (var x) s (b, at, is) = (b, l x b at, is)
  sort_extends sigs sigs' ctx ctx' m l (app t es) s (d, at, is, fits) = (d, m t d at, is, fits_extends sigs sigs' ctx ctx' m l es d.params fits)

  pub fits_extends : (sigs sigs' : List Signature) (ctx ctx' : List Binder) → Extends sigs sigs' → Extends ctx ctx'
      → (es : Trees) (ps : List Binder) → Fits sigs ctx es ps → Fits sigs' ctx' es ps
  fits_extends sigs sigs' ctx ctx' m l none [] fits = tt
  fits_extends sigs sigs' ctx ctx' m l none (p ∷ ps) fits = absurd fits
  fits_extends sigs sigs' ctx ctx' m l (more e es) [] fits = absurd fits
  fits_extends sigs sigs' ctx ctx' m l (more e es) (p ∷ ps) (h, bd, rest) =
      (sort_extends sigs sigs' ctx ctx' m l e p.sort h, λ is. bound_var_extends ctx ctx' l e (bd is), fits_extends sigs sigs' ctx ctx' m l es ps rest)

-- V in a longer context is V, for an expression that has a sort in the shorter one
mutual
  pub in_v_back : (sigs : List Signature) (ctx ctx' : List Binder) → Extends ctx ctx' → (x : ℕ) (e : Tree) (s : ℕ) → HasSort sigs ctx e s
      → InV ctx' x e → InV ctx x e
  in_v_back sigs ctx ctx' l x (var y) s (b, at, is) (c, at', h) =
      (c, subst (λ d. slice_get ctx y ≡ Some d) (one_at (l y b at) at') at, h)
  in_v_back sigs ctx ctx' l x (app t es) s (d, at, is, fits) h = in_some_v_back sigs ctx ctx' l x es d.params fits h

  pub in_some_v_back : (sigs : List Signature) (ctx ctx' : List Binder) → Extends ctx ctx' → (x : ℕ) (es : Trees) (ps : List Binder) → Fits sigs ctx es ps
      → InSomeV ctx' x es → InSomeV ctx x es
  in_some_v_back sigs ctx ctx' l x none ps fits h = absurd h
  in_some_v_back sigs ctx ctx' l x (more e es) [] fits h = absurd fits
  in_some_v_back sigs ctx ctx' l x (more e es) (p ∷ ps) fits (inl h) = inl (in_v_back sigs ctx ctx' l x e p.sort fits.0 h)
  in_some_v_back sigs ctx ctx' l x (more e es) (p ∷ ps) fits (inr h) = inr (in_some_v_back sigs ctx ctx' l x es ps fits.2 h)

mutual
  pub in_v_extends : (ctx ctx' : List Binder) → Extends ctx ctx' → (x : ℕ) (e : Tree) → InV ctx x e → InV ctx' x e
  in_v_extends ctx ctx' l x (var y) (b, at, h) = (b, l y b at, h)
  in_v_extends ctx ctx' l x (app t es) h = in_some_v_extends ctx ctx' l x es h

  pub in_some_v_extends : (ctx ctx' : List Binder) → Extends ctx ctx' → (x : ℕ) (es : Trees) → InSomeV ctx x es → InSomeV ctx' x es
  in_some_v_extends ctx ctx' l x none h = absurd h
  in_some_v_extends ctx ctx' l x (more e es) (inl h) = inl (in_v_extends ctx ctx' l x e h)
  in_some_v_extends ctx ctx' l x (more e es) (inr h) = inr (in_some_v_extends ctx ctx' l x es h)

pub disjoint_extends : (sigs : List Signature) (ctx ctx' : List Binder) → Extends ctx ctx' → (es : Trees) (ps : List Binder) → Fits sigs ctx es ps
    → AreDisjoint ctx es ps → AreDisjoint ctx' es ps
disjoint_extends sigs ctx ctx' l es ps fits apart i j x p q at_i at_j is_bound is_x has =
    apart i j x p q at_i at_j is_bound is_x (in_v_back sigs ctx ctx' l x (operand es i) p.sort (operand_has_sort sigs ctx es ps fits i p at_i) has)

-- ---- environments

pub record EnvExtends (env env' : List Declaration) : Type 0 where
  pub sorts_too : Extends (sorts env) (sorts env')
  pub terms_too : Extends (terms env) (terms env')
  pub signatures_too : Extends (signatures env) (signatures env')
  pub assertions_too : Extends (assertions env) (assertions env')

pub sorts-append : (a b : List Declaration) → sorts (a ++ b) ≡ sorts a ++ sorts b
sorts-append [] b = refl
sorts-append (sort_decl m ∷ a) b = ap (λ xs. m ∷ xs) (sorts-append a b)
sorts-append (term_decl _ ∷ a) b = sorts-append a b
sorts-append (assertion_decl _ ∷ a) b = sorts-append a b

pub terms-append : (a b : List Declaration) → terms (a ++ b) ≡ terms a ++ terms b
terms-append [] b = refl
terms-append (sort_decl _ ∷ a) b = terms-append a b
terms-append (term_decl d ∷ a) b = ap (λ xs. d ∷ xs) (terms-append a b)
terms-append (assertion_decl _ ∷ a) b = terms-append a b

pub signatures-append : (a b : List Declaration) → signatures (a ++ b) ≡ signatures a ++ signatures b
signatures-append [] b = refl
signatures-append (sort_decl _ ∷ a) b = signatures-append a b
signatures-append (term_decl d ∷ a) b = ap (λ xs. d.signature ∷ xs) (signatures-append a b)
signatures-append (assertion_decl _ ∷ a) b = signatures-append a b

pub length-signatures : (env : List Declaration) → length (signatures env) ≡ length (terms env)
length-signatures [] = refl
length-signatures (sort_decl _ ∷ env) = length-signatures env
length-signatures (term_decl d ∷ env) = ap suc (length-signatures env)
length-signatures (assertion_decl _ ∷ env) = length-signatures env

-- there are no more sorts or terms than declarations
pub sorts-few : (ds : List Declaration) → length (sorts ds) ≤ length ds
sorts-few [] = omega arith
sorts-few (sort_decl m ∷ ds) = omega (arith, sorts-few ds)
sorts-few (term_decl d ∷ ds) = omega (arith, sorts-few ds)
sorts-few (assertion_decl a ∷ ds) = omega (arith, sorts-few ds)

pub terms-few : (ds : List Declaration) → length (signatures ds) ≤ length ds
terms-few [] = omega arith
terms-few (sort_decl m ∷ ds) = omega (arith, terms-few ds)
terms-few (term_decl d ∷ ds) = omega (arith, terms-few ds)
terms-few (assertion_decl a ∷ ds) = omega (arith, terms-few ds)

-- a declaration of another kind
pub same-sorts : (env : List Declaration) (d : Declaration) → sorts (d ∷ []) ≡ [] → sorts (env ++ d ∷ []) ≡ sorts env
same-sorts env d is = sorts-append env (d ∷ []) ∙ ap (λ ds. sorts env ++ ds) is ∙ append-nil (sorts env)

pub same-signatures : (env : List Declaration) (d : Declaration) → signatures (d ∷ []) ≡ [] → signatures (env ++ d ∷ []) ≡ signatures env
same-signatures env d is = signatures-append env (d ∷ []) ∙ ap (λ ds. signatures env ++ ds) is ∙ append-nil (signatures env)

pub assertions-append : (a b : List Declaration) → assertions (a ++ b) ≡ assertions a ++ assertions b
assertions-append [] b = refl
assertions-append (sort_decl _ ∷ a) b = assertions-append a b
assertions-append (term_decl _ ∷ a) b = assertions-append a b
assertions-append (assertion_decl d ∷ a) b = ap (λ xs. d ∷ xs) (assertions-append a b)

extends_by : {A : Type 0} (xs ys zs : List A) → zs ≡ xs ++ ys → Extends xs zs
extends_by xs ys zs is = subst (Extends xs) (sym is) (extends_append xs ys)

pub env_extends_append : (a b : List Declaration) → EnvExtends a (a ++ b)
env_extends_append a b = record {
  sorts_too = extends_by _ (sorts b) _ (sorts-append a b);
  terms_too = extends_by _ (terms b) _ (terms-append a b);
  signatures_too = extends_by _ (signatures b) _ (signatures-append a b);
  assertions_too = extends_by _ (assertions b) _ (assertions-append a b);
}

-- ---- conversions and derivations

pub bound_of_extends : (ctx ctx' : List Binder) → Extends ctx ctx' → (y s : ℕ) → IsBoundOf ctx y s → IsBoundOf ctx' y s
bound_of_extends ctx ctx' l y s (b, at, bd, is) = (b, l y b at, bd, is)

pub fresh_extends : (sigs : List Signature) (ctx ctx' : List Binder) → Extends ctx ctx' → (es : Trees) (ps : List Binder) → Fits sigs ctx es ps
    → (ys : List ℕ) (bs : List Binder) → AreFresh ctx es ys bs → AreFresh ctx' es ys bs
fresh_extends sigs ctx ctx' l es ps fits [] [] h = tt
fresh_extends sigs ctx ctx' l es ps fits [] (b ∷ bs) h = absurd h
fresh_extends sigs ctx ctx' l es ps fits (y ∷ ys) [] h = absurd h
fresh_extends sigs ctx ctx' l es ps fits (y ∷ ys) (b ∷ bs) (is, out, once, rest) =
    (bound_of_extends ctx ctx' l y b.sort is, λ has. out (in_some_v_back sigs ctx ctx' l y es ps fits has), once, fresh_extends sigs ctx ctx' l es ps fits ys bs rest)

module _ (env env' : List Declaration) (ctx ctx' : List Binder) (m : EnvExtends env env') (l : Extends ctx ctx') where
  pub sorted_extends : (e : Tree) → IsSorted env ctx e → IsSorted env' ctx' e
  sorted_extends e (s, h) = (s, sort_extends (signatures env) (signatures env') ctx ctx' m.signatures_too l e s h)

  claim_extends : (s : ℕ) → MayBeClaimSort (sorts env) s → MayBeClaimSort (sorts env') s
  claim_extends s (k, at, provable) = (k, m.sorts_too s k at, provable)

  mutual
    pub between_extends : (c : Conversion) (a b : Tree) → Between env ctx c a b → Between env' ctx' c a b
    between_extends (refl_conv e) a b (p, q, is, is') = (sorted_extends a p, sorted_extends b q, is, is')
    between_extends (sym_conv c) a b (p, q, h) = (sorted_extends a p, sorted_extends b q, between_extends c b a h)
    between_extends (cong_conv t cs) a b (p, q, (ls, rs, is, is', h)) =
        (sorted_extends a p, sorted_extends b q, (ls, rs, is, is', all_between_extends cs ls rs h))
    between_extends (unfold_conv t es ys c) a b (p, q, is, (d, dummies, body, (at, form), fits, fresh, h)) = (
      sorted_extends a p,
      sorted_extends b q,
      is,
      (
        d,
        dummies,
        body,
        (m.terms_too t d at, form),
        fits_extends (signatures env) (signatures env') ctx ctx' m.signatures_too l es d.signature.params fits,
        fresh_extends (signatures env) ctx ctx' l es d.signature.params fits ys dummies fresh,
        between_extends c (instance (followed_by es (variables ys)) body) b h,
      ),
    )
    between_extends (gap_conv x y) a b (p, q, is, is', (s, h, k)) = (
      sorted_extends a p,
      sorted_extends b q,
      is,
      is',
      (s, sort_extends (signatures env) (signatures env') ctx ctx' m.signatures_too l a s h, sort_extends (signatures env) (signatures env') ctx ctx' m.signatures_too l b s k),
    )

    pub all_between_extends : (cs : Conversions) (us bs : Trees) → AllBetween env ctx cs us bs → AllBetween env' ctx' cs us bs
    all_between_extends no_convs none none h = tt
    all_between_extends no_convs none (more b bs) h = absurd h
    all_between_extends no_convs (more a us) bs h = absurd h
    all_between_extends (more_convs c cs) none bs h = absurd h
    all_between_extends (more_convs c cs) (more a us) none h = absurd h
    all_between_extends (more_convs c cs) (more a us) (more b bs) (h, rest) = (between_extends c a b h, all_between_extends cs us bs rest)

  mutual
    pub derives_extends : (hyps : Trees) (d : Derivation) (e : Tree) → Derives env ctx hyps d e → Derives env' ctx' hyps d e
    derives_extends hyps (hypothesis i) e h = h
    derives_extends hyps (cite T es ds) e (a, at, is, fits, apart, h) = (
      a,
      m.assertions_too T a at,
      is,
      fits_extends (signatures env) (signatures env') ctx ctx' m.signatures_too l es a.params fits,
      disjoint_extends (signatures env) ctx ctx' l es a.params fits apart,
      all_derive_extends hyps ds (instances es a.hyps) h,
    )
    derives_extends hyps (convert f c d) e (is, (g, h, k)) = (is, (g, between_extends c f g h, derives_extends hyps d g k))
    derives_extends hyps (gap f) e (is, (s, h, provable)) =
        (is, (s, sort_extends (signatures env) (signatures env') ctx ctx' m.signatures_too l e s h, claim_extends s provable))

    pub all_derive_extends : (hyps : Trees) (ds : Derivations) (es : Trees) → AllDerive env ctx hyps ds es → AllDerive env' ctx' hyps ds es
    all_derive_extends hyps no_derivs none h = tt
    all_derive_extends hyps no_derivs (more e es) h = absurd h
    all_derive_extends hyps (more_derivs d ds) none h = absurd h
    all_derive_extends hyps (more_derivs d ds) (more e es) (h, rest) = (derives_extends hyps d e h, all_derive_extends hyps ds es rest)
