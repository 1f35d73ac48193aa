-- Own definitions spelled out: what is derived over a list with local definitions that have no dummies is derived without them.
use Rattle.std.proofs.Common.{ℕ, zero, suc, ◌≡◌, ◌<◌, ◌+◌, ◌++◌, true, arith, List, [], ◌∷◌, slice_get, length, Option, Some, None, refl, sym, ap, ap₂, ◌∙◌, subst, inl, inr, not-suc-le-zero, le_of_suc-le-suc}
use Rattle.std.proofs.lemmas.Option.{none-some, slice_get_within}
use Rattle.mz_base.proofs.Offered.{slice_get-within}
use Rattle.mz_logic_theory.specs.Tree.{Tree, Trees, var, app, none, more, listed, operand, instance, instances, followed_by, variables}
use Rattle.mz_logic_theory.specs.Signature.{Signature}
use Rattle.mz_logic_theory.specs.Declaration.{Declaration, sort_decl, term_decl, assertion_decl, Term, Assertion, defined, terms, signatures, assertions}
use Rattle.mz_logic_theory.specs.Sorts.{IsBoundVar, HasSort, Fits, IsSorted}
use Rattle.mz_logic_theory.specs.Variables.{InV, InSomeV, AreDisjoint}
use Rattle.mz_logic_theory.specs.Legality.{InRange, AllInRange}
use Rattle.mz_logic_theory.specs.Conversions.{Conversion, Conversions, refl_conv, sym_conv, cong_conv, unfold_conv, gap_conv, no_convs, more_convs, AreFresh, Between, AllBetween, GapsOnly, AllGapsOnly}
use Rattle.mz_logic_theory.specs.Derivations.{Derivation, Derivations, hypothesis, cite, convert, gap, no_derivs, more_derivs, Derives, AllDerive, AllCiteOnly, without_gaps}
use Rattle.mz_logic_theory.specs.Closed.{IsAxiomIn, CitesAxioms}
use Rattle.mz_logic_theory.specs.declared.binder.Binder.{Binder}
use Rattle.mz_logic_theory.proofs.Offered.{bound_operand, followed_by_none, in_instance, instance-instance, many_of_fits, one_at, signature_of_term, sort_of_instance}

-- ---- what stands for a term

-- one of the specification's terms, by its number, or a body over the parameters
pub data Stands : Type 0 where
  kept : ℕ → Stands
  spelled : Tree → Stands

abbrev pub put : Option Stands → Trees → Tree
put None es = app 0 none
put (Some (kept k)) es = app k es
put (Some (spelled body)) es = instance es body

-- an expression with each term replaced by what stands for it
abbrev mutual
  pub spelt : List Stands → Tree → Tree
  spelt plan (var x) = var x
  spelt plan (app t es) = put (slice_get plan t) (all_spelt plan es)

  pub all_spelt : List Stands → Trees → Trees
  all_spelt plan none = none
  all_spelt plan (more e es) = more (spelt plan e) (all_spelt plan es)

-- the terms are below m and the variables below n
abbrev mutual
  pub Within : ℕ → ℕ → Tree → Type 0
  Within m n (var x) = x < n
  Within m n (app t es) = (t < m) × AllWithin m n es

  pub AllWithin : ℕ → ℕ → Trees → Type 0
  AllWithin m n none = Unit {0}
  AllWithin m n (more e es) = Within m n e × AllWithin m n es

mutual
  pub within-range : (sigs : List Signature) (n : ℕ) (e : Tree) → InRange sigs n e → Within (length sigs) n e
  within-range sigs n (var x) h = h
  within-range sigs n (app t es) (below, _, all) = (below, within-ranges sigs n es all)

  pub within-ranges : (sigs : List Signature) (n : ℕ) (es : Trees) → AllInRange sigs n es → AllWithin (length sigs) n es
  within-ranges sigs n none h = tt
  within-ranges sigs n (more e es) (h, all) = (within-range sigs n e h, within-ranges sigs n es all)

mutual
  pub within-more : (m k n : ℕ) (e : Tree) → Within m n e → Within (m + k) n e
  within-more m k n (var x) h = h
  within-more m k n (app t es) (below, all) = (omega arith, all-within-more m k n es all)

  pub all-within-more : (m k n : ℕ) (es : Trees) → AllWithin m n es → AllWithin (m + k) n es
  all-within-more m k n none h = tt
  all-within-more m k n (more e es) (h, all) = (within-more m k n e h, all-within-more m k n es all)

-- what a longer plan has more changes nothing
mutual
  pub spelt-more : (plan more_ : List Stands) (n : ℕ) (e : Tree) → Within (length plan) n e → spelt (plan ++ more_) e ≡ spelt plan e
  spelt-more plan more_ n (var x) h = refl
  spelt-more plan more_ n (app t es) (below, all) =
      ap (λ o. put o (all_spelt (plan ++ more_) es)) (slice_get-within plan more_ t below) ∙ ap (put (slice_get plan t)) (all-spelt-more plan more_ n es all)

  pub all-spelt-more : (plan more_ : List Stands) (n : ℕ) (es : Trees) → AllWithin (length plan) n es → all_spelt (plan ++ more_) es ≡ all_spelt plan es
  all-spelt-more plan more_ n none h = refl
  all-spelt-more plan more_ n (more e es) (h, all) = ap₂ more (spelt-more plan more_ n e h) (all-spelt-more plan more_ n es all)

-- ---- an instance, spelled out

operand-spelt : (plan : List Stands) (es : Trees) (x : ℕ) → x < length (listed es) → operand (all_spelt plan es) x ≡ spelt plan (operand es x)
operand-spelt plan none x below = absurd (not-suc-le-zero below)
operand-spelt plan (more e es) zero below = refl
operand-spelt plan (more e es) (suc x) below = operand-spelt plan es x (le_of_suc-le-suc below)

put-instances : (o : Option Stands) (f es : Trees) → put o (instances f es) ≡ instance f (put o es)
put-instances None f es = refl
put-instances (Some (kept k)) f es = refl
put-instances (Some (spelled body)) f es = sym (instance-instance f es body)

mutual
  pub spelt-instance : (plan : List Stands) (m : ℕ) (f : Trees) (e : Tree) → Within m (length (listed f)) e
      → spelt plan (instance f e) ≡ instance (all_spelt plan f) (spelt plan e)
  spelt-instance plan m f (var x) below = sym (operand-spelt plan f x below)
  spelt-instance plan m f (app t es) (_, all) =
      ap (put (slice_get plan t)) (spelt-instances plan m f es all) ∙ put-instances (slice_get plan t) (all_spelt plan f) (all_spelt plan es)

  pub spelt-instances : (plan : List Stands) (m : ℕ) (f es : Trees) → AllWithin m (length (listed f)) es
      → all_spelt plan (instances f es) ≡ instances (all_spelt plan f) (all_spelt plan es)
  spelt-instances plan m f none all = refl
  spelt-instances plan m f (more e es) (h, all) = ap₂ more (spelt-instance plan m f e h) (spelt-instances plan m f es all)

-- ---- its variables

in-operand : (ctx : List Binder) (x y : ℕ) (es : Trees) → InV ctx x (operand es y) → InSomeV ctx x es
in-operand ctx x y none h = absurd h
in-operand ctx x zero (more e es) h = inl h
in-operand ctx x (suc y) (more e es) h = inr (in-operand ctx x y es h)

in-put : (ctx : List Binder) (x : ℕ) (o : Option Stands) (es : Trees) → InV ctx x (put o es) → InSomeV ctx x es
in-put ctx x None es h = absurd h
in-put ctx x (Some (kept k)) es h = h
in-put ctx x (Some (spelled body)) es h = let found = in_instance ctx x es body h in in-operand ctx x found.0 es found.2

mutual
  pub in-spelt : (plan : List Stands) (ctx : List Binder) (x : ℕ) (e : Tree) → InV ctx x (spelt plan e) → InV ctx x e
  in-spelt plan ctx x (var y) h = h
  in-spelt plan ctx x (app t es) h = in-all-spelt plan ctx x es (in-put ctx x (slice_get plan t) (all_spelt plan es) h)

  pub in-all-spelt : (plan : List Stands) (ctx : List Binder) (x : ℕ) (es : Trees) → InSomeV ctx x (all_spelt plan es) → InSomeV ctx x es
  in-all-spelt plan ctx x none h = absurd h
  in-all-spelt plan ctx x (more e es) (inl h) = inl (in-spelt plan ctx x e h)
  in-all-spelt plan ctx x (more e es) (inr h) = inr (in-all-spelt plan ctx x es h)

-- ---- from one environment to another

-- what stands for a term: over `own`, one with its signature, and with its body, spelled out, where it has one; or that body
abbrev pub StandsFor : List Stands → List Declaration → Term → Stands → Type 0
StandsFor plan own d (kept k) = (e : Term) × (slice_get (terms own) k ≡ Some e) × (e.signature ≡ d.signature)
    × ((dummies : List Binder) (body : Tree) → d.form ≡ defined dummies body → e.form ≡ defined [] (spelt plan body))
StandsFor plan own d (spelled b) = HasSort (signatures own) d.signature.params b d.signature.result.sort
    × ((dummies : List Binder) (body : Tree) → d.form ≡ defined dummies body → b ≡ spelt plan body)

-- an axiom of the specification that is this one, spelled out
abbrev pub OwnAxiom : List Stands → List Declaration → Assertion → Type 0
OwnAxiom plan own a = (U : ℕ) × (b : Assertion) × (slice_get (assertions own) U ≡ Some b) × (b.is_axiom ≡ true) × (b.params ≡ a.params)
    × (b.hyps ≡ all_spelt plan a.hyps) × (b.conclusion ≡ spelt plan a.conclusion)

-- The plan leads from the declarations of a list to the specification's own: it has something for each term, no definition has
-- dummies, and each axiom stands there, spelled out.
pub record Leads (plan : List Stands) (env own : List Declaration) : Type 0 where
  pub each : (t : ℕ) (d : Term) → slice_get (terms env) t ≡ Some d → (s : Stands) × (slice_get plan t ≡ Some s) × StandsFor plan own d s
  pub plain : (t : ℕ) (d : Term) (dummies : List Binder) (body : Tree) → slice_get (terms env) t ≡ Some d → d.form ≡ defined dummies body
      → (dummies ≡ []) × Within (length plan) (length d.signature.params) body
  pub axioms : (T : ℕ) (a : Assertion) → slice_get (assertions env) T ≡ Some a → a.is_axiom ≡ true
      → AllWithin (length plan) (length a.params) a.hyps × Within (length plan) (length a.params) a.conclusion
      × OwnAxiom plan own a

-- the term of a signature
pub term-of : (env : List Declaration) (t : ℕ) (d : Signature) → slice_get (signatures env) t ≡ Some d → (c : Term) × (slice_get (terms env) t ≡ Some c) × (c.signature ≡ d)
term-of [] t d at = absurd (none-some _ at)
term-of (sort_decl _ ∷ env) t d at = term-of env t d at
term-of (term_decl c ∷ env) zero d at = (c, refl, one_at refl at)
term-of (term_decl c ∷ env) (suc t) d at = term-of env t d at
term-of (assertion_decl _ ∷ env) t d at = term-of env t d at

-- ---- conversions and derivations, spelled out

abbrev pub conv_at : Conversions → ℕ → Conversion
conv_at no_convs x = refl_conv (app 0 none)
conv_at (more_convs c cs) zero = c
conv_at (more_convs c cs) (suc x) = conv_at cs x

-- conversions of the operands, below a body
abbrev mutual
  pub below : Conversions → Tree → Conversion
  below cs (var x) = conv_at cs x
  below cs (app k es) = cong_conv k (all_below cs es)

  pub all_below : Conversions → Trees → Conversions
  all_below cs none = no_convs
  all_below cs (more e es) = more_convs (below cs e) (all_below cs es)

abbrev pub put_conv : Option Stands → Conversions → Conversion
put_conv None cs = refl_conv (app 0 none)
put_conv (Some (kept k)) cs = cong_conv k cs
put_conv (Some (spelled body)) cs = below cs body

abbrev pub unfold_put : Option Stands → Trees → Conversion → Conversion
unfold_put None es c = c
unfold_put (Some (kept k)) es c = unfold_conv k es [] c
unfold_put (Some (spelled body)) es c = c

abbrev mutual
  pub conv_spelt : List Stands → Conversion → Conversion
  conv_spelt plan (refl_conv e) = refl_conv (spelt plan e)
  conv_spelt plan (sym_conv c) = sym_conv (conv_spelt plan c)
  conv_spelt plan (cong_conv t cs) = put_conv (slice_get plan t) (convs_spelt plan cs)
  conv_spelt plan (unfold_conv t es ys c) = unfold_put (slice_get plan t) (all_spelt plan es) (conv_spelt plan c)
  conv_spelt plan (gap_conv l r) = gap_conv (spelt plan l) (spelt plan r)

  pub convs_spelt : List Stands → Conversions → Conversions
  convs_spelt plan no_convs = no_convs
  convs_spelt plan (more_convs c cs) = more_convs (conv_spelt plan c) (convs_spelt plan cs)

-- no gap comes in
at-free : (cs : Conversions) (x : ℕ) → AllGapsOnly ⊥ cs → GapsOnly ⊥ (conv_at cs x)
at-free no_convs x free = tt
at-free (more_convs c cs) zero free = free.0
at-free (more_convs c cs) (suc x) free = at-free cs x free.1

mutual
  pub below-free : (cs : Conversions) (e : Tree) → AllGapsOnly ⊥ cs → GapsOnly ⊥ (below cs e)
  below-free cs (var x) free = at-free cs x free
  below-free cs (app k es) free = all-below-free cs es free

  pub all-below-free : (cs : Conversions) (es : Trees) → AllGapsOnly ⊥ cs → AllGapsOnly ⊥ (all_below cs es)
  all-below-free cs none free = tt
  all-below-free cs (more e es) free = (below-free cs e free, all-below-free cs es free)

put-free : (o : Option Stands) (cs : Conversions) → AllGapsOnly ⊥ cs → GapsOnly ⊥ (put_conv o cs)
put-free None cs free = tt
put-free (Some (kept k)) cs free = free
put-free (Some (spelled body)) cs free = below-free cs body free

unfold-free : (o : Option Stands) (es : Trees) (c : Conversion) → GapsOnly ⊥ c → GapsOnly ⊥ (unfold_put o es c)
unfold-free None es c free = free
unfold-free (Some (kept k)) es c free = free
unfold-free (Some (spelled body)) es c free = free

mutual
  pub conv-free : (plan : List Stands) (c : Conversion) → GapsOnly ⊥ c → GapsOnly ⊥ (conv_spelt plan c)
  conv-free plan (refl_conv e) free = tt
  conv-free plan (sym_conv c) free = conv-free plan c free
  conv-free plan (cong_conv t cs) free = put-free (slice_get plan t) (convs_spelt plan cs) (convs-free plan cs free)
  conv-free plan (unfold_conv t es ys c) free = unfold-free (slice_get plan t) (all_spelt plan es) (conv_spelt plan c) (conv-free plan c free)
  conv-free plan (gap_conv l r) free = free

  pub convs-free : (plan : List Stands) (cs : Conversions) → AllGapsOnly ⊥ cs → AllGapsOnly ⊥ (convs_spelt plan cs)
  convs-free plan no_convs free = tt
  convs-free plan (more_convs c cs) free = (conv-free plan c free.0, convs-free plan cs free.1)

-- conversions of operands lead to one of what is put together of them
module _ (own : List Declaration) (ctx params : List Binder) (ls rs : Trees) (cs : Conversions) (lfit : Fits (signatures own) ctx ls params)
    (rfit : Fits (signatures own) ctx rs params) (all : AllBetween own ctx cs ls rs) where
  between-at : (cs : Conversions) (ls rs : Trees) (ps : List Binder) → Fits (signatures own) ctx ls ps → AllBetween own ctx cs ls rs
      → (x : ℕ) (p : Binder) → slice_get ps x ≡ Some p → Between own ctx (conv_at cs x) (operand ls x) (operand rs x)
  between-at cs ls rs [] fits all x p at = absurd (none-some _ at)
  between-at cs none rs (q ∷ ps) fits all x p at = absurd fits
  between-at no_convs (more l ls) rs (q ∷ ps) fits all x p at = absurd all
  between-at (more_convs c cs) (more l ls) none (q ∷ ps) fits all x p at = absurd all
  between-at (more_convs c cs) (more l ls) (more r rs) (q ∷ ps) fits all zero p at = all.0
  between-at (more_convs c cs) (more l ls) (more r rs) (q ∷ ps) fits all (suc x) p at = between-at cs ls rs ps fits.2 all.1 x p at

  mutual
    pub between-below : (e : Tree) (s : ℕ) → HasSort (signatures own) params e s → Between own ctx (below cs e) (instance ls e) (instance rs e)
    between-below (var x) s (b, at, _) = between-at cs ls rs params lfit all x b at
    between-below (app k es) s (d, at, is, fits) = (
      (s, sort_of_instance (signatures own) ctx params ls lfit (app k es) s (d, at, is, fits)),
      (s, sort_of_instance (signatures own) ctx params rs rfit (app k es) s (d, at, is, fits)),
      (instances ls es, instances rs es, refl, refl, all-between-below es d.params fits),
    )

    pub all-between-below : (es : Trees) (ps : List Binder) → Fits (signatures own) params es ps
        → AllBetween own ctx (all_below cs es) (instances ls es) (instances rs es)
    all-between-below none ps fits = tt
    all-between-below (more e es) [] fits = absurd fits
    all-between-below (more e es) (p ∷ ps) fits = (between-below e p.sort fits.0, all-between-below es ps fits.2)

-- the i-th hypothesis, spelled out
listed-spelt : (plan : List Stands) (hyps : Trees) (i : ℕ) (e : Tree) → slice_get (listed hyps) i ≡ Some e → slice_get (listed (all_spelt plan hyps)) i ≡ Some (spelt plan e)
listed-spelt plan none i e at = absurd (none-some _ at)
listed-spelt plan (more h hs) zero e at = ap (λ x. Some (spelt plan x)) (one_at refl at)
listed-spelt plan (more h hs) (suc i) e at = listed-spelt plan hs i e at

-- fresh variables for no dummies are none
none-follow : (ctx : List Binder) (es : Trees) (ys : List ℕ) (dummies : List Binder) → dummies ≡ [] → AreFresh ctx es ys dummies → followed_by es (variables ys) ≡ es
none-follow ctx es [] dummies none_there fresh = followed_by_none es
none-follow ctx es (y ∷ ys) [] none_there fresh = absurd fresh
none-follow ctx es (y ∷ ys) (b ∷ bs) none_there fresh = absurd (let p : (b ∷ bs) ≡ [] = none_there in cc)

module _ (plan : List Stands) (env own : List Declaration) (leads : Leads plan env own) (ctx : List Binder) where
  put-sort : (o : Option Stands) (d : Term) (s : Stands) → o ≡ Some s → StandsFor plan own d s → (es : Trees)
      → Fits (signatures own) ctx es d.signature.params → HasSort (signatures own) ctx (put o es) d.signature.result.sort
  put-sort o d (kept k) is (e, at, same, _) es fits =
      subst (λ p. HasSort (signatures own) ctx (put p es) d.signature.result.sort) (sym is)
      (e.signature, signature_of_term own k e at, ap (λ g. g.result.sort) same, subst (λ g. Fits (signatures own) ctx es g.params) (sym same) fits)
  put-sort o d (spelled b) is (sorted, _) es fits =
      subst (λ p. HasSort (signatures own) ctx (put p es) d.signature.result.sort) (sym is)
      (sort_of_instance (signatures own) ctx d.signature.params es fits b d.signature.result.sort sorted)

  bound-spelt : (e : Tree) → IsBoundVar ctx e → IsBoundVar ctx (spelt plan e)
  bound-spelt e (x, b, is, at, bound) = (x, b, ap (spelt plan) is, at, bound)

  mutual
    pub spelt-sort : (e : Tree) (s : ℕ) → HasSort (signatures env) ctx e s → HasSort (signatures own) ctx (spelt plan e) s
    spelt-sort (var x) s h = h
    spelt-sort (app t es) s (d, at, is, fits) =
        let found = term-of env t d at in
        let lead = leads.each t found.0 found.1 in
        subst (HasSort (signatures own) ctx (put (slice_get plan t) (all_spelt plan es))) (ap (λ g. g.result.sort) found.2 ∙ is)
        (put-sort (slice_get plan t) found.0 lead.0 lead.1 lead.2 (all_spelt plan es)
        (subst (λ g. Fits (signatures own) ctx (all_spelt plan es) g.params) (sym found.2) (spelt-fit es d.params fits)))

    pub spelt-fit : (es : Trees) (ps : List Binder) → Fits (signatures env) ctx es ps → Fits (signatures own) ctx (all_spelt plan es) ps
    spelt-fit none [] fits = tt
    spelt-fit none (p ∷ ps) fits = absurd fits
    spelt-fit (more e es) [] fits = absurd fits
    spelt-fit (more e es) (p ∷ ps) (h, bound, rest) = (spelt-sort e p.sort h, λ is. bound-spelt e (bound is), spelt-fit es ps rest)

  pub spelt-sorted : (e : Tree) → IsSorted env ctx e → IsSorted own ctx (spelt plan e)
  spelt-sorted e (s, h) = (s, spelt-sort e s h)

  pub spelt-apart : (es : Trees) (ps : List Binder) → Fits (signatures env) ctx es ps → AreDisjoint ctx es ps → AreDisjoint ctx (all_spelt plan es) ps
  spelt-apart es ps fits apart i j x p q at_i at_j is_bound is_x has =
      apart i j x p q at_i at_j is_bound (same (bound_operand (signatures env) ctx ps es fits j q at_j is_bound)) (in-spelt plan ctx x (operand es i) (subst (InV ctx x) (here i p at_i) has))
    where
      here : (i : ℕ) (p : Binder) → slice_get ps i ≡ Some p → operand (all_spelt plan es) i ≡ spelt plan (operand es i)
      here i p at = operand-spelt plan es i (some-below i p at (many_of_fits (signatures env) ctx es ps fits))
        where
          some-below : (i : ℕ) (p : Binder) → slice_get ps i ≡ Some p → length (listed es) ≡ length ps → i < length (listed es)
          some-below i p at many = subst (λ n. i < n) (sym many) (slice_get_within ps i p at)

      same : IsBoundVar ctx (operand es j) → operand es j ≡ var x
      same (y, b, is_y, at, bd) =
          let p : var y ≡ var x = sym (ap (spelt plan) is_y) ∙ sym (here j q at_j) ∙ is_x in is_y ∙ p

  -- the instance of a body, spelled out
  instance-spelt : (es : Trees) (ps : List Binder) → Fits (signatures env) ctx es ps → (e : Tree) → Within (length plan) (length ps) e
      → spelt plan (instance es e) ≡ instance (all_spelt plan es) (spelt plan e)
  instance-spelt es ps fits e within =
      spelt-instance plan (length plan) es e (subst (λ n. Within (length plan) n e) (sym (many_of_fits (signatures env) ctx es ps fits)) within)

  instances-spelt : (es : Trees) (ps : List Binder) → Fits (signatures env) ctx es ps → (hs : Trees) → AllWithin (length plan) (length ps) hs
      → all_spelt plan (instances es hs) ≡ instances (all_spelt plan es) (all_spelt plan hs)
  instances-spelt es ps fits hs within =
      spelt-instances plan (length plan) es hs (subst (λ n. AllWithin (length plan) n hs) (sym (many_of_fits (signatures env) ctx es ps fits)) within)

  put-between : (o : Option Stands) (t : ℕ) (d : Term) (s : Stands) → o ≡ Some s → StandsFor plan own d s
      → (cs : Conversions) (ls rs : Trees) → Fits (signatures own) ctx ls d.signature.params → Fits (signatures own) ctx rs d.signature.params
      → AllBetween own ctx cs ls rs → Between own ctx (put_conv o cs) (put o ls) (put o rs)
  put-between o t d (kept k) is lead cs ls rs lfit rfit all =
      subst (λ p. Between own ctx (put_conv p cs) (put p ls) (put p rs)) (sym is) (
        (d.signature.result.sort, put-sort (Some (kept k)) d (kept k) refl lead ls lfit),
        (d.signature.result.sort, put-sort (Some (kept k)) d (kept k) refl lead rs rfit),
        (ls, rs, refl, refl, all),
      )
  put-between o t d (spelled b) is lead cs ls rs lfit rfit all =
      subst (λ p. Between own ctx (put_conv p cs) (put p ls) (put p rs)) (sym is)
      (between-below own ctx d.signature.params ls rs cs lfit rfit all b d.signature.result.sort lead.0)

  unfold-between : (o : Option Stands) (d : Term) (s : Stands) → o ≡ Some s → StandsFor plan own d s
      → (dummies : List Binder) (body : Tree) → d.form ≡ defined dummies body
      → (es : Trees) → Fits (signatures own) ctx es d.signature.params → (c : Conversion) (r : Tree) → IsSorted own ctx r
      → Between own ctx c (instance es (spelt plan body)) r → Between own ctx (unfold_put o es c) (put o es) r
  unfold-between o d (kept k) is lead dummies body form es fits c r sorted go =
      subst (λ p. Between own ctx (unfold_put p es c) (put p es) r) (sym is) (
        (d.signature.result.sort, put-sort (Some (kept k)) d (kept k) refl lead es fits),
        sorted,
        refl,
        (
          lead.0,
          [],
          spelt plan body,
          (lead.1, lead.3 dummies body form),
          subst (λ g. Fits (signatures own) ctx es g.params) (sym lead.2) fits,
          tt,
          subst (λ fs. Between own ctx c (instance fs (spelt plan body)) r) (sym (followed_by_none es)) go,
        ),
      )
  unfold-between o d (spelled b) is lead dummies body form es fits c r sorted go =
      subst (λ p. Between own ctx (unfold_put p es c) (put p es) r) (sym is)
      (subst (λ e. Between own ctx c (instance es e) r) (sym (lead.1 dummies body form)) go)

  cong-spelt : (t : ℕ) (cs : Conversions) (ls rs : Trees) → AllBetween own ctx (convs_spelt plan cs) (all_spelt plan ls) (all_spelt plan rs) → (l r : Tree) → l ≡ app t ls → r ≡ app t rs
      → (s : ℕ) → HasSort (signatures env) ctx (app t ls) s → (s' : ℕ) → HasSort (signatures env) ctx (app t rs) s'
      → Between own ctx (put_conv (slice_get plan t) (convs_spelt plan cs)) (spelt plan l) (spelt plan r)
  cong-spelt t cs ls rs all l r is is' s (g, at, _, lfit) s' (g', at', _, rfit) =
      let found = term-of env t g at in
      let lead = leads.each t found.0 found.1 in
      let same : found.0.signature ≡ g' = found.2 ∙ one_at at at' in
      subst (λ e. Between own ctx (put_conv (slice_get plan t) (convs_spelt plan cs)) e (spelt plan r)) (sym (ap (spelt plan) is))
      (subst (Between own ctx (put_conv (slice_get plan t) (convs_spelt plan cs)) (put (slice_get plan t) (all_spelt plan ls))) (sym (ap (spelt plan) is'))
      (put-between (slice_get plan t) t found.0 lead.0 lead.1 lead.2 (convs_spelt plan cs) (all_spelt plan ls) (all_spelt plan rs)
      (subst (λ h. Fits (signatures own) ctx (all_spelt plan ls) h.params) (sym found.2) (spelt-fit ls g.params lfit))
      (subst (λ h. Fits (signatures own) ctx (all_spelt plan rs) h.params) (sym same) (spelt-fit rs g'.params rfit))
      all))

  mutual
    pub spelt-between : (c : Conversion) → GapsOnly ⊥ c → (l r : Tree) → Between env ctx c l r → Between own ctx (conv_spelt plan c) (spelt plan l) (spelt plan r)
    spelt-between (refl_conv e) free l r (sl, sr, is, is') = (spelt-sorted l sl, spelt-sorted r sr, ap (spelt plan) is, ap (spelt plan) is')
    spelt-between (sym_conv c) free l r (sl, sr, go) = (spelt-sorted l sl, spelt-sorted r sr, spelt-between c free r l go)
    spelt-between (cong_conv t cs) free l r ((s, sl), (s', sr), (ls, rs, is, is', all)) =
        cong-spelt t cs ls rs (spelt-all-between cs free ls rs all) l r is is' s (subst (λ e. HasSort (signatures env) ctx e s) is sl) s' (subst (λ e. HasSort (signatures env) ctx e s') is' sr)
    spelt-between (unfold_conv t es ys c) free l r (sl, sr, is, (d, dummies, body, (at, form), fits, fresh, go)) =
        let plain = leads.plain t d dummies body at form in
        let lead = leads.each t d at in
        subst (λ e. Between own ctx (unfold_put (slice_get plan t) (all_spelt plan es) (conv_spelt plan c)) e (spelt plan r)) (sym (ap (spelt plan) is))
        (unfold-between (slice_get plan t) d lead.0 lead.1 lead.2 dummies body form (all_spelt plan es) (spelt-fit es d.signature.params fits) (conv_spelt plan c) (spelt plan r) (spelt-sorted r sr)
        (subst (λ e. Between own ctx (conv_spelt plan c) e (spelt plan r))
        (ap (λ fs. spelt plan (instance fs body)) (none-follow ctx es ys dummies plain.0 fresh) ∙ instance-spelt es d.signature.params fits body plain.1)
        (spelt-between c free (instance (followed_by es (variables ys)) body) r go)))
    spelt-between (gap_conv a b) free l r h = absurd free

    spelt-all-between : (cs : Conversions) → AllGapsOnly ⊥ cs → (ls rs : Trees) → AllBetween env ctx cs ls rs → AllBetween own ctx (convs_spelt plan cs) (all_spelt plan ls) (all_spelt plan rs)
    spelt-all-between no_convs free none none h = tt
    spelt-all-between no_convs free none (more r rs) h = absurd h
    spelt-all-between no_convs free (more l ls) rs h = absurd h
    spelt-all-between (more_convs c cs) free none rs h = absurd h
    spelt-all-between (more_convs c cs) free (more l ls) none h = absurd h
    spelt-all-between (more_convs c cs) free (more l ls) (more r rs) h = (spelt-between c free.0 l r h.0, spelt-all-between cs free.1 ls rs h.1)

  -- ---- derivations

  -- a derivation from axioms alone leads to one over the specification's own declarations
  abbrev pub Leading : Trees → Tree → Type 0
  Leading hyps e = (d : Derivation) × CitesAxioms own d × Derives own ctx hyps d e

  abbrev pub AllLeading : Trees → Trees → Type 0
  AllLeading hyps es = (ds : Derivations) × AllCiteOnly (without_gaps (IsAxiomIn own)) ds × AllDerive own ctx hyps ds es

  mutual
    pub spelt-derives : (hyps : Trees) (d : Derivation) → CitesAxioms env d → (e : Tree) → Derives env ctx hyps d e → Leading (all_spelt plan hyps) (spelt plan e)
    spelt-derives hyps (hypothesis i) cites e at = (hypothesis i, tt, listed-spelt plan hyps i e at)
    spelt-derives hyps (cite T es ds) ((c, there, is_axiom), cites) e (a, at, is, fits, apart, all) =
        let ax = leads.axioms T a at (ap (λ x. x.is_axiom) (one_at at there) ∙ is_axiom) in
        let rest = spelt-all-derive hyps ds cites (instances es a.hyps) all in
        let own_axiom = ax.2 in (
          cite own_axiom.0 (all_spelt plan es) rest.0,
          ((own_axiom.1, own_axiom.2, own_axiom.3), rest.1),
          (
            own_axiom.1,
            own_axiom.2,
            ap (spelt plan) is ∙ instance-spelt es a.params fits a.conclusion ax.1 ∙ ap (instance (all_spelt plan es)) (sym own_axiom.6),
            subst (Fits (signatures own) ctx (all_spelt plan es)) (sym own_axiom.4) (spelt-fit es a.params fits),
            subst (AreDisjoint ctx (all_spelt plan es)) (sym own_axiom.4) (spelt-apart es a.params fits apart),
            subst (AllDerive own ctx (all_spelt plan hyps) rest.0) (instances-spelt es a.params fits a.hyps ax.0 ∙ ap (instances (all_spelt plan es)) (sym own_axiom.5)) rest.2,
          ),
        )
    spelt-derives hyps (convert f c d) (free, cites) e (is, (g, go, derived)) =
        let rest = spelt-derives hyps d cites g derived in
        (convert (spelt plan f) (conv_spelt plan c) rest.0, (conv-free plan c free, rest.1), (ap (spelt plan) is, (spelt plan g, spelt-between c free f g go, rest.2)))
    spelt-derives hyps (gap f) cites e h = absurd cites

    spelt-all-derive : (hyps : Trees) (ds : Derivations) → AllCiteOnly (without_gaps (IsAxiomIn env)) ds → (es : Trees) → AllDerive env ctx hyps ds es
        → AllLeading (all_spelt plan hyps) (all_spelt plan es)
    spelt-all-derive hyps no_derivs cites none h = (no_derivs, tt, tt)
    spelt-all-derive hyps no_derivs cites (more e es) h = absurd h
    spelt-all-derive hyps (more_derivs d ds) cites none h = absurd h
    spelt-all-derive hyps (more_derivs d ds) cites (more e es) h =
        let first = spelt-derives hyps d cites.0 e h.0 in
        let rest = spelt-all-derive hyps ds cites.1 es h.1 in
        (more_derivs first.0 rest.0, (first.1, rest.1), (first.2, rest.2))
