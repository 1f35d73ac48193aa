-- Conversions and derivations under a substitution, with derivations in place of the hypotheses.
use Rattle.std.proofs.Common.{ℕ, zero, suc, ◌≡◌, List, [], ◌∷◌, map, slice_get, Contains, Some, refl, sym, ap, ap₂, ◌∙◌, subst, inl, inr, not-suc-le-zero, le_of_suc-le-suc}
use Rattle.std.proofs.lemmas.Option.{none-some}
use Rattle.mz_logic_theory.specs.Tree.{Tree, Trees, var, app, none, more, listed, operand, instance, instances, followed_by, variables}
use Rattle.mz_logic_theory.specs.Declaration.{Declaration, signatures}
use Rattle.mz_logic_theory.specs.Sorts.{IsBoundVar, HasSort, Fits, IsSorted}
use Rattle.mz_logic_theory.specs.Variables.{InV, InSomeV, AreDisjoint}
use Rattle.mz_logic_theory.specs.Conversions.{Conversion, Conversions, refl_conv, sym_conv, cong_conv, unfold_conv, gap_conv, no_convs, more_convs, IsBoundOf, AreFresh, Between, AllBetween, GapsOnly, AllGapsOnly}
use Rattle.mz_logic_theory.specs.Derivations.{Derivation, Derivations, hypothesis, cite, convert, gap, no_derivs, more_derivs, Derives, AllDerive, Uses, CitesOnly, AllCiteOnly, derivation_at}
use Rattle.mz_logic_theory.specs.declared.binder.Binder.{Binder}
use Rattle.mz_logic_theory.proofs.Instance.{one_at, bound_operand, sort_of_operand, sort_of_instance, fits_of_instances}
use Rattle.mz_logic_theory.proofs.AreDisjoint.{in_v_of_pattern, disjoint_instances}
use Rattle.mz_logic_theory.specs.Laws.{BoundArePlain}
use Rattle.mz_logic_theory.proofs.Compose.{instance-instance, instances-instances, instances-followed_by, contains_map}

-- ---- the trees

abbrev pub place_of : Tree → ℕ
place_of (var x) = x
place_of (app t es) = 0

-- the places of what is put in for the variables ys
abbrev pub renamed : Trees → List ℕ → List ℕ
renamed f ys = map (λ y. place_of (operand f y)) ys

abbrev mutual
  pub conv_instance : Trees → Conversion → Conversion
  conv_instance f (refl_conv e) = refl_conv (instance f e)
  conv_instance f (sym_conv c) = sym_conv (conv_instance f c)
  conv_instance f (cong_conv t cs) = cong_conv t (convs_instance f cs)
  conv_instance f (unfold_conv t es ys c) = unfold_conv t (instances f es) (renamed f ys) (conv_instance f c)
  conv_instance f (gap_conv l r) = gap_conv (instance f l) (instance f r)

  pub convs_instance : Trees → Conversions → Conversions
  convs_instance f no_convs = no_convs
  convs_instance f (more_convs c cs) = more_convs (conv_instance f c) (convs_instance f cs)

abbrev mutual
  pub graft : Trees → Derivations → Derivation → Derivation
  graft f given (hypothesis i) = derivation_at given i
  graft f given (cite T es ds) = cite T (instances f es) (grafts f given ds)
  graft f given (convert e c d) = convert (instance f e) (conv_instance f c) (graft f given d)
  graft f given (gap e) = gap (instance f e)

  pub grafts : Trees → Derivations → Derivations → Derivations
  grafts f given no_derivs = no_derivs
  grafts f given (more_derivs d ds) = more_derivs (graft f given d) (grafts f given ds)

-- ---- a substitution, from the context `params` to `ctx`

module _ (env : List Declaration) (ctx params : List Binder) (no_deps : BoundArePlain params)
    (f : Trees) (fits : Fits (signatures env) ctx f params) (apart : AreDisjoint ctx f params) where
  sorted_instance : (e : Tree) → IsSorted env params e → IsSorted env ctx (instance f e)
  sorted_instance e (s, h) = (s, sort_of_instance (signatures env) ctx params f fits e s h)

  -- what is put in for a bound variable
  put_in : (y s : ℕ) → IsBoundOf params y s → (operand f y ≡ var (place_of (operand f y))) × IsBoundOf ctx (place_of (operand f y)) s
  put_in y s (b, at, bd, is) = go (bound_operand (signatures env) ctx params f fits y b at bd) (sort_of_operand (signatures env) ctx params f fits y b at)
    where
      go : IsBoundVar ctx (operand f y) → HasSort (signatures env) ctx (operand f y) b.sort
          → (operand f y ≡ var (place_of (operand f y))) × IsBoundOf ctx (place_of (operand f y)) s
      go (x, c, is_x, at_x, bd_x) h =
          let k : HasSort (signatures env) ctx (var x) b.sort = subst (λ e. HasSort (signatures env) ctx e b.sort) is_x h in
          let same : x ≡ place_of (operand f y) = sym (ap place_of is_x) in (
            is_x ∙ ap var same,
            subst (λ z. IsBoundOf ctx z s) same (c, at_x, bd_x, ap (λ d. d.sort) (one_at at_x k.1) ∙ k.2 ∙ is),
          )

  in_some_v_of_pattern : (es : Trees) (ps : List Binder) → Fits (signatures env) params es ps → (y s : ℕ) → IsBoundOf params y s
      → InSomeV ctx (place_of (operand f y)) (instances f es) → InSomeV params y es
  in_some_v_of_pattern none ps h y s is_y has = absurd has
  in_some_v_of_pattern (more e es) [] h y s is_y has = absurd h
  in_some_v_of_pattern (more e es) (p ∷ ps) h y s (b, at, bd, is) (inl has) =
      inl (in_v_of_pattern (signatures env) ctx params no_deps f apart e p.sort h.0 (place_of (operand f y)) y b at bd (put_in y s (b, at, bd, is)).0 has)
  in_some_v_of_pattern (more e es) (p ∷ ps) h y s is_y (inr has) = inr (in_some_v_of_pattern es ps h.2 y s is_y has)

  -- different bound variables get different ones
  one_pattern : (y z s s' : ℕ) → IsBoundOf params y s → IsBoundOf params z s' → place_of (operand f z) ≡ place_of (operand f y) → z ≡ y
  one_pattern y z s s' (b, at, bd, is) (c, at', bd', is') same =
      let py = put_in y s (b, at, bd, is) in
      let pz = put_in z s' (c, at', bd', is') in
      let d = pz.1 in
      elim (apart z y (place_of (operand f y)) c b at' at bd py.0
      (subst (InV ctx (place_of (operand f y))) (sym pz.0) (d.0, d.1, inl (d.2, sym same)))) [
        | inl is_same ↦ is_same
        | inr dep ↦ absurd (nothing_in y (subst (λ ds. Contains ds y) (no_deps z c at' bd') dep))
      ]
    where
      nothing_in : (x : ℕ) → Contains [] x → ⊥
      nothing_in x (k, below, _) = not-suc-le-zero below

  bound_among : (es : Trees) (ys : List ℕ) (bs : List Binder) → AreFresh params es ys bs → (z : ℕ) → Contains ys z → (s : ℕ) × IsBoundOf params z s
  bound_among es [] bs h z (k, below, _) = absurd (not-suc-le-zero below)
  bound_among es (y ∷ ys) [] h z has = absurd h
  bound_among es (y ∷ ys) (b ∷ bs) (is_y, _, _, rest) z (zero, _, is) = (b.sort, subst (λ x. IsBoundOf params x b.sort) is is_y)
  bound_among es (y ∷ ys) (b ∷ bs) (is_y, _, _, rest) z (suc k, below, is) = bound_among es ys bs rest z (k, le_of_suc-le-suc below, is)

  fresh_instance : (es : Trees) (ps : List Binder) → Fits (signatures env) params es ps → (ys : List ℕ) (bs : List Binder)
      → AreFresh params es ys bs → AreFresh ctx (instances f es) (renamed f ys) bs
  fresh_instance es ps h [] [] k = tt
  fresh_instance es ps h [] (b ∷ bs) k = absurd k
  fresh_instance es ps h (y ∷ ys) [] k = absurd k
  fresh_instance es ps h (y ∷ ys) (b ∷ bs) (is_y, out, once, rest) =
      ((put_in y b.sort is_y).1, λ has. out (in_some_v_of_pattern es ps h y b.sort is_y has), once', fresh_instance es ps h ys bs rest)
    where
      once' : Contains (renamed f ys) (place_of (operand f y)) → ⊥
      once' has =
          let z = contains_map (λ y. place_of (operand f y)) ys (place_of (operand f y)) has in
          let k = bound_among es ys bs rest z.0 z.1 in
          once (subst (Contains ys) (one_pattern y z.0 b.sort k.0 is_y k.1 z.2) z.1)

  variables_instance : (es : Trees) (ys : List ℕ) (bs : List Binder) → AreFresh params es ys bs → instances f (variables ys) ≡ variables (renamed f ys)
  variables_instance es [] bs h = refl
  variables_instance es (y ∷ ys) [] h = absurd h
  variables_instance es (y ∷ ys) (b ∷ bs) (is_y, _, _, rest) = ap₂ more (put_in y b.sort is_y).0 (variables_instance es ys bs rest)

  mutual
    pub between_instance : (c : Conversion) (l r : Tree) → Between env params c l r → Between env ctx (conv_instance f c) (instance f l) (instance f r)
    between_instance (refl_conv e) l r (p, q, is, is') = (sorted_instance l p, sorted_instance r q, ap (instance f) is, ap (instance f) is')
    between_instance (sym_conv c) l r (p, q, h) = (sorted_instance l p, sorted_instance r q, between_instance c r l h)
    between_instance (cong_conv t cs) l r (p, q, (ls, rs, is, is', h)) =
        (sorted_instance l p, sorted_instance r q, (instances f ls, instances f rs, ap (instance f) is, ap (instance f) is', all_between_instance cs ls rs h))
    between_instance (unfold_conv t es ys c) l r (p, q, is, (d, dummies, body, at, h, fresh, k)) = (
      sorted_instance l p,
      sorted_instance r q,
      ap (instance f) is,
      (
        d,
        dummies,
        body,
        at,
        fits_of_instances (signatures env) ctx params f fits es d.signature.params h,
        fresh_instance es d.signature.params h ys dummies fresh,
        subst (λ e. Between env ctx (conv_instance f c) e (instance f r))
            (instance-instance f (followed_by es (variables ys)) body
            ∙ ap (λ g. instance g body) (instances-followed_by f es (variables ys) ∙ ap (followed_by (instances f es)) (variables_instance es ys dummies fresh)))
            (between_instance c (instance (followed_by es (variables ys)) body) r k),
      ),
    )
    between_instance (gap_conv a b) l r (p, q, is, is', (s, h, k)) = (
      sorted_instance l p,
      sorted_instance r q,
      ap (instance f) is,
      ap (instance f) is',
      (s, sort_of_instance (signatures env) ctx params f fits l s h, sort_of_instance (signatures env) ctx params f fits r s k),
    )

    pub all_between_instance : (cs : Conversions) (ls rs : Trees) → AllBetween env params cs ls rs → AllBetween env ctx (convs_instance f cs) (instances f ls) (instances f rs)
    all_between_instance no_convs none none h = tt
    all_between_instance no_convs none (more r rs) h = absurd h
    all_between_instance no_convs (more l ls) rs h = absurd h
    all_between_instance (more_convs c cs) none rs h = absurd h
    all_between_instance (more_convs c cs) (more l ls) none h = absurd h
    all_between_instance (more_convs c cs) (more l ls) (more r rs) (h, rest) = (between_instance c l r h, all_between_instance cs ls rs rest)

  -- ---- derivations

  module _ (hyps hyps' : Trees) (given : Derivations) (they_derive : AllDerive env ctx hyps' given (instances f hyps)) where
    derives_at : (ds : Derivations) (es : Trees) → AllDerive env ctx hyps' ds (instances f es) → (i : ℕ) (e : Tree) → slice_get (listed es) i ≡ Some e
        → Derives env ctx hyps' (derivation_at ds i) (instance f e)
    derives_at ds none h i e at = absurd (none-some _ at)
    derives_at no_derivs (more e' es) h i e at = absurd h
    derives_at (more_derivs d ds) (more e' es) h zero e at = subst (λ x. Derives env ctx hyps' d (instance f x)) (one_at refl at) h.0
    derives_at (more_derivs d ds) (more e' es) h (suc i) e at = derives_at ds es h.1 i e at

    mutual
      pub derives_graft : (d : Derivation) (e : Tree) → Derives env params hyps d e → Derives env ctx hyps' (graft f given d) (instance f e)
      derives_graft (hypothesis i) e at = derives_at given hyps they_derive i e at
      derives_graft (cite T es ds) e (a, at, is, h, k, rest) = (
        a,
        at,
        ap (instance f) is ∙ instance-instance f es a.conclusion,
        fits_of_instances (signatures env) ctx params f fits es a.params h,
        disjoint_instances (signatures env) ctx params no_deps f apart es a.params h k,
        subst (AllDerive env ctx hyps' (grafts f given ds)) (instances-instances f es a.hyps) (all_derive_graft ds (instances es a.hyps) rest),
      )
      derives_graft (convert x c d) e (is, (g, h, k)) = (ap (instance f) is, (instance f g, between_instance c x g h, derives_graft d g k))
      derives_graft (gap x) e (is, (s, h, provable)) = (ap (instance f) is, (s, sort_of_instance (signatures env) ctx params f fits e s h, provable))

      pub all_derive_graft : (ds : Derivations) (es : Trees) → AllDerive env params hyps ds es → AllDerive env ctx hyps' (grafts f given ds) (instances f es)
      all_derive_graft no_derivs none h = tt
      all_derive_graft no_derivs (more e es) h = absurd h
      all_derive_graft (more_derivs d ds) none h = absurd h
      all_derive_graft (more_derivs d ds) (more e es) (h, rest) = (derives_graft d e h, all_derive_graft ds es rest)

-- an instance of a conversion has its gaps
mutual
  pub gaps_instance : (G : Type 0) (f : Trees) (c : Conversion) → GapsOnly G c → GapsOnly G (conv_instance f c)
  gaps_instance G f (refl_conv e) h = tt
  gaps_instance G f (sym_conv c) h = gaps_instance G f c h
  gaps_instance G f (cong_conv t cs) h = all_gaps_instance G f cs h
  gaps_instance G f (unfold_conv t es ys c) h = gaps_instance G f c h
  gaps_instance G f (gap_conv l r) h = h

  pub all_gaps_instance : (G : Type 0) (f : Trees) (cs : Conversions) → AllGapsOnly G cs → AllGapsOnly G (convs_instance f cs)
  all_gaps_instance G f no_convs h = tt
  all_gaps_instance G f (more_convs c cs) (h, rest) = (gaps_instance G f c h, all_gaps_instance G f cs rest)

mutual
  pub gaps_more : (G H : Type 0) → (G → H) → (c : Conversion) → GapsOnly G c → GapsOnly H c
  gaps_more G H m (refl_conv e) h = tt
  gaps_more G H m (sym_conv c) h = gaps_more G H m c h
  gaps_more G H m (cong_conv t cs) h = all_gaps_more G H m cs h
  gaps_more G H m (unfold_conv t es ys c) h = gaps_more G H m c h
  gaps_more G H m (gap_conv l r) h = m h

  pub all_gaps_more : (G H : Type 0) → (G → H) → (cs : Conversions) → AllGapsOnly G cs → AllGapsOnly H cs
  all_gaps_more G H m no_convs h = tt
  all_gaps_more G H m (more_convs c cs) (h, rest) = (gaps_more G H m c h, all_gaps_more G H m cs rest)

-- what is cited is cited by the derivation or by those that are put in
cites_at : (P : Uses) (ds : Derivations) → AllCiteOnly P ds → (i : ℕ) → CitesOnly P (derivation_at ds i)
cites_at P no_derivs h i = tt
cites_at P (more_derivs d ds) h zero = h.0
cites_at P (more_derivs d ds) h (suc i) = cites_at P ds h.1 i

mutual
  pub cites_graft : (P : Uses) (f : Trees) (given : Derivations) → AllCiteOnly P given → (d : Derivation) → CitesOnly P d → CitesOnly P (graft f given d)
  cites_graft P f given h (hypothesis i) k = cites_at P given h i
  cites_graft P f given h (cite T es ds) (k, rest) = (k, all_cite_graft P f given h ds rest)
  cites_graft P f given h (convert e c d) (c_gaps, k) = (gaps_instance P.gaps f c c_gaps, cites_graft P f given h d k)
  cites_graft P f given h (gap e) k = k

  pub all_cite_graft : (P : Uses) (f : Trees) (given : Derivations) → AllCiteOnly P given → (ds : Derivations) → AllCiteOnly P ds → AllCiteOnly P (grafts f given ds)
  all_cite_graft P f given h no_derivs k = tt
  all_cite_graft P f given h (more_derivs d ds) (k, rest) = (cites_graft P f given h d k, all_cite_graft P f given h ds rest)

-- what has P has Q, so the citations have Q
mutual
  pub cites_more : (P Q : Uses) → ((T : ℕ) → P.cites T → Q.cites T) → (P.gaps → Q.gaps) → (d : Derivation) → CitesOnly P d → CitesOnly Q d
  cites_more P Q m g (hypothesis i) h = tt
  cites_more P Q m g (cite T es ds) (h, rest) = (m T h, all_cite_more P Q m g ds rest)
  cites_more P Q m g (convert e c d) (k, h) = (gaps_more P.gaps Q.gaps g c k, cites_more P Q m g d h)
  cites_more P Q m g (gap e) h = g h

  pub all_cite_more : (P Q : Uses) → ((T : ℕ) → P.cites T → Q.cites T) → (P.gaps → Q.gaps) → (ds : Derivations) → AllCiteOnly P ds → AllCiteOnly Q ds
  all_cite_more P Q m g no_derivs h = tt
  all_cite_more P Q m g (more_derivs d ds) (h, rest) = (cites_more P Q m g d h, all_cite_more P Q m g ds rest)
