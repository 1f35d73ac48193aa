-- Proofs that have no let of their own, but name those before them, and what they derive.
use Rattle.std.proofs.Common.{◌≡◌, ℕ, zero, suc, ◌+◌, ◌<◌, ◌≤◌, List, [], ◌∷◌, ◌++◌, length, Some, refl, sym, ap, ap₂, subst, ◌∙◌, arith}
use Rattle.std.specs.Prelude.{slice_get, ⊤}
use Rattle.std.proofs.lemmas.List.{length-append}
use Rattle.mz_logic_theory.specs.Tree.{Tree, Trees, none, more, listed}
use Rattle.mz_logic_theory.specs.Declaration.{Declaration}
use Rattle.mz_logic_theory.specs.Conversions.{GapsOnly}
use Rattle.mz_logic_theory.specs.Derivations.{Derivation, Derivations, hypothesis, cite, convert, gap, no_derivs, more_derivs, Derives, AllDerive, derivation_at}
use Rattle.mz_logic_theory.specs.declared.binder.Binder.{Binder}
use Rattle.mz_mmu_theory.specs.Proof.{Proof, Proofs, by_hyp, by_name, by_citation, by_conv, by_let, by_gap, no_proofs, more_proofs}
use Rattle.mz_mmu_theory.specs.Gaps.{LeavesOnly, AllLeaveOnly}
use Rattle.mz_machine_theory.specs.Spells.{trees_of}
use Rattle.mz_mmu_theory.specs.Meaning.{then_deriv, derivation, derivations, LetsDerive, AllLetsDerive}
use Rattle.mz_trace.specs.Traces.{under_lets}

-- it has no let and no gap of its own, gaps in conversions only where N holds, and names of the first n lets
abbrev mutual
  pub IsPlain : Type 0 → ℕ → Proof → Type 0
  IsPlain N n (by_hyp i) = ⊤
  IsPlain N n (by_name i) = i < n
  IsPlain N n (by_citation T es ps) = ArePlain N n ps
  IsPlain N n (by_conv e c p) = GapsOnly N c × IsPlain N n p
  IsPlain N n _ = ⊥

  pub ArePlain : Type 0 → ℕ → Proofs → Type 0
  ArePlain N n no_proofs = ⊤
  ArePlain N n (more_proofs p ps) = IsPlain N n p × ArePlain N n ps

-- ---- derivations in a row

abbrev many : Derivations → ℕ
many no_derivs = 0
many (more_derivs d ds) = suc (many ds)

many-then : (ds : Derivations) (d : Derivation) → many (then_deriv ds d) ≡ suc (many ds)
many-then no_derivs d = refl
many-then (more_derivs e ds) d = ap suc (many-then ds d)

at-then : (ds : Derivations) (d : Derivation) (i : ℕ) → i < many ds → derivation_at (then_deriv ds d) i ≡ derivation_at ds i
at-then no_derivs d i lt = absurd (omega arith)
at-then (more_derivs e ds) d zero lt = refl
at-then (more_derivs e ds) d (suc i) lt = at-then ds d i (omega arith)

at-last : (ds : Derivations) (d : Derivation) → derivation_at (then_deriv ds d) (many ds) ≡ d
at-last no_derivs d = refl
at-last (more_derivs e ds) d = at-last ds d

-- those of the lets behind ds, in which each may name those before it
abbrev pub derivs : Derivations → List Proof → Derivations
derivs ds [] = ds
derivs ds (p ∷ ps) = derivs (then_deriv ds (derivation ds p)) ps

derivs-push : (ds : Derivations) (ps : List Proof) (q : Proof) → derivs ds (ps ++ q ∷ []) ≡ then_deriv (derivs ds ps) (derivation (derivs ds ps) q)
derivs-push ds [] q = refl
derivs-push ds (p ∷ ps) q = derivs-push (then_deriv ds (derivation ds p)) ps q

many-derivs : (ds : Derivations) (ps : List Proof) → many (derivs ds ps) ≡ many ds + length ps
many-derivs ds [] = omega arith
many-derivs ds (p ∷ ps) = let h = many-derivs (then_deriv ds (derivation ds p)) ps in omega (arith, h, many-then ds (derivation ds p))

derivation-under : (ds : Derivations) (ps : List Proof) (q : Proof) → derivation ds (under_lets ps q) ≡ derivation (derivs ds ps) q
derivation-under ds [] q = refl
derivation-under ds (p ∷ ps) q = derivation-under (then_deriv ds (derivation ds p)) ps q

module _ (N : Type 0) where
  mutual
    plain-more : (n m : ℕ) → n ≤ m → (p : Proof) → IsPlain N n p → IsPlain N m p
    plain-more n m le (by_hyp i) h = tt
    plain-more n m le (by_name i) h = omega arith
    plain-more n m le (by_citation T es ps) h = all-plain-more n m le ps h
    plain-more n m le (by_conv e c p) h = (h.0, plain-more n m le p h.1)
    plain-more n m le _ h = absurd h

    all-plain-more : (n m : ℕ) → n ≤ m → (ps : Proofs) → ArePlain N n ps → ArePlain N m ps
    all-plain-more n m le no_proofs h = tt
    all-plain-more n m le (more_proofs p ps) h = (plain-more n m le p h.0, all-plain-more n m le ps h.1)

  mutual
    -- one let more changes nothing
    same-then : (ds : Derivations) (d : Derivation) (p : Proof) → IsPlain N (many ds) p → derivation (then_deriv ds d) p ≡ derivation ds p
    same-then ds d (by_hyp i) h = refl
    same-then ds d (by_name i) h = at-then ds d i h
    same-then ds d (by_citation T es ps) h = ap (cite T es) (all-same-then ds d ps h)
    same-then ds d (by_conv e c p) h = ap (convert e c) (same-then ds d p h.1)
    same-then ds d _ h = absurd h

    all-same-then : (ds : Derivations) (d : Derivation) (ps : Proofs) → ArePlain N (many ds) ps → derivations (then_deriv ds d) ps ≡ derivations ds ps
    all-same-then ds d no_proofs h = refl
    all-same-then ds d (more_proofs p ps) h = ap₂ more_derivs (same-then ds d p h.0) (all-same-then ds d ps h.1)

  mutual
    leaves-only : (n : ℕ) (p : Proof) → IsPlain N n p → LeavesOnly N p
    leaves-only n (by_citation T es ps) h = all-leave-only n ps h
    leaves-only n (by_conv e c p) h = (h.0, leaves-only n p h.1)
    leaves-only n (by_let p q) h = absurd h
    leaves-only n (by_gap e) h = absurd h
    leaves-only n _ h = tt

    all-leave-only : (n : ℕ) (ps : Proofs) → ArePlain N n ps → AllLeaveOnly N ps
    all-leave-only n no_proofs h = tt
    all-leave-only n (more_proofs p ps) h = (leaves-only n p h.0, all-leave-only n ps h.1)

  module _ (env : List Declaration) (ctx : List Binder) where
    mutual
      no-lets : (hyps : Trees) (ds : Derivations) (n : ℕ) (p : Proof) → IsPlain N n p → LetsDerive env ctx hyps ds p
      no-lets hyps ds n (by_citation T es ps) h = all-no-lets hyps ds n ps h
      no-lets hyps ds n (by_conv e c p) h = no-lets hyps ds n p h.1
      no-lets hyps ds n (by_let p q) h = absurd h
      no-lets hyps ds n (by_gap e) h = absurd h
      no-lets hyps ds n _ h = tt

      all-no-lets : (hyps : Trees) (ds : Derivations) (n : ℕ) (ps : Proofs) → ArePlain N n ps → AllLetsDerive env ctx hyps ds ps
      all-no-lets hyps ds n no_proofs h = tt
      all-no-lets hyps ds n (more_proofs p ps) h = (no-lets hyps ds n p h.0, all-no-lets hyps ds n ps h.1)

    -- ---- one more hypothesis

    abbrev IsFrontOf : Trees → Trees → Type 0
    IsFrontOf hs gs = (i : ℕ) (e : Tree) → slice_get (listed hs) i ≡ Some e → slice_get (listed gs) i ≡ Some e

    mutual
      derives-more : (hs gs : Trees) → IsFrontOf hs gs → (d : Derivation) (e : Tree) → Derives env ctx hs d e → Derives env ctx gs d e
      derives-more hs gs front (hypothesis i) e h = front i e h
      derives-more hs gs front (cite T es ds) e (a, at, is, fits, apart, h) = (a, at, is, fits, apart, all-derive-more hs gs front ds _ h)
      derives-more hs gs front (convert f c d) e (is, (g, between, h)) = (is, (g, between, derives-more hs gs front d g h))
      derives-more hs gs front (gap f) e h = h

      all-derive-more : (hs gs : Trees) → IsFrontOf hs gs → (ds : Derivations) (es : Trees) → AllDerive env ctx hs ds es → AllDerive env ctx gs ds es
      all-derive-more hs gs front no_derivs none h = tt
      all-derive-more hs gs front (more_derivs d ds) (more e es) (h, rest) = (derives-more hs gs front d e h, all-derive-more hs gs front ds es rest)
      all-derive-more hs gs front _ _ h = absurd h

    front-push : (hyps : List Tree) (h : Tree) → IsFrontOf (trees_of hyps) (trees_of (hyps ++ h ∷ []))
    front-push [] h i e at = absurd cc
    front-push (g ∷ hyps) h zero e at = at
    front-push (g ∷ hyps) h (suc i) e at = front-push hyps h i e at

    last-given : (hyps : List Tree) (h : Tree) → slice_get (listed (trees_of (hyps ++ h ∷ []))) (length hyps) ≡ Some h
    last-given [] h = refl
    last-given (g ∷ hyps) h = last-given hyps h

    -- ---- proofs behind lets

    -- behind the lets it derives the expression
    abbrev pub Proves : List Tree → List Proof → Proof → Tree → Type 0
    Proves hyps lets p e = IsPlain N (length lets) p × Derives env ctx (trees_of hyps) (derivation (derivs no_derivs lets) p) e

    -- each let, behind those before it, derives something
    abbrev LetsFrom : Trees → Derivations → ℕ → List Proof → Type 0
    LetsFrom hyps ds n [] = ⊤
    LetsFrom hyps ds n (q ∷ qs) = IsPlain N n q × ((e : Tree) × Derives env ctx hyps (derivation ds q) e) × LetsFrom hyps (then_deriv ds (derivation ds q)) (suc n) qs

    abbrev pub LetsProve : List Tree → List Proof → Type 0
    LetsProve hyps lets = LetsFrom (trees_of hyps) no_derivs 0 lets

    pub assumed : (hyps : List Tree) (lets : List Proof) (e : Tree) → Proves (hyps ++ e ∷ []) lets (by_hyp (length hyps)) e
    assumed hyps lets e = (tt, last-given hyps e)

    pub proves-assuming : (hyps : List Tree) (lets : List Proof) (h : Tree) (p : Proof) (e : Tree) → Proves hyps lets p e → Proves (hyps ++ h ∷ []) lets p e
    proves-assuming hyps lets h p e (plain, derives) = (plain, derives-more (trees_of hyps) (trees_of (hyps ++ h ∷ [])) (front-push hyps h) _ e derives)

    lets-from-assuming : (hyps : List Tree) (h : Tree) (ds : Derivations) (n : ℕ) (lets : List Proof) → LetsFrom (trees_of hyps) ds n lets → LetsFrom (trees_of (hyps ++ h ∷ [])) ds n lets
    lets-from-assuming hyps h ds n [] t = tt
    lets-from-assuming hyps h ds n (q ∷ qs) (plain, (e, derives), rest) =
        (plain, (e, derives-more (trees_of hyps) (trees_of (hyps ++ h ∷ [])) (front-push hyps h) _ e derives), lets-from-assuming hyps h (then_deriv ds (derivation ds q)) (suc n) qs rest)

    pub lets-assuming : (hyps : List Tree) (lets : List Proof) (h : Tree) → LetsProve hyps lets → LetsProve (hyps ++ h ∷ []) lets
    lets-assuming hyps lets h all = lets-from-assuming hyps h no_derivs 0 lets all

    many-lets : (lets : List Proof) → many (derivs no_derivs lets) ≡ length lets
    many-lets lets = let h = many-derivs no_derivs lets in omega (arith, h)

    one-longer : (lets : List Proof) (q : Proof) → length (lets ++ q ∷ []) ≡ suc (length lets)
    one-longer lets q = let h = length-append lets (q ∷ []) in omega (arith, h)

    pub proves-behind : (hyps : List Tree) (lets : List Proof) (q p : Proof) (e : Tree) → Proves hyps lets p e → Proves hyps (lets ++ q ∷ []) p e
    proves-behind hyps lets q p e (plain, derives) =
        let ds = derivs no_derivs lets in
        let same : derivation (derivs no_derivs (lets ++ q ∷ [])) p ≡ derivation ds p =
        ap (λ (z : Derivations). derivation z p) (derivs-push no_derivs lets q) ∙ same-then ds (derivation ds q) p (subst (λ (n : ℕ). IsPlain N n p) (sym (many-lets lets)) plain) in
        (plain-more (length lets) (length (lets ++ q ∷ [])) (omega (arith, one-longer lets q)) p plain, subst (λ (d : Derivation). Derives env ctx (trees_of hyps) d e) (sym same) derives)

    pub named-proves : (hyps : List Tree) (lets : List Proof) (p : Proof) (e : Tree) → Proves hyps lets p e → Proves hyps (lets ++ p ∷ []) (by_name (length lets)) e
    named-proves hyps lets p e (plain, derives) =
        let ds = derivs no_derivs lets in
        let same : derivation_at (derivs no_derivs (lets ++ p ∷ [])) (length lets) ≡ derivation ds p =
        ap (λ (z : Derivations). derivation_at z (length lets)) (derivs-push no_derivs lets p)
        ∙ ap (derivation_at (then_deriv ds (derivation ds p))) (sym (many-lets lets)) ∙ at-last ds (derivation ds p) in
        (omega (arith, one-longer lets p), subst (λ (d : Derivation). Derives env ctx (trees_of hyps) d e) (sym same) derives)

    lets-from-push : (hyps : Trees) (ds : Derivations) (n : ℕ) (lets : List Proof) (p : Proof) (e : Tree)
        → LetsFrom hyps ds n lets → IsPlain N (n + length lets) p → Derives env ctx hyps (derivation (derivs ds lets) p) e → LetsFrom hyps ds n (lets ++ p ∷ [])
    lets-from-push hyps ds n [] p e all plain derives = (subst (λ (m : ℕ). IsPlain N m p) (omega arith) plain, (e, derives), tt)
    lets-from-push hyps ds n (q ∷ qs) p e (q-plain, q-derives, all) plain derives =
        (q-plain, q-derives, lets-from-push hyps (then_deriv ds (derivation ds q)) (suc n) qs p e all (subst (λ (m : ℕ). IsPlain N m p) (omega arith) plain) derives)

    pub lets-grow : (hyps : List Tree) (lets : List Proof) (p : Proof) (e : Tree) → LetsProve hyps lets → Proves hyps lets p e → LetsProve hyps (lets ++ p ∷ [])
    lets-grow hyps lets p e all (plain, derives) = lets-from-push (trees_of hyps) no_derivs 0 lets p e all (subst (λ (m : ℕ). IsPlain N m p) (omega arith) plain) derives

    -- ---- the whole

    lets-from-derive : (hyps : Trees) (ds : Derivations) (n m : ℕ) (lets : List Proof) (p : Proof) → LetsFrom hyps ds n lets → IsPlain N m p → LetsDerive env ctx hyps ds (under_lets lets p)
    lets-from-derive hyps ds n m [] p all plain = no-lets hyps ds m p plain
    lets-from-derive hyps ds n m (q ∷ qs) p (q-plain, q-derives, all) plain =
        (no-lets hyps ds n q q-plain, q-derives, lets-from-derive hyps (then_deriv ds (derivation ds q)) (suc n) m qs p all plain)

    lets-from-leave : (hyps : Trees) (ds : Derivations) (n m : ℕ) (lets : List Proof) (p : Proof) → LetsFrom hyps ds n lets → IsPlain N m p → LeavesOnly N (under_lets lets p)
    lets-from-leave hyps ds n m [] p all plain = leaves-only m p plain
    lets-from-leave hyps ds n m (q ∷ qs) p (q-plain, q-derives, all) plain =
        (leaves-only n q q-plain, lets-from-leave hyps (then_deriv ds (derivation ds q)) (suc n) m qs p all plain)

    -- behind its lets a proof derives what it proves, as do they, and leaves no gap
    pub proves-under : (hyps : List Tree) (lets : List Proof) (p : Proof) (e : Tree) → LetsProve hyps lets → Proves hyps lets p e
        → Derives env ctx (trees_of hyps) (derivation no_derivs (under_lets lets p)) e × LetsDerive env ctx (trees_of hyps) no_derivs (under_lets lets p) × LeavesOnly N (under_lets lets p)
    proves-under hyps lets p e all (plain, derives) = (
      subst (λ (d : Derivation). Derives env ctx (trees_of hyps) d e) (sym (derivation-under no_derivs lets p)) derives,
      lets-from-derive (trees_of hyps) no_derivs 0 (length lets) lets p all plain,
      lets-from-leave (trees_of hyps) no_derivs 0 (length lets) lets p all plain,
    )
