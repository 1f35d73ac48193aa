-- What a stated proof uses is what its derivation cites, and its gaps.
use Rattle.std.specs.Prelude.{ℕ, zero, suc, ◌≡◌, ⊤, Bool, true, false, ◌||◌, List, [], ◌∷◌, ◌++◌, map, get_or}
use Rattle.std.proofs.Common.{refl, sym, ap, ◌∙◌, arith, inl, inr, eq-eqb}
use Rattle.std.proofs.lemmas.Bool.{eqb-true, or_right, or_left}
use Rattle.std.proofs.lemmas.List.{map-append}
use Rattle.mz_base.proofs.Offered.{or-cases}
use Rattle.mz_logic_theory.specs.Conversions.{Conversion, Conversions, refl_conv, sym_conv, cong_conv, unfold_conv, gap_conv, no_convs, more_convs, GapsOnly, AllGapsOnly}
use Rattle.mz_logic_theory.specs.Derivations.{Derivation, Derivations, no_derivs, more_derivs, CitesOnly, AllCiteOnly, derivation_at}
use Rattle.mz_mmu_theory.specs.Proof.{Proof, Proofs, by_hyp, by_name, by_citation, by_conv, by_let, by_gap, no_proofs, more_proofs}
use Rattle.mz_mmu_theory.specs.Meaning.{then_deriv, derivation, derivations}
use Rattle.mz_emit_theory.specs.Uses.{Use, a_gap, assertion, is_gap, is_assertion, conv_uses, convs_use, uses, some_use}
use Rattle.mz_emit_theory.specs.ClaimsLaws.{may_use, allowing, StatedProofsUseWhatTheyMean}

no_use : (A : Type 0) → ◌≡◌ {A = Bool} false true → A
no_use A is = absurd (grind (arith, is))

module _ (cites : ℕ → Bool) (gaps : Bool) where
  -- whatever f says is used may be used
  abbrev AreAllowed : (Use → Bool) → Type 0
  AreAllowed f = (u : Use) → f u ≡ true → may_use cites gaps u ≡ true

  gap_allowed : (u : Use) → is_gap u ≡ true → gaps ≡ true → may_use cites gaps u ≡ true
  gap_allowed a_gap is may = may
  gap_allowed (assertion T) is may = no_use (cites T ≡ true) is

  citation_allowed : (u : Use) (T : ℕ) → is_assertion u T ≡ true → cites T ≡ true → may_use cites gaps u ≡ true
  citation_allowed a_gap T is may = no_use (gaps ≡ true) is
  citation_allowed (assertion U) T is may = ap cites (eqb-true U T is) ∙ may

  both_allowed : (f f' : Use → Bool) → AreAllowed f → AreAllowed f' → AreAllowed (λ u. f u || f' u)
  both_allowed f f' a b u is = elim (or-cases (f u) (f' u) is) [ inl one ↦ a u one | inr other ↦ b u other ]

  -- ---- conversions

  mutual
    conv_to : (c : Conversion) → GapsOnly (gaps ≡ true) c → AreAllowed (λ u. conv_uses u c)
    conv_to (refl_conv e) h u is = no_use (may_use cites gaps u ≡ true) is
    conv_to (sym_conv c) h u is = conv_to c h u is
    conv_to (cong_conv t cs) h u is = convs_to cs h u is
    conv_to (unfold_conv t es ys c) h u is = conv_to c h u is
    conv_to (gap_conv l r) h u is = gap_allowed u is h

    convs_to : (cs : Conversions) → AllGapsOnly (gaps ≡ true) cs → AreAllowed (λ u. convs_use u cs)
    convs_to no_convs h u is = no_use (may_use cites gaps u ≡ true) is
    convs_to (more_convs c cs) h u is = both_allowed (λ v. conv_uses v c) (λ v. convs_use v cs) (conv_to c h.0) (convs_to cs h.1) u is

  mutual
    conv_from : (c : Conversion) → AreAllowed (λ u. conv_uses u c) → GapsOnly (gaps ≡ true) c
    conv_from (refl_conv e) may = tt
    conv_from (sym_conv c) may = conv_from c may
    conv_from (cong_conv t cs) may = convs_from cs may
    conv_from (unfold_conv t es ys c) may = conv_from c may
    conv_from (gap_conv l r) may = may a_gap refl

    convs_from : (cs : Conversions) → AreAllowed (λ u. convs_use u cs) → AllGapsOnly (gaps ≡ true) cs
    convs_from no_convs may = tt
    convs_from (more_convs c cs) may = (
      conv_from c (λ u is. may u (or_left (conv_uses u c) (convs_use u cs) is)),
      convs_from cs (λ u is. may u (or_right (conv_uses u c) (convs_use u cs) is)),
    )

  -- ---- lets

  -- the derivation cites and has gaps only as allowed, exactly where all is allowed that f says is used
  abbrev Agrees : Derivation → (Use → Bool) → Type 0
  Agrees d f = (CitesOnly (allowing cites gaps) d → AreAllowed f) × (AreAllowed f → CitesOnly (allowing cites gaps) d)

  agrees_as : (d : Derivation) (f f' : Use → Bool) → ((u : Use) → f u ≡ f' u) → Agrees d f → Agrees d f'
  agrees_as d f f' same h = ((λ only u is. h.0 only u (same u ∙ is)), λ may. h.1 (λ u is. may u (sym (same u) ∙ is)))

  abbrev LetsAgree : Derivations → List (Use → Bool) → Type 0
  LetsAgree no_derivs [] = ⊤
  LetsAgree no_derivs (f ∷ fs) = ⊥
  LetsAgree (more_derivs d ds) [] = ⊥
  LetsAgree (more_derivs d ds) (f ∷ fs) = Agrees d f × LetsAgree ds fs

  -- what each let says of one use
  abbrev each : Use → List (Use → Bool) → List Bool
  each u fs = map (λ (f : Use → Bool). f u) fs

  let_at : (ds : Derivations) (fs : List (Use → Bool)) (i : ℕ) → LetsAgree ds fs → Agrees (derivation_at ds i) (λ u. get_or (each u fs) i false)
  let_at no_derivs [] i h = ((λ only u is. no_use (may_use cites gaps u ≡ true) is), λ may. tt)
  let_at (more_derivs d ds) (f ∷ fs) zero h = h.0
  let_at (more_derivs d ds) (f ∷ fs) (suc i) h = let_at ds fs i h.1
  let_at _ _ i h = absurd h

  let_more : (ds : Derivations) (fs : List (Use → Bool)) (d : Derivation) (f : Use → Bool) → LetsAgree ds fs → Agrees d f → LetsAgree (then_deriv ds d) (fs ++ f ∷ [])
  let_more no_derivs [] d f h k = (k, tt)
  let_more (more_derivs c ds) (g ∷ fs) d f h k = (h.0, let_more ds fs d f h.1 k)
  let_more _ _ d f h k = absurd h

  -- ---- proofs

  mutual
    agree : (p : Proof) (lets : Derivations) (fs : List (Use → Bool)) → LetsAgree lets fs → Agrees (derivation lets p) (λ u. uses u (each u fs) p)
    agree (by_hyp i) lets fs h = ((λ only u is. no_use (may_use cites gaps u ≡ true) is), λ may. tt)
    agree (by_name i) lets fs h = let_at lets fs i h
    agree (by_citation T es ps) lets fs h =
        let all = all_agree ps lets fs h in (
          λ only. both_allowed (λ u. is_assertion u T) (λ u. some_use u (each u fs) ps) (λ u is. citation_allowed u T is only.0) (all.0 only.1),
          λ may. (
            may (assertion T) (or_left (is_assertion (assertion T) T) (some_use (assertion T) (each (assertion T) fs) ps) (eq-eqb T T refl)),
            all.1 (λ u is. may u (or_right (is_assertion u T) (some_use u (each u fs) ps) is)),
          ),
        )
    agree (by_conv e c p) lets fs h =
        let part = agree p lets fs h in (
          λ only. both_allowed (λ u. conv_uses u c) (λ u. uses u (each u fs) p) (conv_to c only.0) (part.0 only.1),
          λ may. (
            conv_from c (λ u is. may u (or_left (conv_uses u c) (uses u (each u fs) p) is)),
            part.1 (λ u is. may u (or_right (conv_uses u c) (uses u (each u fs) p) is)),
          ),
        )
    agree (by_let p q) lets fs h =
        let g : Use → Bool = λ u. uses u (each u fs) p in
        agrees_as (derivation (then_deriv lets (derivation lets p)) q) (λ u. uses u (each u (fs ++ g ∷ [])) q) (λ u. uses u (each u fs ++ g u ∷ []) q)
        (λ u. ap (λ (L : List Bool). uses u L q) (map-append (λ (f : Use → Bool). f u) fs (g ∷ [])))
        (agree q (then_deriv lets (derivation lets p)) (fs ++ g ∷ []) (let_more lets fs (derivation lets p) g h (agree p lets fs h)))
    agree (by_gap e) lets fs h = ((λ only u is. gap_allowed u is only), λ may. may a_gap refl)

    all_agree : (ps : Proofs) (lets : Derivations) (fs : List (Use → Bool)) → LetsAgree lets fs
        → (AllCiteOnly (allowing cites gaps) (derivations lets ps) → AreAllowed (λ u. some_use u (each u fs) ps)) × (AreAllowed (λ u. some_use u (each u fs) ps) → AllCiteOnly (allowing cites gaps) (derivations lets ps))
    all_agree no_proofs lets fs h = ((λ only u is. no_use (may_use cites gaps u ≡ true) is), λ may. tt)
    all_agree (more_proofs p ps) lets fs h =
        let first = agree p lets fs h in
        let rest = all_agree ps lets fs h in (
          λ only. both_allowed (λ u. uses u (each u fs) p) (λ u. some_use u (each u fs) ps) (first.0 only.0) (rest.0 only.1),
          λ may. (
            first.1 (λ u is. may u (or_left (uses u (each u fs) p) (some_use u (each u fs) ps) is)),
            rest.1 (λ u is. may u (or_right (uses u (each u fs) p) (some_use u (each u fs) ps) is)),
          ),
        )

pub stated_uses : StatedProofsUseWhatTheyMean
stated_uses cites gaps p = agree cites gaps p no_derivs [] tt
