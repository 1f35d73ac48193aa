-- Stated proofs are sound, and prove what they derive.
use Rattle.std.specs.Prelude.{ℕ, suc, zero, ◌≡◌, ◌<◌, ⊤, Bool, true, List, [], ◌∷◌, ◌++◌, length, slice_get, Some}
use Rattle.std.proofs.Common.{refl, sym, ap, ◌∙◌, subst, arith}
use Rattle.std.proofs.lemmas.Option.{get_or_from_slice_get, slice_get_within}
use Rattle.std.proofs.lemmas.List.{length-append}
use Rattle.mz_logic_theory.specs.Tree.{Tree, Trees, none, more, listed, instance, instances}
use Rattle.mz_logic_theory.specs.Declaration.{Assertion, Declaration, signatures, assertions}
use Rattle.mz_logic_theory.specs.Legality.{IsLegalEnv}
use Rattle.mz_logic_theory.specs.Conversions.{Between}
use Rattle.mz_logic_theory.specs.Derivations.{Derivation, Derivations, hypothesis, cite, convert, gap, no_derivs, more_derivs, Derives, AllDerive, derivation_at}
use Rattle.mz_logic_theory.specs.declared.binder.Binder.{Binder}
use Rattle.mz_logic_theory.proofs.Offered.{one_at, sort_of_instance, legal_env_is_right}
use Rattle.mz_logic_theory.specs.Sorts.{HasProvable}
use Rattle.mz_mmu_theory.specs.Gaps.{LeavesOnly, AllLeaveOnly}
use Rattle.mz_mmu_theory.specs.Proof.{Proof, Proofs, by_hyp, by_name, by_citation, by_conv, by_let, by_gap, no_proofs, more_proofs}
use Rattle.mz_mmu_theory.specs.Names.{ProofThere, ProofsThere}
use Rattle.mz_mmu_theory.specs.Meaning.{then_deriv, derivation, derivations, LetsDerive, AllLetsDerive}
use Rattle.mz_machine_theory.proofs.Offered.{count-fits}
use Rattle.mz_emit_theory.specs.InReach.{InReach}
use Rattle.mz_emit_theory.specs.Claims.{claim_at, conclusion_of, proved, all_proved, IsCitable, IsSound, AreSound}
use Rattle.mz_emit_theory.proofs.OverContext.{reach_of_sort}
use Rattle.mz_emit_theory.specs.ClaimsLaws.{StatedProofsAreSound}

module _ (env : List Declaration) (ctx : List Binder) (hyps : Trees) where
  -- what a derivation derives is one tree
  one_derived : (d : Derivation) (e f : Tree) → Derives env ctx hyps d e → Derives env ctx hyps d f → e ≡ f
  one_derived (hypothesis i) e f a b = one_at a b
  one_derived (cite T es ds) e f a b = a.2 ∙ ap (λ (x : Assertion). instance es x.conclusion) (one_at a.1 b.1) ∙ sym b.2
  one_derived _ e f a b = a.0 ∙ sym b.0

  -- each let's derivation derives what the let proves
  abbrev LetsProve : Derivations → List Tree → Type 0
  LetsProve no_derivs [] = ⊤
  LetsProve no_derivs (e ∷ es) = ⊥
  LetsProve (more_derivs d ds) [] = ⊥
  LetsProve (more_derivs d ds) (e ∷ es) = Derives env ctx hyps d e × LetsProve ds es

  let_at : (ds : Derivations) (es : List Tree) (i : ℕ) → LetsProve ds es → i < length es → Derives env ctx hyps (derivation_at ds i) (claim_at es i)
  let_at no_derivs [] i h lt = absurd (omega (arith, lt))
  let_at (more_derivs d ds) (e ∷ es) zero h lt = h.0
  let_at (more_derivs d ds) (e ∷ es) (suc i) h lt = let_at ds es i h.1 (omega (arith, lt))
  let_at _ _ i h lt = absurd h

  let_more : (ds : Derivations) (es : List Tree) (d : Derivation) (e : Tree) → LetsProve ds es → Derives env ctx hyps d e → LetsProve (then_deriv ds d) (es ++ e ∷ [])
  let_more no_derivs [] d e h k = (k, tt)
  let_more (more_derivs c ds) (f ∷ es) d e h k = (h.0, let_more ds es d e h.1 k)
  let_more _ _ d e h k = absurd h

  module _ (legal : IsLegalEnv env) (gaps : Bool) where
    citable : (T : ℕ) (es : Trees) (ds : Derivations) (e : Tree) (hs : List Tree) (h : Derives env ctx hyps (cite T es ds) e) → hs ≡ listed (instances es h.0.hyps) → IsCitable env ctx T es hs
    citable T es ds e hs h is =
        let a = h.0 in
        let right = ((legal_env_is_right env legal).assertions_right T a h.1).2 in (
          a,
          h.1,
          h.3,
          h.4,
          is,
          subst (λ (n : ℕ). InReach n a.conclusion) (sym (count-fits (signatures env) ctx es a.params h.3)) (reach_of_sort (signatures env) a.params a.conclusion right.0 right.1),
          (right.0, sort_of_instance (signatures env) ctx a.params es h.3 a.conclusion right.0 right.1),
        )

    concluded : (T : ℕ) (a : Assertion) → slice_get (assertions env) T ≡ Some a → conclusion_of env T ≡ a.conclusion
    concluded T a at = ap (λ (x : Assertion). x.conclusion) (get_or_from_slice_get (assertions env) T a _ at)

    module _ (ts n ths : ℕ) where
      mutual
        pub sound : (p : Proof) (lets : Derivations) (claims : List Tree) (ls : ℕ) (e : Tree) → ls ≡ length claims → LetsProve lets claims
            → ProofThere ts n ths (length (listed hyps)) ls p → LeavesOnly (gaps ≡ true) p → LetsDerive env ctx hyps lets p → Derives env ctx hyps (derivation lets p) e
            → IsSound gaps env ctx (listed hyps) claims p × (proved env (listed hyps) claims p ≡ e)
        sound (by_hyp i) lets claims ls e ls-is prove there leaves derive h = (slice_get_within (listed hyps) i e h, get_or_from_slice_get (listed hyps) i e _ h)
        sound (by_name i) lets claims ls e ls-is prove there leaves derive h =
            let lt : i < length claims = omega (arith, ls-is, there) in
            (lt, one_derived (derivation_at lets i) (claim_at claims i) e (let_at lets claims i prove lt) h)
        sound (by_citation T es ps) lets claims ls e ls-is prove there leaves derive h =
            let all = all_sound ps lets claims ls (instances es h.0.hyps) ls-is prove there.2 leaves derive h.5 in
            ((citable T es (derivations lets ps) e (all_proved env (listed hyps) claims ps) h all.1, all.0), ap (instance es) (concluded T h.0 h.1) ∙ sym h.2)
        sound (by_conv f c p) lets claims ls e ls-is prove there leaves derive h =
            let part = sound p lets claims ls h.1.0 ls-is prove there.2 leaves.1 derive h.1.2 in
            (((subst (λ (g : Tree). Between env ctx c f g) (sym part.1) h.1.1, leaves.0), part.0), sym h.0)
        sound (by_let p q) lets claims ls e ls-is prove there leaves derive h =
            let first = sound p lets claims ls derive.1.0 ls-is prove there.0 leaves.0 derive.0 derive.1.1 in
            let more_claims : List Tree = claims ++ proved env (listed hyps) claims p ∷ [] in
            let many : suc ls ≡ length more_claims = (let l = length-append claims (proved env (listed hyps) claims p ∷ []) in omega (arith, l, ls-is)) in
            let second = sound q (then_deriv lets (derivation lets p)) more_claims (suc ls) e many
            (let_more lets claims (derivation lets p) (proved env (listed hyps) claims p) prove (subst (Derives env ctx hyps (derivation lets p)) (sym first.1) derive.1.1))
            there.1 leaves.1 derive.2 h in
            ((first.0, second.0), second.1)
        sound (by_gap f) lets claims ls e ls-is prove there leaves derive h = ((leaves, subst (HasProvable env ctx) h.0 h.1), sym h.0)

        all_sound : (ps : Proofs) (lets : Derivations) (claims : List Tree) (ls : ℕ) (es : Trees) → ls ≡ length claims → LetsProve lets claims
            → ProofsThere ts n ths (length (listed hyps)) ls ps → AllLeaveOnly (gaps ≡ true) ps → AllLetsDerive env ctx hyps lets ps → AllDerive env ctx hyps (derivations lets ps) es
            → AreSound gaps env ctx (listed hyps) claims ps × (all_proved env (listed hyps) claims ps ≡ listed es)
        all_sound no_proofs lets claims ls none ls-is prove there leaves derive h = (tt, refl)
        all_sound (more_proofs p ps) lets claims ls (more e es) ls-is prove there leaves derive h =
            let first = sound p lets claims ls e ls-is prove there.0 leaves.0 derive.0 h.0 in
            let rest = all_sound ps lets claims ls es ls-is prove there.1 leaves.1 derive.1 h.1 in
            ((first.0, rest.0), ap (λ (z : Tree). z ∷ all_proved env (listed hyps) claims ps) first.1 ∙ ap (λ (z : List Tree). e ∷ z) rest.1)
        all_sound _ lets claims ls _ ls-is prove there leaves derive h = absurd h

pub stated_sound : StatedProofsAreSound
stated_sound gaps env legal ctx a p is leaves there =
    sound env ctx a.hyps legal gaps (length (signatures env)) (length ctx) (length (assertions env)) p no_derivs [] 0 a.conclusion refl tt there leaves is.1 is.0
