-- Whatever spells builds something, and one thing alone.
use Rattle.std.proofs.Common.{◌≡◌, ℕ, List, [], ◌∷◌, ◌++◌, length, refl, sym, ap, subst, ◌∙◌, inl, inr}
use Rattle.std.specs.Prelude.{reverse, true, false}
use Rattle.mz_logic_theory.specs.Tree.{Tree, Trees, var, app, none, more, listed}
use Rattle.mz_logic_theory.specs.Signature.{Signature}
use Rattle.mz_machine_theory.specs.Streams.{UnifyCommand, u_term, u_term_save, u_ref, u_dummy, u_hyp}
use Rattle.mz_machine_theory.specs.Spells.{Marks, marked, with_dummy, Spells, SpellsAll, SpellsHyps, at_first}
use Rattle.mz_machine_theory.proofs.Offered.{one-stream}
use Rattle.mz_emit_theory.specs.Sharing.{Built, Builds, BuildsAll, BuildsHyps}
use Rattle.mz_emit_theory.specs.StreamLaws.{SpellingBuilds, OneBuilding}

module _ (n : ℕ) (sigs : List Signature) where
  mutual
    builds : (m m' : Marks) (us us' : List UnifyCommand) (e : Tree) → Spells n sigs m us e m' us' → (bs : List Built) × Builds n sigs m us e m' us' bs
    builds m m' us us' (var x) s = ([], (s, refl))
    builds m m' us us' (app t es) (inl (i, u, at, is)) = ([], inl (i, u, at, is, refl))
    builds m m' us us' (app t es) (inr (inl (rest, u, has, all))) =
        let (cs, h) = all-build m m' rest us' es all in
        (record { term = app t es; saved = false; met = length m.dummies } ∷ cs, inr (inl (rest, cs, u, has, h, refl)))
    builds m m' us us' (app t es) (inr (inr (rest, u, has, all))) =
        let (cs, h) = all-build (marked m (app t es)) m' rest us' es all in
        (record { term = app t es; saved = true; met = length m.dummies } ∷ cs, inr (inr (rest, cs, u, has, h, refl)))

    all-build : (m m' : Marks) (us us' : List UnifyCommand) (es : Trees) → SpellsAll n sigs m us es m' us' → (bs : List Built) × BuildsAll n sigs m us es m' us' bs
    all-build m m' us us' none (is, u) = ([], (is, u, refl))
    all-build m m' us us' (more e es) (mid, rest, first, others) =
        let (cs, h) = builds m mid us rest e first in
        let (ds, h') = all-build mid m' rest us' es others in
        (cs ++ ds, (mid, rest, cs, ds, h, h', refl))

  hyps-build : (m m' : Marks) (us : List UnifyCommand) (hs : List Tree) → SpellsHyps n sigs m us hs m' → (bs : List Built) × BuildsHyps n sigs m us hs m' bs
  hyps-build m m' us [] (u, is) = ([], (u, is, refl))
  hyps-build m m' us (h ∷ hs) (rest, mid, us', u, first, others) =
      let (cs, b) = builds m mid rest us' h first in
      let (ds, b') = hyps-build mid m' us' hs others in
      (cs ++ ds, (rest, mid, us', cs, ds, u, b, b', refl))

  -- ---- one thing alone

  abbrev Alike : Marks → Marks → List UnifyCommand → List UnifyCommand → List Built → List Built → Type 0
  Alike a b us vs bs cs = (a ≡ b) × (us ≡ vs) × (bs ≡ cs)

  ref-rest : (i j : ℕ) (us vs : List UnifyCommand) → u_ref i ∷ us ≡ u_ref j ∷ vs → us ≡ vs
  ref-rest i j us vs e = cc

  dummy-rest : (s t : ℕ) (us vs : List UnifyCommand) → u_dummy s ∷ us ≡ u_dummy t ∷ vs → (s ≡ t) × (us ≡ vs)
  dummy-rest s t us vs e = (cc, cc)

  term-rest : (s t : ℕ) (us vs : List UnifyCommand) → u_term s ∷ us ≡ u_term t ∷ vs → us ≡ vs
  term-rest s t us vs e = cc

  save-rest : (s t : ℕ) (us vs : List UnifyCommand) → u_term_save s ∷ us ≡ u_term_save t ∷ vs → us ≡ vs
  save-rest s t us vs e = cc

  hyp-rest : (us vs : List UnifyCommand) → u_hyp ∷ us ≡ u_hyp ∷ vs → us ≡ vs
  hyp-rest us vs e = cc

  var-one : (x : ℕ) (m a b : Marks) (us vs ws : List UnifyCommand) → Spells n sigs m us (var x) a vs → Spells n sigs m us (var x) b ws → (a ≡ b) × (vs ≡ ws)
  var-one x m a b us vs ws (inl (i, u, _, is)) (inl (j, v, _, is')) = (is ∙ sym is', ref-rest i j vs ws (sym u ∙ v))
  var-one x m a b us vs ws (inl (i, u, _, is)) (inr (t, v, _, is')) = absurd (let both : u_ref i ∷ vs ≡ u_dummy t ∷ ws = sym u ∙ v in cc)
  var-one x m a b us vs ws (inr (s, u, _, is)) (inl (j, v, _, is')) = absurd (let both : u_dummy s ∷ vs ≡ u_ref j ∷ ws = sym u ∙ v in cc)
  var-one x m a b us vs ws (inr (s, u, _, is)) (inr (t, v, _, is')) =
      let (same, rest) = dummy-rest s t vs ws (sym u ∙ v) in
      (is ∙ ap (with_dummy m x) same ∙ sym is', rest)

  mutual
    one : (e : Tree) (m a b : Marks) (us vs ws : List UnifyCommand) (bs cs : List Built) → Builds n sigs m us e a vs bs → Builds n sigs m us e b ws cs → Alike a b vs ws bs cs
    one (var x) m a b us vs ws bs cs (s, is) (s', is') = let (marks, rest) = var-one x m a b us vs ws s s' in (marks, rest, is ∙ sym is')
    one (app t es) m a b us vs ws bs cs (inl (i, u, _, is, none-is)) (inl (j, v, _, is', none-is')) = (is ∙ sym is', ref-rest i j vs ws (sym u ∙ v), none-is ∙ sym none-is')
    one (app t es) m a b us vs ws bs cs (inl (i, u, _, is, none-is)) (inr (inl (rest, ds, v, _, _, _))) = absurd (let both : u_ref i ∷ vs ≡ u_term t ∷ rest = sym u ∙ v in cc)
    one (app t es) m a b us vs ws bs cs (inl (i, u, _, is, none-is)) (inr (inr (rest, ds, v, _, _, _))) = absurd (let both : u_ref i ∷ vs ≡ u_term_save t ∷ rest = sym u ∙ v in cc)
    one (app t es) m a b us vs ws bs cs (inr (inl (rest, ds, u, _, all, is))) (inl (j, v, _, _, _)) = absurd (let both : u_term t ∷ rest ≡ u_ref j ∷ ws = sym u ∙ v in cc)
    one (app t es) m a b us vs ws bs cs (inr (inr (rest, ds, u, _, all, is))) (inl (j, v, _, _, _)) = absurd (let both : u_term_save t ∷ rest ≡ u_ref j ∷ ws = sym u ∙ v in cc)
    one (app t es) m a b us vs ws bs cs (inr (inl (rest, ds, u, _, all, is))) (inr (inr (rest', ds', v, _, _, _))) = absurd (let both : u_term t ∷ rest ≡ u_term_save t ∷ rest' = sym u ∙ v in cc)
    one (app t es) m a b us vs ws bs cs (inr (inr (rest, ds, u, _, all, is))) (inr (inl (rest', ds', v, _, _, _))) = absurd (let both : u_term_save t ∷ rest ≡ u_term t ∷ rest' = sym u ∙ v in cc)
    one (app t es) m a b us vs ws bs cs (inr (inl (rest, ds, u, _, all, is))) (inr (inl (rest', ds', v, _, all', is'))) =
        let same : rest' ≡ rest = term-rest t t rest' rest (sym v ∙ u) in
        let (marks, left, built) = all-one es m a b rest vs ws ds ds' all (subst (λ (z : List UnifyCommand). BuildsAll n sigs m z es b ws ds') same all') in
        (marks, left, is ∙ ap (λ (z : List Built). record { term = app t es; saved = false; met = length m.dummies } ∷ z) built ∙ sym is')
    one (app t es) m a b us vs ws bs cs (inr (inr (rest, ds, u, _, all, is))) (inr (inr (rest', ds', v, _, all', is'))) =
        let same : rest' ≡ rest = save-rest t t rest' rest (sym v ∙ u) in
        let (marks, left, built) = all-one es (marked m (app t es)) a b rest vs ws ds ds' all (subst (λ (z : List UnifyCommand). BuildsAll n sigs (marked m (app t es)) z es b ws ds') same all') in
        (marks, left, is ∙ ap (λ (z : List Built). record { term = app t es; saved = true; met = length m.dummies } ∷ z) built ∙ sym is')

    all-one : (es : Trees) (m a b : Marks) (us vs ws : List UnifyCommand) (bs cs : List Built) → BuildsAll n sigs m us es a vs bs → BuildsAll n sigs m us es b ws cs → Alike a b vs ws bs cs
    all-one none m a b us vs ws bs cs (is, u, none-is) (is', v, none-is') = (is ∙ sym is', u ∙ sym v, none-is ∙ sym none-is')
    all-one (more e es) m a b us vs ws bs cs (mid, rest, ds, fs, first, others, is) (mid', rest', ds', fs', first', others', is') =
        let (marks, left, built) = one e m mid mid' us rest rest' ds ds' first first' in
        let others'' : BuildsAll n sigs mid rest es b ws fs' =
        subst (λ (z : Marks). BuildsAll n sigs z rest es b ws fs') (sym marks) (subst (λ (z : List UnifyCommand). BuildsAll n sigs mid' z es b ws fs') (sym left) others') in
        let (marks', left', built') = all-one es mid a b rest vs ws fs fs' others others'' in
        (marks', left', is ∙ ap (λ (z : List Built). z ++ fs) built ∙ ap (λ (z : List Built). ds' ++ z) built' ∙ sym is')

  hyps-one : (hs : List Tree) (m a b : Marks) (us : List UnifyCommand) (bs cs : List Built) → BuildsHyps n sigs m us hs a bs → BuildsHyps n sigs m us hs b cs → bs ≡ cs
  hyps-one [] m a b us bs cs (_, _, is) (_, _, is') = is ∙ sym is'
  hyps-one (h ∷ hs) m a b us bs cs (rest, mid, us', ds, fs, u, first, others, is) (rest', mid', us'', ds', fs', v, first', others', is') =
      let same : rest' ≡ rest = hyp-rest rest' rest (sym v ∙ u) in
      let (marks, left, built) = one h m mid mid' rest us' us'' ds ds' first (subst (λ (z : List UnifyCommand). Builds n sigs m z h mid' us'' ds') same first') in
      let others'' : BuildsHyps n sigs mid us' hs b fs' =
      subst (λ (z : Marks). BuildsHyps n sigs z us' hs b fs') (sym marks) (subst (λ (z : List UnifyCommand). BuildsHyps n sigs mid' z hs b fs') (sym left) others') in
      is ∙ ap (λ (z : List Built). z ++ fs) built ∙ ap (λ (z : List Built). ds' ++ z) (hyps-one hs mid a b us' fs fs' others others'') ∙ sym is'

pub spelling-builds : SpellingBuilds
spelling-builds kind sigs params stream hyps e last (us, is, mid, rest, first, others) =
    let (cs, b) = builds (length params) sigs (at_first params) mid us rest e first in
    let (ds, b') = hyps-build (length params) sigs mid last rest (reverse (listed hyps)) others in
    (cs ++ ds, (us, is, mid, rest, cs, ds, b, b', refl))

pub one-building : OneBuilding
one-building kind sigs params stream hyps e last last' bs cs (us, stream-is, mid, rest, ds, fs, first, others, is) (vs, stream-is', mid', rest', ds', fs', first', others', is') =
    let n : ℕ = length params in
    let hs : List Tree = reverse (listed hyps) in
    let same : vs ≡ us = one-stream kind stream vs us stream-is' stream-is in
    let (marks, left, built) = one n sigs e (at_first params) mid mid' us rest rest' ds ds' first (subst (λ (z : List UnifyCommand). Builds n sigs (at_first params) z e mid' rest' ds') same first') in
    let others'' : BuildsHyps n sigs mid rest hs last' fs' =
    subst (λ (z : Marks). BuildsHyps n sigs z rest hs last' fs') (sym marks) (subst (λ (z : List UnifyCommand). BuildsHyps n sigs mid' z hs last' fs') (sym left) others') in
    is ∙ ap (λ (z : List Built). z ++ fs) built ∙ ap (λ (z : List Built). ds' ++ z) (hyps-one n sigs hs mid last last' rest fs fs' others others'') ∙ sym is'
