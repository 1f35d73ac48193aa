-- Each tree stands for one expression.
use Rattle.std.proofs.Common.{◌≡◌, ◌∙◌, ℕ, List, [], ◌∷◌, ap, ap₂, sym, refl, subst, inl, inr}
use Rattle.std.proofs.lemmas.Option.{same_Some}
use Rattle.mz_logic_theory.specs.Tree.{Tree, Trees, var, app, none, more}
use Rattle.mz_logic_theory.specs.Signature.{Signature}
use Rattle.mz_logic_theory.specs.Declaration.{Declaration}
use Rattle.mz_logic_theory.specs.declared.binder.Binder.{Binder}
use Rattle.mz_math_theory.specs.declared.coercion.Coercion.{Coercion}
use Rattle.mz_math_theory.specs.Coercions.{IsPath, OnePath, wrapped}
use Rattle.mz_math_theory.specs.Meaning.{Coerced, CoercedAll, Wanted, of_sort, provable, IsSettled, IsGoal, IsClaimed}

-- ---- coercions

module _ (sigs : List Signature) (cs : List Coercion) (ctx : List Binder) (one : OnePath cs) where
  wrapped-one : (s r to : ℕ) (path other : List ℕ) (f g : Tree) → f ≡ g → s ≡ r → IsPath cs s path to → IsPath cs r other to → wrapped cs path f ≡ wrapped cs other g
  wrapped-one s r to path other f g same sorts is_p is_q =
      ap₂ (wrapped cs) (one s to path other is_p (subst (λ i. IsPath cs i other to) (sym sorts) is_q)) same

  mutual
    pub coerced-one : (tree e f : Tree) (s r : ℕ) → Coerced sigs cs ctx tree e s → Coerced sigs cs ctx tree f r → (e ≡ f) × (s ≡ r)
    coerced-one (var x) e f s r (is_e, b, at, sort_s) (is_f, c, at_c, sort_r) =
        let same : b ≡ c = same_Some _ _ (sym at ∙ at_c) in
        (is_e ∙ sym is_f, sym sort_s ∙ ap (λ q. q.sort) same ∙ sort_r)
    coerced-one (app t es) e f s r (d, fs, at, sort_s, is_e, all) (c, gs, at_c, sort_r, is_f, all_c) =
        let same : d ≡ c = same_Some _ _ (sym at ∙ at_c) in
        let operands = coerced-all es d.params fs gs all (subst (λ q. CoercedAll sigs cs ctx es q.params gs) (sym same) all_c) in
        (is_e ∙ ap (app t) operands ∙ sym is_f, sym sort_s ∙ ap (λ q. q.result.sort) same ∙ sort_r)

    pub coerced-all : (es : Trees) (bs : List Binder) (fs gs : Trees) → CoercedAll sigs cs ctx es bs fs → CoercedAll sigs cs ctx es bs gs → fs ≡ gs
    coerced-all none [] fs gs first second = first ∙ sym second
    coerced-all none (b ∷ bs) fs gs first second = absurd first
    coerced-all (more e es) [] fs gs first second = absurd first
    coerced-all (more e es) (b ∷ bs) fs gs (f, s, path, rest, is, on, bound, all, later) (g, r, other, tail, is_g, on_g, bound_g, all_g, later_g) =
        let same = coerced-one e f g s r is is_g in
        all ∙ ap₂ more (wrapped-one s r b.sort path other f g same.0 same.1 on on_g) (coerced-all es bs rest tail later later_g) ∙ sym all_g

  -- ---- the whole

  pub settled-one : (w : Wanted) (e f g : Tree) (s : ℕ) → IsSettled cs w e s f → IsSettled cs w e s g → f ≡ g
  settled-one (of_sort goal) e f g s (path, on, is) (other, on_g, is_g) = is ∙ wrapped-one s s goal path other e e refl refl on on_g ∙ sym is_g
  settled-one provable e f g s is is_g = is ∙ sym is_g

  pub goal-one : (env : List Declaration) (s a b : ℕ) (path other : List ℕ) → IsGoal env cs s a → IsGoal env cs s b → IsPath cs s path a → IsPath cs s other b → a ≡ b
  goal-one env s a b path other (inl (same, _)) (inl (too, _)) on_a on_b = same ∙ sym too
  goal-one env s a b path other (inl (_, own)) (inr (never, _, _)) on_a on_b = absurd (never own)
  goal-one env s a b path other (inr (never, _, _)) (inl (_, own)) on_a on_b = absurd (never own)
  goal-one env s a b path other (inr (_, is_a, only_a)) (inr (_, is_b, only_b)) on_a on_b = sym (only_a b other is_b on_b)

  pub claimed-one : (env : List Declaration) (w : Wanted) (e f g : Tree) (s : ℕ) → IsClaimed env cs w e s f → IsClaimed env cs w e s g → f ≡ g
  claimed-one env (of_sort goal) e f g s is is_g = is ∙ sym is_g
  claimed-one env provable e f g s (goal, path, is_goal, on, is) (end, other, is_end, on_g, is_g) =
      let same : goal ≡ end = goal-one env s goal end path other is_goal is_end on on_g in
      is ∙ wrapped-one s s end path other e e refl refl (subst (λ i. IsPath cs s path i) same on) on_g ∙ sym is_g
