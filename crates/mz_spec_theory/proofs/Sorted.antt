-- An expression for which a formula stands has its sort.
use Rattle.std.proofs.Common.{◌≡◌, ◌∙◌, ℕ, List, [], ◌∷◌, true, false, Some, slice_get, Contains, ap, sym, subst, inl, inr}
use Rattle.std.proofs.lemmas.Option.{get_or_from_slice_get}
use Rattle.mz_base.proofs.Offered.{contains_at}
use Rattle.mz_logic_theory.specs.Tree.{Tree, Trees, var, app, none, more}
use Rattle.mz_logic_theory.specs.Signature.{Signature}
use Rattle.mz_logic_theory.specs.Declaration.{signatures, sorts}
use Rattle.mz_logic_theory.specs.Modifiers.{MayBeClaimSort}
use Rattle.mz_logic_theory.specs.Sorts.{HasSort, Fits, HasProvable}
use Rattle.mz_logic_theory.specs.declared.binder.Binder.{Binder}
use Rattle.mz_math_theory.specs.declared.coercion.Coercion.{Coercion}
use Rattle.mz_math_theory.specs.declared.wanted.Wanted.TheVariants.{Provable as provable, Sort as of_sort}
use Rattle.mz_math_theory.specs.Coercions.{IsPath, coercion_term, wrapped}
use Rattle.mz_math_theory.specs.Forms.{IsCoercion}
use Rattle.mz_math_theory.specs.Formula.{Reader, IsFormula}
use Rattle.mz_math_theory.specs.Meaning.{Coerced, CoercedAll, IsGoal}

module _ (sigs : List Signature) (cs : List Coercion) (ctx : List Binder) (typed : (c : Coercion) → Contains cs c → IsCoercion sigs c) where
  -- a coercion's term over an expression of the sort from which it leads
  step-sorted : (p : ℕ) (c : Coercion) (e : Tree) → slice_get cs p ≡ Some c → HasSort sigs ctx e c.from → HasSort sigs ctx (app (coercion_term cs p) (more e none)) c.to
  step-sorted p c e at has = go (typed c (contains_at cs p c at))
    where
      term : coercion_term cs p ≡ c.term
      term = ap (λ x. x.term) (get_or_from_slice_get cs p c _ at)

      go : IsCoercion sigs c → HasSort sigs ctx (app (coercion_term cs p) (more e none)) c.to
      go (s, b, there, params, regular, from, to) = (
        s,
        ap (slice_get sigs) term ∙ there,
        to,
        subst (Fits sigs ctx (more e none)) (sym params) (subst (HasSort sigs ctx e) (sym from) has, (λ bound. absurd (let x : true ≡ false = sym bound ∙ regular in cc)), tt),
      )

  pub wrapped-sorted : (path : List ℕ) (s to : ℕ) (e : Tree) → IsPath cs s path to → HasSort sigs ctx e s → HasSort sigs ctx (wrapped cs path e) to
  wrapped-sorted [] s to e is has = subst (HasSort sigs ctx e) is has
  wrapped-sorted (p ∷ path) s to e (c, at, from, is) has = wrapped-sorted path c.to to (app (coercion_term cs p) (more e none)) is (step-sorted p c e at (subst (HasSort sigs ctx e) (sym from) has))

  mutual
    pub coerced-sorted : (t e : Tree) (s : ℕ) → Coerced sigs cs ctx t e s → HasSort sigs ctx e s
    coerced-sorted (var x) e s (is, b, at, sort) = subst (λ f. HasSort sigs ctx f s) (sym is) (b, at, sort)
    coerced-sorted (app t es) e s (d, fs, at, sort, is, all) = subst (λ f. HasSort sigs ctx f s) (sym is) (d, at, sort, all-sorted es d.params fs all)

    all-sorted : (es : Trees) (bs : List Binder) (fs : Trees) → CoercedAll sigs cs ctx es bs fs → Fits sigs ctx fs bs
    all-sorted none [] fs is = subst (λ gs. Fits sigs ctx gs []) (sym is) tt
    all-sorted none (b ∷ bs) fs is = absurd is
    all-sorted (more e es) [] fs is = absurd is
    all-sorted (more e es) (b ∷ bs) fs (f, s, path, gs, is, on, bound, same, rest) =
        subst (λ hs. Fits sigs ctx hs (b ∷ bs)) (sym same) (wrapped-sorted path s b.sort f on (coerced-sorted e f s is), bound, all-sorted es bs gs rest)

-- ---- formulas

module _ (r : Reader) (typed : (c : Coercion) → Contains r.table.coercions c → IsCoercion (signatures r.env) c) where
  goal-claims : (s goal : ℕ) → IsGoal r.env r.table.coercions s goal → MayBeClaimSort (sorts r.env) goal
  goal-claims s goal (inl (same, may)) = subst (MayBeClaimSort (sorts r.env)) (sym same) may
  goal-claims s goal (inr (out, may, only)) = may

  pub claim-sorted : (text : List ℕ) (e : Tree) → IsFormula r provable text e → HasProvable r.env r.scope.binders e
  claim-sorted text e (ps, cut, all, (f, s, (t, g, is, coerced, settled), (goal, path, is_goal, on, same))) = (
    goal,
    subst (λ x. HasSort (signatures r.env) r.scope.binders x goal) (sym (same ∙ ap (wrapped r.table.coercions path) settled))
        (wrapped-sorted (signatures r.env) r.table.coercions r.scope.binders typed path s goal g on (coerced-sorted (signatures r.env) r.table.coercions r.scope.binders typed t g s coerced)),
    goal-claims s goal is_goal,
  )

  pub body-sorted : (goal : ℕ) (text : List ℕ) (e : Tree) → IsFormula r (of_sort goal) text e → HasSort (signatures r.env) r.scope.binders e goal
  body-sorted goal text e (ps, cut, all, (f, s, (t, g, is, coerced, (path, on, made)), same)) =
      subst (λ x. HasSort (signatures r.env) r.scope.binders x goal) (sym (same ∙ made))
      (wrapped-sorted (signatures r.env) r.table.coercions r.scope.binders typed path s goal g on (coerced-sorted (signatures r.env) r.table.coercions r.scope.binders typed t g s coerced))
