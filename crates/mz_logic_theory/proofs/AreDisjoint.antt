-- The variables of an instance, and that operands stay disjoint.
use Rattle.std.proofs.Common.{ℕ, zero, suc, ◌≡◌, ◌⊎◌, Bool, true, false, List, [], ◌∷◌, slice_get, Contains, Some, refl, sym, ap, ◌∙◌, subst, inl, inr}
use Rattle.std.proofs.lemmas.Option.{none-some}
use Rattle.mz_base.proofs.Offered.{contains_none}
use Rattle.mz_logic_theory.specs.Tree.{Tree, Trees, var, app, none, more, operand, instance, instances}
use Rattle.mz_logic_theory.specs.Signature.{Signature}
use Rattle.mz_logic_theory.specs.Sorts.{IsBoundVar, HasSort, Fits}
use Rattle.mz_logic_theory.specs.Variables.{Occurs, OccursIn, InV, InSomeV, AreDisjoint}
use Rattle.mz_logic_theory.specs.Laws.{BoundArePlain}
use Rattle.mz_logic_theory.specs.declared.binder.Binder.{Binder}
use Rattle.mz_logic_theory.proofs.Instance.{one_at, bound_operand}

-- V of an instance is the union of the V of what is put in for the variables that occur
mutual
  pub in_instance : (ctx : List Binder) (x : ℕ) (f : Trees) (e : Tree) → InV ctx x (instance f e) → (y : ℕ) × Occurs y e × InV ctx x (operand f y)
  in_instance ctx x f (var y) h = (y, refl, h)
  in_instance ctx x f (app t es) h = in_instances ctx x f es h

  pub in_instances : (ctx : List Binder) (x : ℕ) (f : Trees) (es : Trees) → InSomeV ctx x (instances f es) → (y : ℕ) × OccursIn y es × InV ctx x (operand f y)
  in_instances ctx x f none h = absurd h
  in_instances ctx x f (more e es) (inl h) = let r = in_instance ctx x f e h in (r.0, inl r.1, r.2)
  in_instances ctx x f (more e es) (inr h) = let r = in_instances ctx x f es h in (r.0, inr r.1, r.2)

mutual
  pub instance_has : (ctx : List Binder) (x y : ℕ) (f : Trees) (e : Tree) → Occurs y e → InV ctx x (operand f y) → InV ctx x (instance f e)
  instance_has ctx x y f (var z) is h = subst (λ w. InV ctx x (operand f w)) is h
  instance_has ctx x y f (app t es) o h = instances_have ctx x y f es o h

  pub instances_have : (ctx : List Binder) (x y : ℕ) (f : Trees) (es : Trees) → OccursIn y es → InV ctx x (operand f y) → InSomeV ctx x (instances f es)
  instances_have ctx x y f none o h = absurd o
  instances_have ctx x y f (more e es) (inl o) h = inl (instance_has ctx x y f e o h)
  instances_have ctx x y f (more e es) (inr o) h = inr (instances_have ctx x y f es o h)

-- what is in V of a variable that occurs is in V
mutual
  pub has_by_occurs : (ctx : List Binder) (x y : ℕ) (e : Tree) → Occurs y e → InV ctx x (var y) → InV ctx x e
  has_by_occurs ctx x y (var z) is h = subst (λ w. InV ctx x (var w)) is h
  has_by_occurs ctx x y (app t es) o h = have_by_occurs ctx x y es o h

  pub have_by_occurs : (ctx : List Binder) (x y : ℕ) (es : Trees) → OccursIn y es → InV ctx x (var y) → InSomeV ctx x es
  have_by_occurs ctx x y none o h = absurd o
  have_by_occurs ctx x y (more e es) (inl o) h = inl (has_by_occurs ctx x y e o h)
  have_by_occurs ctx x y (more e es) (inr o) h = inr (have_by_occurs ctx x y es o h)

abbrev pub IsIn : List Binder → ℕ → Type 0
IsIn ctx y = (b : Binder) × (slice_get ctx y ≡ Some b)

-- a variable of an expression that has a sort is in the context
mutual
  pub occurs_in_context : (sigs : List Signature) (ctx : List Binder) (y : ℕ) (e : Tree) (s : ℕ) → HasSort sigs ctx e s → Occurs y e → IsIn ctx y
  occurs_in_context sigs ctx y (var x) s (b, at, _) is = (b, ap (slice_get ctx) is ∙ at)
  occurs_in_context sigs ctx y (app t es) s (d, _, _, fits) o = all_occur_in_context sigs ctx y es d.params fits o

  pub all_occur_in_context : (sigs : List Signature) (ctx : List Binder) (y : ℕ) (es : Trees) (ps : List Binder) → Fits sigs ctx es ps → OccursIn y es → IsIn ctx y
  all_occur_in_context sigs ctx y none ps fits o = absurd o
  all_occur_in_context sigs ctx y (more e es) [] fits o = absurd fits
  all_occur_in_context sigs ctx y (more e es) (p ∷ ps) fits (inl o) = occurs_in_context sigs ctx y e p.sort fits.0 o
  all_occur_in_context sigs ctx y (more e es) (p ∷ ps) fits (inr o) = all_occur_in_context sigs ctx y es ps fits.2 o

-- the i-th instance is the instance of the i-th
pub operand-instances : (f es : Trees) (i : ℕ) → operand (instances f es) i ≡ instance f (operand es i)
operand-instances f none i = refl
operand-instances f (more e es) zero = refl
operand-instances f (more e es) (suc i) = operand-instances f es i

-- the operand of a parameter has its sort
pub operand_has_sort : (sigs : List Signature) (ctx : List Binder) (es : Trees) (ps : List Binder) → Fits sigs ctx es ps
    → (i : ℕ) (p : Binder) → slice_get ps i ≡ Some p → HasSort sigs ctx (operand es i) p.sort
operand_has_sort sigs ctx es [] fits i p at = absurd (none-some _ at)
operand_has_sort sigs ctx none (q ∷ ps) fits i p at = absurd fits
operand_has_sort sigs ctx (more e es) (q ∷ ps) fits zero p at = subst (λ r. HasSort sigs ctx e r.sort) (one_at refl at) fits.0
operand_has_sort sigs ctx (more e es) (q ∷ ps) fits (suc i) p at = operand_has_sort sigs ctx es ps fits.2 i p at

-- a regular variable's dependencies are its V
pub in_v_of_dep : (ctx : List Binder) → BoundArePlain ctx → (x y : ℕ) (b : Binder) → slice_get ctx y ≡ Some b → Contains b.deps x → InV ctx x (var y)
in_v_of_dep ctx no_deps x y b at has = go b.bound refl
  where
    go : (v : Bool) → b.bound ≡ v → InV ctx x (var y)
    go true is = absurd (contains_none x (subst (λ ds. Contains ds x) (no_deps y b at is) has))
    go false is = (b, at, inr (is, has))

-- where the bound variable y of the parameters is replaced by x, and x is in V of an instance of e, y is in V of e
pub in_v_of_pattern : (sigs : List Signature) (ctx params : List Binder) → BoundArePlain params
    → (f : Trees) → AreDisjoint ctx f params → (e : Tree) (s : ℕ) → HasSort sigs params e s
    → (x y : ℕ) (b : Binder) → slice_get params y ≡ Some b → b.bound ≡ true → operand f y ≡ var x
    → InV ctx x (instance f e) → InV params y e
in_v_of_pattern sigs ctx params no_deps f apart e s sorted x y b at is_bound is_x has =
    let k = in_instance ctx x f e has in
    let c = occurs_in_context sigs params k.0 e s sorted k.1 in
    has_by_occurs params y k.0 e k.1 (in_k k.0 c.0 c.1 (apart k.0 y x c.0 b c.1 at is_bound is_x k.2))
  where
    in_k : (k : ℕ) (c : Binder) → slice_get params k ≡ Some c → (k ≡ y) ⊎ Contains c.deps y → InV params y (var k)
    in_k k c at_k (inl same) = (b, ap (slice_get params) same ∙ at, inl (is_bound, sym same))
    in_k k c at_k (inr dep) = in_v_of_dep params no_deps y k c at_k dep

-- operands that are disjoint stay so under a substitution whose own operands are disjoint
pub disjoint_instances : (sigs : List Signature) (ctx params : List Binder) → BoundArePlain params
    → (f : Trees) → AreDisjoint ctx f params
    → (es : Trees) (ps : List Binder) → Fits sigs params es ps → AreDisjoint params es ps
    → AreDisjoint ctx (instances f es) ps
disjoint_instances sigs ctx params no_deps f apart es ps es_fit es_apart i j x p q at_i at_j is_bound is_x has =
    go (bound_operand sigs params ps es es_fit j q at_j is_bound)
  where
    go : IsBoundVar params (operand es j) → (i ≡ j) ⊎ Contains p.deps j
    go (y, b, is_y, at, bd) =
        es_apart i j y p q at_i at_j is_bound is_y
        (in_v_of_pattern sigs ctx params no_deps f apart (operand es i) p.sort (operand_has_sort sigs params es ps es_fit i p at_i) x y b at bd
        (sym (ap (instance f) is_y) ∙ sym (operand-instances f es j) ∙ is_x)
        (subst (InV ctx x) (operand-instances f es i) has))
