-- The sort and the variables of an instance.
use Rattle.std.proofs.Common.{ℕ, zero, suc, ◌≡◌, true, List, [], ◌∷◌, slice_get, Some, Option, refl, sym, ap, ◌∙◌, subst}
use Rattle.std.proofs.lemmas.Option.{none-some}
use Rattle.mz_logic_theory.specs.Tree.{Tree, Trees, var, app, none, more, operand, instance, instances}
use Rattle.mz_logic_theory.specs.Signature.{Signature}
use Rattle.mz_logic_theory.specs.Sorts.{IsBoundVar, HasSort, Fits}
use Rattle.mz_logic_theory.specs.declared.binder.Binder.{Binder}

-- a place holds one thing
pub one_at : {A : Type 0} {x y : A} {o : Option A} → o ≡ Some x → o ≡ Some y → x ≡ y
one_at p q = cc

-- the operand of a parameter has its sort, and is a bound variable where it is bound
pub sort_of_operand : (sigs : List Signature) (ctx params : List Binder) (es : Trees) → Fits sigs ctx es params
    → (i : ℕ) (b : Binder) → slice_get params i ≡ Some b → HasSort sigs ctx (operand es i) b.sort
sort_of_operand sigs ctx [] es h i b at = absurd (none-some _ at)
sort_of_operand sigs ctx (p ∷ ps) none h i b at = absurd h
sort_of_operand sigs ctx (p ∷ ps) (more e es) h zero b at = subst (λ q. HasSort sigs ctx e q.sort) (one_at refl at) h.0
sort_of_operand sigs ctx (p ∷ ps) (more e es) h (suc i) b at = sort_of_operand sigs ctx ps es h.2 i b at

pub bound_operand : (sigs : List Signature) (ctx params : List Binder) (es : Trees) → Fits sigs ctx es params
    → (i : ℕ) (b : Binder) → slice_get params i ≡ Some b → b.bound ≡ true → IsBoundVar ctx (operand es i)
bound_operand sigs ctx [] es h i b at bd = absurd (none-some _ at)
bound_operand sigs ctx (p ∷ ps) none h i b at bd = absurd h
bound_operand sigs ctx (p ∷ ps) (more e es) h zero b at bd = h.1 (ap (λ q. q.bound) (one_at refl at) ∙ bd)
bound_operand sigs ctx (p ∷ ps) (more e es) h (suc i) b at bd = bound_operand sigs ctx ps es h.2 i b at bd

-- an instance of a bound variable is one
pub bound_instance : (sigs : List Signature) (ctx params : List Binder) (f : Trees) → Fits sigs ctx f params
    → (e : Tree) → IsBoundVar params e → IsBoundVar ctx (instance f e)
bound_instance sigs ctx params f fits e (x, b, is, at, bd) =
    subst (λ d. IsBoundVar ctx (instance f d)) (sym is) (bound_operand sigs ctx params f fits x b at bd)

-- an instance has the sort that the expression has
mutual
  pub sort_of_instance : (sigs : List Signature) (ctx params : List Binder) (f : Trees) → Fits sigs ctx f params
      → (e : Tree) (s : ℕ) → HasSort sigs params e s → HasSort sigs ctx (instance f e) s
  sort_of_instance sigs ctx params f fits (var x) s (b, at, is) =
      subst (HasSort sigs ctx (operand f x)) is (sort_of_operand sigs ctx params f fits x b at)
  sort_of_instance sigs ctx params f fits (app t es) s (d, at, is, h) =
      (d, at, is, fits_of_instances sigs ctx params f fits es d.params h)

  pub fits_of_instances : (sigs : List Signature) (ctx params : List Binder) (f : Trees) → Fits sigs ctx f params
      → (es : Trees) (ps : List Binder) → Fits sigs params es ps → Fits sigs ctx (instances f es) ps
  fits_of_instances sigs ctx params f fits none [] h = tt
  fits_of_instances sigs ctx params f fits none (p ∷ ps) h = absurd h
  fits_of_instances sigs ctx params f fits (more e es) [] h = absurd h
  fits_of_instances sigs ctx params f fits (more e es) (p ∷ ps) (h, bd, rest) = (
    sort_of_instance sigs ctx params f fits e p.sort h,
    λ is. bound_instance sigs ctx params f fits e (bd is),
    fits_of_instances sigs ctx params f fits es ps rest,
  )
