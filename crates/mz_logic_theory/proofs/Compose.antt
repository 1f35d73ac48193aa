-- Substitutions one after another, and what an expression's sort says of the places that it reads.
use Rattle.std.proofs.Common.{ℕ, zero, suc, ◌≡◌, ◌+◌, List, [], ◌∷◌, map, slice_get, Contains, length, Some, refl, sym, ap, ap₂, ◌∙◌, inl, inr, arith, not-suc-le-zero}
use Rattle.std.proofs.lemmas.Option.{none-some}
use Rattle.mz_base.proofs.Offered.{contains_tail, contains_head, contains_cases}
use Rattle.mz_logic_theory.specs.Tree.{Tree, Trees, var, app, none, more, operand, instance, instances, followed_by}
use Rattle.mz_logic_theory.specs.Signature.{Signature}
use Rattle.mz_logic_theory.specs.Sorts.{HasSort, Fits}
use Rattle.mz_logic_theory.specs.declared.binder.Binder.{Binder}
use Rattle.mz_logic_theory.proofs.AreDisjoint.{operand-instances}

mutual
  pub instance-instance : (f g : Trees) (e : Tree) → instance f (instance g e) ≡ instance (instances f g) e
  instance-instance f g (var x) = sym (operand-instances f g x)
  instance-instance f g (app t es) = ap (app t) (instances-instances f g es)

  pub instances-instances : (f g es : Trees) → instances f (instances g es) ≡ instances (instances f g) es
  instances-instances f g none = refl
  instances-instances f g (more e es) = ap₂ more (instance-instance f g e) (instances-instances f g es)

pub instances-followed_by : (f es fs : Trees) → instances f (followed_by es fs) ≡ followed_by (instances f es) (instances f fs)
instances-followed_by f none fs = refl
instances-followed_by f (more e es) fs = ap (more (instance f e)) (instances-followed_by f es fs)

-- ---- an expression over the parameters alone is not changed by what follows their operands

pub operand_first : (sigs : List Signature) (ctx : List Binder) (es fs : Trees) (ps : List Binder) → Fits sigs ctx es ps
    → (i : ℕ) (p : Binder) → slice_get ps i ≡ Some p → operand (followed_by es fs) i ≡ operand es i
operand_first sigs ctx es fs [] fits i p at = absurd (none-some _ at)
operand_first sigs ctx none fs (q ∷ ps) fits i p at = absurd fits
operand_first sigs ctx (more e es) fs (q ∷ ps) fits zero p at = refl
operand_first sigs ctx (more e es) fs (q ∷ ps) fits (suc i) p at = operand_first sigs ctx es fs ps fits.2 i p at

pub operand_later : (sigs : List Signature) (ctx : List Binder) (es fs : Trees) (ps : List Binder) → Fits sigs ctx es ps
    → (k : ℕ) → operand (followed_by es fs) (length ps + k) ≡ operand fs k
operand_later sigs ctx none fs [] fits k = ap (operand fs) (omega arith)
operand_later sigs ctx none fs (q ∷ ps) fits k = absurd fits
operand_later sigs ctx (more e es) fs [] fits k = absurd fits
operand_later sigs ctx (more e es) fs (q ∷ ps) fits k = ap (operand (more e (followed_by es fs))) shift ∙ operand_later sigs ctx es fs ps fits.2 k
  where
    shift : suc (length ps) + k ≡ suc (length ps + k)
    shift = omega arith

mutual
  pub instance_first : (sigs : List Signature) (ctx : List Binder) (es fs : Trees) (ps : List Binder) → Fits sigs ctx es ps
      → (e : Tree) (s : ℕ) → HasSort sigs ps e s → instance (followed_by es fs) e ≡ instance es e
  instance_first sigs ctx es fs ps fits (var x) s (b, at, _) = operand_first sigs ctx es fs ps fits x b at
  instance_first sigs ctx es fs ps fits (app t as_) s (d, _, _, h) = ap (app t) (instances_first sigs ctx es fs ps fits as_ d.params h)

  pub instances_first : (sigs : List Signature) (ctx : List Binder) (es fs : Trees) (ps : List Binder) → Fits sigs ctx es ps
      → (gs qs : _) → Fits sigs ps gs qs → instances (followed_by es fs) gs ≡ instances es gs
  instances_first sigs ctx es fs ps fits none qs h = refl
  instances_first sigs ctx es fs ps fits (more g gs) [] h = absurd h
  instances_first sigs ctx es fs ps fits (more g gs) (q ∷ qs) (h, _, rest) =
      ap₂ more (instance_first sigs ctx es fs ps fits g q.sort h) (instances_first sigs ctx es fs ps fits gs qs rest)

-- ---- membership

pub contains_map : (g : ℕ → ℕ) (ys : List ℕ) (x : ℕ) → Contains (map g ys) x → (z : ℕ) × Contains ys z × (g z ≡ x)
contains_map g [] x (k, below, is) = absurd (not-suc-le-zero below)
contains_map g (y ∷ ys) x h = elim (contains_cases (g y) x (map g ys) h) [
  | inl is ↦ (y, contains_head y ys, is)
  | inr rest ↦ (let r = contains_map g ys x rest in (r.0, contains_tail y r.0 ys r.1, r.2))
]
