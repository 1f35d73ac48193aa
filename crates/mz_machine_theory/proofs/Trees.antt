-- Lists of expressions, and what makes two of them one.
use Rattle.std.proofs.Common.{◌≡◌, ℕ, zero, suc, Bool, true, false, cond, eqb, List, [], ◌∷◌, ◌++◌, length, map, Option, Some, None, refl, sym, ap, subst, ◌∙◌, eq-eqb}
use Rattle.std.specs.Prelude.{slice_get}
use Rattle.std.proofs.lemmas.Bool.{eqb-true}
use Rattle.mz_base.proofs.Offered.{both-true}
use Rattle.mz_logic_theory.specs.Tree.{Tree, Trees, var, app, none, more, listed, operand, followed_by, variables, instance, instances}
use Rattle.mz_logic_theory.specs.Signature.{Signature}
use Rattle.mz_logic_theory.specs.Sorts.{HasSort, Fits}
use Rattle.mz_logic_theory.specs.declared.binder.Binder.{Binder}
use Rattle.mz_machine_theory.specs.Spells.{trees_of}
use Rattle.mz_machine_theory.specs.Sorted.{Sorted, AllSorted}
use Rattle.mz_machine_theory.specs.Profile.{tree_parts}
use Rattle.mz_machine_theory.specs.Tests.{same_tree, same_trees}
use Rattle.mz_machine_theory.specs.UnifyMachine.{operands_of}

pub trees_of-listed : (es : Trees) → trees_of (listed es) ≡ es
trees_of-listed none = refl
trees_of-listed (more e es) = ap (more e) (trees_of-listed es)

pub listed-trees_of : (es : List Tree) → listed (trees_of es) ≡ es
listed-trees_of [] = refl
listed-trees_of (e ∷ es) = ap (λ (z : List Tree). e ∷ z) (listed-trees_of es)

pub operand-trees_of : (es : List Tree) (i : ℕ) (t : Tree) → slice_get es i ≡ Some t → operand (trees_of es) i ≡ t
operand-trees_of [] i t e = absurd cc
operand-trees_of (x ∷ es) zero t e = cc
operand-trees_of (x ∷ es) (suc i) t e = operand-trees_of es i t e

pub followed-by-variables : (es : List Tree) (ys : List ℕ) → trees_of (es ++ map var ys) ≡ followed_by (trees_of es) (variables ys)
followed-by-variables [] [] = refl
followed-by-variables [] (y ∷ ys) = ap (more (var y)) (followed-by-variables [] ys)
followed-by-variables (e ∷ es) ys = ap (more e) (followed-by-variables es ys)

pub instances-listed : (f : Trees) (es : Trees) → trees_of (map (instance f) (listed es)) ≡ instances f es
instances-listed f none = refl
instances-listed f (more e es) = ap (more (instance f e)) (instances-listed f es)

-- ---- the test of equality

mutual
  pub same_tree-true : (e f : Tree) → same_tree e f ≡ true → e ≡ f
  same_tree-true (var x) (var y) h = ap var (eqb-true _ _ h)
  same_tree-true (var x) (app u fs) h = absurd cc
  same_tree-true (app t es) (var y) h = absurd cc
  same_tree-true (app t es) (app u fs) h =
      let (a, b) = both-true (eqb t u) (same_trees es fs) h in
      let same : t ≡ u = eqb-true _ _ a in
      let rest : es ≡ fs = same_trees-true es fs b in
      cc

  pub same_trees-true : (es fs : Trees) → same_trees es fs ≡ true → es ≡ fs
  same_trees-true none none h = refl
  same_trees-true none (more f fs) h = absurd cc
  same_trees-true (more e es) none h = absurd cc
  same_trees-true (more e es) (more f fs) h =
      let (a, b) = both-true (same_tree e f) (same_trees es fs) h in
      let first : e ≡ f = same_tree-true e f a in
      let rest : es ≡ fs = same_trees-true es fs b in
      cc

mutual
  pub same_tree-refl : (e : Tree) → same_tree e e ≡ true
  same_tree-refl (var x) = eq-eqb x x refl
  same_tree-refl (app t es) = rw (eq-eqb t t refl, same_trees-refl es) refl

  pub same_trees-refl : (es : Trees) → same_trees es es ≡ true
  same_trees-refl none = refl
  same_trees-refl (more e es) = rw (same_tree-refl e, same_trees-refl es) refl

-- ---- the parts of an application

pub parts-are : (e : Tree) (p : ℕ × List Tree) → tree_parts e ≡ Some p → e ≡ app p.0 (trees_of p.1)
parts-are (var x) p at = absurd cc
parts-are (app t es) p at =
    let is : (t, listed es) ≡ p = cc in
    subst (λ (q : ℕ × List Tree). app t es ≡ app q.0 (trees_of q.1)) is (ap (app t) (sym (trees_of-listed es)))

operands-are : (o : Option (ℕ × List Tree)) (t : ℕ) (es : List Tree) → operands_of t o ≡ Some es → (p : ℕ × List Tree) × (o ≡ Some p) × (p.0 ≡ t) × (p.1 ≡ es)
operands-are None t es e = absurd cc
operands-are (Some p) t es e = go (eqb p.0 t) refl e
  where
    go : (z : Bool) → eqb p.0 t ≡ z → cond z (Some p.1) None ≡ Some es → (q : ℕ × List Tree) × (Some p ≡ Some q) × (q.0 ≡ t) × (q.1 ≡ es)
    go true is h = (p, refl, eqb-true _ _ is, cc)
    go false is h = absurd cc

-- a target that is taken apart by UTerm t is an application of t
pub apart-is : (e : Tree) (t : ℕ) (es : List Tree) → operands_of t (tree_parts e) ≡ Some es → e ≡ app t (trees_of es)
apart-is e t es h =
    let (p, p-at, t-is, es-are) = operands-are (tree_parts e) t es h in
    parts-are e p p-at ∙ ap (λ (z : ℕ). app z (trees_of p.1)) t-is ∙ ap (λ (z : List Tree). app t (trees_of z)) es-are

-- ---- expressions that have sorts

pub sorted-from-fits : (sigs : List Signature) (ctx : List Binder) (es : List Tree) (ps : List Binder) → Fits sigs ctx (trees_of es) ps → AllSorted sigs ctx es
sorted-from-fits sigs ctx [] [] h = tt
sorted-from-fits sigs ctx [] (p ∷ ps) h = absurd h
sorted-from-fits sigs ctx (e ∷ es) [] h = absurd h
sorted-from-fits sigs ctx (e ∷ es) (p ∷ ps) (has, _, fits) = ((p.sort, has), sorted-from-fits sigs ctx es ps fits)

pub fits-length : (sigs : List Signature) (ctx : List Binder) (es : List Tree) (ps : List Binder) → Fits sigs ctx (trees_of es) ps → length es ≡ length ps
fits-length sigs ctx [] [] h = refl
fits-length sigs ctx [] (p ∷ ps) h = absurd h
fits-length sigs ctx (e ∷ es) [] h = absurd h
fits-length sigs ctx (e ∷ es) (p ∷ ps) (_, _, h) = ap suc (fits-length sigs ctx es ps h)

-- the operands of an application that has a sort
pub operands-sorted : (sigs : List Signature) (ctx : List Binder) (e : Tree) (t : ℕ) (es : List Tree) → e ≡ app t (trees_of es) → Sorted sigs ctx e
    → (d : Signature) × (slice_get sigs t ≡ Some d) × Fits sigs ctx (trees_of es) d.params × AllSorted sigs ctx es × (length es ≡ length d.params)
operands-sorted sigs ctx e t es is (s, has) =
    let (d, at, _, fits) = subst (λ (z : Tree). HasSort sigs ctx z s) is has in
    (d, at, fits, sorted-from-fits sigs ctx es d.params fits, fits-length sigs ctx es d.params fits)

pub all-sorted-append : (sigs : List Signature) (ctx : List Binder) (es : List Tree) (e : Tree) → AllSorted sigs ctx es → Sorted sigs ctx e → AllSorted sigs ctx (es ++ e ∷ [])
all-sorted-append sigs ctx [] e h he = (he, tt)
all-sorted-append sigs ctx (f ∷ es) e (h, hs) he = (h, all-sorted-append sigs ctx es e hs he)
