-- Paths of terms over an expression.
use Rattle.std.proofs.Common.{ℕ, ◌≡◌, ◌+◌, ◌↔◌, List, [], ◌∷◌, ◌++◌, length, refl, inl, inr, arith}
use Rattle.mz_logic_theory.specs.Tree.{Tree, app, none, more, size, under}
use Rattle.mz_logic_theory.specs.Kinds.{kind_tree, IsKept, HasSmaller}
use Rattle.mz_logic_theory.specs.Variables.{InV}
use Rattle.mz_logic_theory.specs.declared.binder.Binder.{Binder}
use Rattle.mz_logic_theory.specs.declared.expr.ExprKind.{ExprKind}
use Rattle.mz_logic_theory.specs.declared.expr.ExprKind.TheVariants.{Var, App, Under}

-- the last term of a path stands over all that it stands over
pub under-last : (ts : List ℕ) (t : ℕ) (e : Tree) → under (ts ++ t ∷ []) e ≡ app t (more (under ts e) none)
under-last [] t e = refl
under-last (u ∷ ts) t e = under-last ts t (app u (more e none))

-- what stands under a path is smaller
pub size-under : (ts : List ℕ) (e : Tree) → size (under ts e) ≡ size e + length ts
size-under [] e = omega arith
size-under (t ∷ ts) e = let ih = size-under ts (app t (more e none)) in omega (arith, ih)

-- what stands in an expression is smaller, however it is kept
pub kind-smaller : (k : ExprKind) → IsKept k → HasSmaller (kind_tree k) k
kind-smaller (Var x) h = tt
kind-smaller (App t es) h = omega arith
kind-smaller (Under path e) h = let same = size-under path e.value in omega (arith, same, h)

-- terms of one parameter add no variables
pub in_v-under : (ctx : List Binder) (x : ℕ) (ts : List ℕ) (e : Tree) → InV ctx x (under ts e) ↔ InV ctx x e
in_v-under ctx x [] e = (λ here. here, λ here. here)
in_v-under ctx x (t ∷ ts) e =
    let ih = in_v-under ctx x ts (app t (more e none)) in
    (λ h. elim (ih.0 h) [ inl here ↦ here | inr never ↦ absurd never ], λ here. ih.1 (inl here))
