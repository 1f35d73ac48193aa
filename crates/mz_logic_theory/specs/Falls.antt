-- An expression is larger than each expression in it.
use Rattle.std.specs.Prelude.{ℕ, ◌≤◌, ◌+◌, max, List, [], ◌∷◌, length}
use Rattle.std.proofs.Common.{arith}
use Rattle.mz_logic_theory.specs.Tree.{Tree, app, none, more, under}
use Rattle.mz_logic_theory.specs.View.{trees}
use Rattle.mz_logic_theory.specs.Extent.{extent, extents}
use Rattle.mz_logic_theory.specs.Kinds.{kind_tree, IsKept}
use Rattle.mz_logic_theory.specs.declared.expr.ExprKind.{ExprKind}
use Rattle.mz_logic_theory.specs.declared.expr.ExprKind.TheVariants.{Var, App, Under}
use Rattle.mz_logic_theory.specs.declared.expr.Expr.TheDeep.{deep-ExprKind}
use denote.Param.Weighed.{most}

extent_under : (ts : List ℕ) (e : Tree) → extent e + length ts ≤ extent (under ts e)
extent_under [] e = omega arith
extent_under (t ∷ ts) e = let ih = extent_under ts (app t (more e none)) in omega (arith, ih)

pub child_le_extent : (k : ExprKind) → IsKept k → max (deep-ExprKind k) 0 ≤ extent (kind_tree k)
child_le_extent (Var x) h = omega arith
child_le_extent (App t es) h = omega arith
child_le_extent (Under path e) h = let ih = extent_under path e.value in omega (arith, ih, h)

pub most_le_extents : (es : List Tree) → max (most (λ e. extent e + 1) es) 0 ≤ extents (trees es)
most_le_extents [] = omega arith
most_le_extents (e ∷ es) = omega (arith, most_le_extents es)
