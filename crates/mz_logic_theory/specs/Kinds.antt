-- What an expression stands for, by how it is kept.
use Rattle.std.specs.Prelude.{⊤, ◌<◌, length}
use Rattle.mz_logic_theory.specs.Tree.{Tree, var, app, under, size, trees_size}
use Rattle.mz_logic_theory.specs.declared.expr.ExprKind.{ExprKind}
use Rattle.mz_logic_theory.specs.declared.expr.ExprKind.TheVariants.{Var, App, Under}

abbrev pub kind_tree : ExprKind → Tree
kind_tree (Var x) = var x
kind_tree (App t es) = app t es
kind_tree (Under path e) = under path e.value

-- a path isn't empty
abbrev pub IsKept : ExprKind → Type 0
IsKept (Var x) = ⊤
IsKept (App t es) = ⊤
IsKept (Under path e) = 0 < length path

-- what stands in an expression is smaller than the expression
abbrev pub HasSmaller : Tree → ExprKind → Type 0
HasSmaller all (Var x) = ⊤
HasSmaller all (App t es) = trees_size es < size all
HasSmaller all (Under path e) = size e.value < size all
