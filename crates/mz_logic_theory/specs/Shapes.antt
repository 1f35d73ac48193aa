-- What the shape of an expression stands for.
use Rattle.mz_logic_theory.specs.Tree.{Tree, var, app}
use Rattle.mz_logic_theory.specs.declared.expr.Shape.{Shape}
use Rattle.mz_logic_theory.specs.declared.expr.Shape.TheVariants.{Var, App}

abbrev pub shape_tree : Shape → Tree
shape_tree (Var x) = var x
shape_tree (App t es) = app t es
