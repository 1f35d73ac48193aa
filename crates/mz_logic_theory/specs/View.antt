-- What the code's expressions stand for.
use Rattle.std.specs.Prelude.{List, [], ◌∷◌}
use Rattle.mz_logic_theory.specs.Tree.{Tree, Trees, none, more}

abbrev pub tree : Tree → Tree
tree e = e

abbrev pub trees : List Tree → Trees
trees [] = none
trees (e ∷ es) = more e (trees es)
