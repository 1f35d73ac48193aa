-- How many expressions and lists of them are in one another.
use Rattle.std.specs.Prelude.{ℕ, suc, ◌+◌}
use Rattle.mz_logic_theory.specs.Tree.{Tree, Trees, var, app, none, more}

abbrev mutual
  pub extent : Tree → ℕ
  extent (var x) = 0
  extent (app t es) = suc (extents es)

  pub extents : Trees → ℕ
  extents none = 0
  extents (more e es) = suc (extent e + extents es)
