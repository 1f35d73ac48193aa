-- Tests that the machines compute, each of a notion of the logic (Carneiro, the section on variables and dependencies;
-- mm0.md, section on sorts).
use Rattle.std.specs.Prelude.{ℕ, ◌^◌, Bool, true, false, not, ◌==◌, ◌||◌, ◌&&◌, if◌then◌else◌, List, Option, Some, None, slice_get, bit_and}
use Rattle.mz_logic_theory.specs.Tree.{Tree, Trees, var, app, none, more}
use Rattle.mz_logic_theory.specs.declared.binder.Binder.{Binder}
use Rattle.mz_logic_theory.specs.Variables.{is_member}

-- two expressions are one tree
abbrev mutual
  pub same_tree : Tree → Tree → Bool
  same_tree (var x) (var y) = x == y
  same_tree (app t es) (app u fs) = t == u && same_trees es fs
  same_tree (var x) (app u fs) = false
  same_tree (app t es) (var y) = false

  pub same_trees : Trees → Trees → Bool
  same_trees none none = true
  same_trees (more e es) (more f fs) = same_tree e f && same_trees es fs
  same_trees none (more f fs) = false
  same_trees (more e es) none = false

-- bit k of n is set
abbrev pub has_bit : ℕ → ℕ → Bool
has_bit n k = not (bit_and n (2 ^ k) == 0)

-- there is a bound variable
abbrev pub is_bound_at : Option Binder → Bool
is_bound_at None = false
is_bound_at (Some b) = b.bound

-- `IsBoundVar`
abbrev pub is_bound_var : List Binder → Tree → Bool
is_bound_var ctx (var x) = is_bound_at (slice_get ctx x)
is_bound_var ctx (app t es) = false

-- x is in V of the variable y, which has this binder
abbrev pub in_var : ℕ → ℕ → Option Binder → Bool
in_var x y None = false
in_var x y (Some b) = if b.bound then x == y else is_member x b.deps

-- `InV` and `InSomeV`
abbrev mutual
  pub in_v : List Binder → ℕ → Tree → Bool
  in_v ctx x (var y) = in_var x y (slice_get ctx y)
  in_v ctx x (app t es) = in_some_v ctx x es

  pub in_some_v : List Binder → ℕ → Trees → Bool
  in_some_v ctx x none = false
  in_some_v ctx x (more e es) = in_v ctx x e || in_some_v ctx x es

-- e is a variable in V of f
abbrev pub var_within : List Binder → Tree → Tree → Bool
var_within ctx (var x) f = in_v ctx x f
var_within ctx (app t es) f = false
