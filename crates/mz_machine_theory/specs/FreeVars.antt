-- The free variables of an expression, computed (Carneiro, the section on variables and dependencies).
use Rattle.std.specs.Prelude.{ℕ, zero, suc, Bool, true, false, not, ◌==◌, ◌||◌, ◌&&◌, List, [], ◌∷◌, Option, Some, None, slice_get}
use Rattle.mz_logic_theory.specs.Tree.{Tree, Trees, var, app, none, more, operand}
use Rattle.mz_logic_theory.specs.Signature.{Signature}
use Rattle.mz_logic_theory.specs.declared.binder.Binder.{Binder}
use Rattle.mz_logic_theory.specs.Variables.{is_member}
use Rattle.mz_machine_theory.specs.Tests.{is_bound_at, in_var}

-- the expression is the variable x
abbrev pub is_var : ℕ → Tree → Bool
is_var x (var y) = x == y
is_var x (app t es) = false

-- `IsOperandAt`: the operand of a bound parameter at one of these places is the variable x
abbrev pub named_at : List Binder → Trees → List ℕ → ℕ → Bool
named_at params all [] x = false
named_at params all (j ∷ js) x = (is_bound_at (slice_get params j) && is_var x (operand all j)) || named_at params all js x

-- x is the operand of a bound parameter on which the result depends
abbrev pub in_result : Option Signature → Trees → ℕ → Bool
in_result None es x = false
in_result (Some d) es x = named_at d.params es d.result.deps x

abbrev pub params_of : Option Signature → List Binder
params_of None = []
params_of (Some d) = d.params

-- `InFV` and `InSomeFV`
abbrev mutual
  pub in_fv : List Signature → List Binder → ℕ → Tree → Bool
  in_fv sigs ctx x (var y) = in_var x y (slice_get ctx y)
  in_fv sigs ctx x (app t es) =
      in_some_fv sigs ctx x (params_of (slice_get sigs t)) es (params_of (slice_get sigs t)) es || in_result (slice_get sigs t) es x

  pub in_some_fv : List Signature → List Binder → ℕ → List Binder → Trees → List Binder → Trees → Bool
  in_some_fv sigs ctx x params all ps none = false
  in_some_fv sigs ctx x params all [] (more e es) = false
  in_some_fv sigs ctx x params all (p ∷ ps) (more e es) =
      (not p.bound && in_fv sigs ctx x e && not (named_at params all p.deps x)) || in_some_fv sigs ctx x params all ps es

-- the free variables among the first n of the context are at these places
abbrev pub free_within : List Signature → List Binder → List ℕ → Tree → ℕ → Bool
free_within sigs ctx deps e zero = true
free_within sigs ctx deps e (suc n) = (not (in_fv sigs ctx n e) || is_member n deps) && free_within sigs ctx deps e n
