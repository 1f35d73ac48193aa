-- Expressions over the first variables, and such as have sorts.
use Rattle.std.specs.Prelude.{ℕ, ◌<◌, ⊤, List}
use Rattle.mz_logic_theory.specs.Signature.{Signature}
use Rattle.mz_logic_theory.specs.Sorts.{HasSort}
use Rattle.mz_logic_theory.specs.Tree.{Tree, Trees, var, app, none, more}
use Rattle.mz_logic_theory.specs.declared.binder.Binder.{Binder}

abbrev mutual
  pub InReach : ℕ → Tree → Type 0
  InReach n (var x) = x < n
  InReach n (app t es) = AllInReach n es

  pub AllInReach : ℕ → Trees → Type 0
  AllInReach n none = ⊤
  AllInReach n (more e es) = InReach n e × AllInReach n es

-- each has a sort
abbrev pub AreSorted : List Signature → List Binder → Trees → Type 0
AreSorted sigs ctx none = ⊤
AreSorted sigs ctx (more e es) = ((s : ℕ) × HasSort sigs ctx e s) × AreSorted sigs ctx es
