-- Which of the variables that have owners are one's own.
use Rattle.std.specs.Prelude.{ℕ, Bool, false, ◌≡◌, ◌==◌, List, ◌∷◌, Option, position, slice_get}
use Rattle.std.specs.List.{AllZip, list_any}
use Rattle.std.specs.Option.{option_and_then, option_map_or}
use Rattle.mz_logic_theory.specs.Tree.{Trees, var, operand}
use Rattle.mz_logic_theory.specs.Variables.{IsBoundAt}
use Rattle.mz_logic_theory.specs.declared.binder.Binder.{Binder}

-- the owner that stands beside the variable
abbrev pub owner_beside : List ℕ → List ℕ → ℕ → Option ℕ
owner_beside owned owners x = option_and_then (slice_get owners) (position (λ y. x == y) owned)

-- it is at the place, or at one of the others
abbrev pub is_own : List ℕ → List ℕ → ℕ → List ℕ → ℕ → Bool
is_own owned owners place others x = option_map_or (λ owner. list_any (λ p. owner == p) (place ∷ others)) (owner_beside owned owners x) false

-- beside each variable stands the place of a bound parameter whose operand it is
abbrev pub HaveOwners : List Binder → Trees → List ℕ → List ℕ → Type 0
HaveOwners params es owned owners = AllZip (λ x j. IsBoundAt params j × (operand es j ≡ var x)) owned owners
