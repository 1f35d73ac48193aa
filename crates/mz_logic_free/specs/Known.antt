-- What a walk over an expression remembers.
use Rattle.std.specs.Prelude.{◌≡◌, ◌↔◌, ◌⊎◌, ◌++◌, ◌<◌, ◌-◌, ℕ, List, Contains, Some, false, slice_get}
use Rattle.mz_logic_theory.specs.Tree.{Trees, var}
use Rattle.mz_logic_theory.specs.Variables.{InV, IsOperandAt}
use Rattle.mz_logic_theory.specs.declared.binder.Binder.{Binder}

-- V of each of the variables is covered
abbrev pub AreKnown : List Binder → List ℕ → List ℕ → Type 0
AreKnown ctx covered known = (y : ℕ) → Contains known y → (x : ℕ) → InV ctx x (var y) → Contains covered x

-- they are known, the ones that were and more
abbrev pub LearntMore : List Binder → List ℕ → List ℕ → List ℕ → Type 0
LearntMore ctx covered before known = AreKnown ctx covered known × ((more : List ℕ) × (known ≡ before ++ more))

-- beside the variables outside, the operands of the bound parameters at the places are covered; what is known is as outside
abbrev pub BindsAnew : List Binder → Trees → List ℕ → List ℕ → List ℕ → List ℕ → List ℕ → Type 0
BindsAnew params es places outside known_outside covered known =
    ((more : List ℕ) × (covered ≡ outside ++ more))
    × ((x : ℕ) → Contains covered x ↔ (Contains outside x ⊎ IsOperandAt params es places x))
    × (known ≡ known_outside)

-- where a regular parameter stands before the i-th one, what this depends on is bound
abbrev pub IsBoundBefore : List Binder → ℕ → List ℕ → Type 0
IsBoundBefore params i bound = (b : Binder) → 0 < i → slice_get params (i - 1) ≡ Some b → b.bound ≡ false → bound ≡ b.deps
