-- What regular variables depend on, narrowed to variables that are sought.
use Rattle.std.specs.Prelude.{◌≡◌, ◌↔◌, ℕ, List, Contains, Some, slice_get}
use Rattle.mz_logic_theory.specs.declared.binder.Binder.{Binder}

-- of the variables that are sought, those stand beside y on which it depends
abbrev pub AreFew : List Binder → List ℕ → ℕ → List ℕ → Type 0
AreFew ctx variables y few = (b : Binder) → slice_get ctx y ≡ Some b → (x : ℕ) → Contains variables x → Contains few x ↔ Contains b.deps x

abbrev pub AreNarrowed : List Binder → List ℕ → List (ℕ × List ℕ) → Type 0
AreNarrowed ctx variables narrowed = (y : ℕ) (few : List ℕ) → Contains narrowed (y, few) → AreFew ctx variables y few
