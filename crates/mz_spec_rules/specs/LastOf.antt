-- What the variable that was added last has of its group.
use Rattle.std.specs.Prelude.{◌≡◌, ◌-◌, ℕ, List, Option, Some, length, slice_get}
use Rattle.std.specs.Option.{option_map_or}
use Rattle.mz_logic_theory.specs.Alike.{deps_at}
use Rattle.mz_logic_theory.specs.declared.binder.Binder.{Binder}
use Rattle.mz_spec_theory.specs.Statement.{TypeText}
use Rattle.mz_spec_theory.specs.Dependencies.{dep_places}
use Rattle.mz_spec_theory.specs.State.{State, sort_number}
use Rattle.mz_spec_theory.specs.View.{Variable}

-- the sort of the binder at a place, if there is one
abbrev pub sort_at : List Binder → ℕ → ℕ
sort_at bs i = option_map_or (λ b. b.sort) (slice_get bs i) 0

-- the last binder has the sort that the group's type names, and depends on what it says, where there is a group and
-- it has a type
abbrev pub IsLastOf : State → (ℕ → Option TypeText) → List Variable → Option ℕ → List Binder → Type 0
IsLastOf σ types ps group bs = (g : ℕ) (t : TypeText) → group ≡ Some g → types g ≡ Some t
    → (sort_at bs (length bs - 1) ≡ sort_number σ t) × (deps_at bs (length bs - 1) ≡ dep_places 0 ps t.deps)
