-- Binders that depend on the same as the ones before them.
use Rattle.std.specs.Prelude.{ℕ, ◌≡◌, ◌<◌, ◌-◌, List, [], length, slice_get}
use Rattle.std.specs.Option.{option_map_or}
use Rattle.mz_logic_theory.specs.declared.binder.Binder.{Binder}

-- on what the binder at a place depends, if there is one
abbrev pub deps_at : List Binder → ℕ → List ℕ
deps_at bs i = option_map_or (λ b. b.deps) (slice_get bs i) []

-- a binder stands at the place, and depends on what the one before it does; of the first one nothing is asked
abbrev pub DependsAsPrevious : List Binder → ℕ → Type 0
DependsAsPrevious bs i = (i < length bs) × (deps_at bs (i - 1) ≡ deps_at bs i)
