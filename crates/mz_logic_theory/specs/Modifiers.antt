-- What a sort's modifiers allow (mm0.md, section on sorts). `sorts` is the list of all sorts.
use Rattle.std.specs.Prelude.{ℕ, ◌≡◌, List, slice_get, Some, IsBitSet}
use Rattle.mz_logic_theory.specs.declared.binder.SortMods.{SortMods}

abbrev pub IsPure : SortMods → Type 0
IsPure m = IsBitSet m.0 0

abbrev pub IsStrict : SortMods → Type 0
IsStrict m = IsBitSet m.0 1

abbrev pub IsProvable : SortMods → Type 0
IsProvable m = IsBitSet m.0 2

abbrev pub IsFree : SortMods → Type 0
IsFree m = IsBitSet m.0 3

-- a term may have a result of the sort s: s is there and not pure
abbrev pub MayBeResultSort : List SortMods → ℕ → Type 0
MayBeResultSort sorts s = (m : SortMods) × (slice_get sorts s ≡ Some m) × (IsPure m → ⊥)

-- a bound parameter may have the sort s: s is there and not strict
abbrev pub MayBeBoundSort : List SortMods → ℕ → Type 0
MayBeBoundSort sorts s = (m : SortMods) × (slice_get sorts s ≡ Some m) × (IsStrict m → ⊥)

-- a dummy may have the sort s: s is there, and neither strict nor free
abbrev pub MayBeDummySort : List SortMods → ℕ → Type 0
MayBeDummySort sorts s = (m : SortMods) × (slice_get sorts s ≡ Some m) × (IsStrict m → ⊥) × (IsFree m → ⊥)

-- a hypothesis or a conclusion may have the sort s: s is there and provable
abbrev pub MayBeClaimSort : List SortMods → ℕ → Type 0
MayBeClaimSort sorts s = (m : SortMods) × (slice_get sorts s ≡ Some m) × IsProvable m
