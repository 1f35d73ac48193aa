-- A context of parameters and dummies.
use Rattle.std.specs.Prelude.{ℕ, ◌≡◌, ◌++◌, All, List, length}
use Rattle.mz_logic_theory.specs.Legality.{AreParams, IsDummy}
use Rattle.mz_logic_theory.specs.declared.binder.Binder.{Binder}
use Rattle.mz_logic_theory.specs.declared.binder.SortMods.{SortMods}

-- the first n variables are right parameters, and the others dummies
abbrev pub HasParams : ℕ → List Binder → Type 0
HasParams n ctx = (ss : List SortMods) × (ps : List Binder) × (ds : List Binder) × (ctx ≡ ps ++ ds) × (length ps ≡ n) × AreParams ss ps × All IsDummy ds
