-- Rows with parameters, and the operands for them.
use Rattle.std.specs.Prelude.{ℕ, ◌≡◌, ◌<◌, List, Some, slice_get, bit_and}
use Rattle.mz_layout_tables.specs.declared.row.Row.{Row}
use Rattle.mz_layout_tables.specs.declared.row.Row.TheVariants.{Term, Thm}
use Rattle.mz_store.specs.declared.item.Id.{Id}
use Rattle.mz_machine_env.specs.Before.{Before}

-- the row is one of those before
abbrev pub IsBefore : Before → Row → Type 0
IsBefore b (Term t) = t < b.rows.terms
IsBefore b (Thm i) = i < b.rows.thms

-- the word has the variables of the operands at these places, which are reported of each: what shares none with it shares none with those
abbrev pub AreAmong : (Id → ℕ) → List Id → List ℕ → ℕ → Type 0
AreAmong told ids places word = (x k p : ℕ) (id : Id) → slice_get places k ≡ Some p → slice_get ids p ≡ Some id → bit_and x word ≡ 0 → bit_and x (told id) ≡ 0
