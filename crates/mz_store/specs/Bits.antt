-- Words of variables: bit k stands for the k-th bound variable of a context (the .mmb format, on the
-- bits of dependencies).
use Rattle.std.specs.Prelude.{ℕ, ◌≡◌, ◌↔◌, List, slice_get, Some}
use Rattle.std.specs.Int.{bit_at}
use Rattle.mz_logic_theory.specs.declared.binder.Binder.{Binder}
pub use Rattle.mz_logic_theory.specs.WordsWritten.{bound_from}

-- the places of the bound variables of a context, in order
abbrev pub bound_vars : List Binder → List ℕ
bound_vars ctx = bound_from 0 ctx

-- the k-th of the places has P
abbrev pub HasAt : List ℕ → (ℕ → Type 0) → ℕ → Type 0
HasAt places P k = (x : ℕ) × (slice_get places k ≡ Some x) × P x

-- bit k of the word is set exactly where the k-th of the places has P
abbrev pub Tells : List ℕ → ℕ → (ℕ → Type 0) → Type 0
Tells places word P = (k : ℕ) → (bit_at word k ≡ 1) ↔ HasAt places P k
