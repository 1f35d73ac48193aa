-- Rows whose definitions' streams share what they build (this project's own promise; streams are the .mmb format's).
use Rattle.std.specs.Prelude.{◌≡◌, ℕ, List, map, Some, slice_get}
use Rattle.mz_logic_theory.specs.Tree.{Tree, none}
use Rattle.mz_logic_theory.specs.Signature.{Signature}
use Rattle.mz_logic_theory.specs.declared.binder.Binder.{Binder}
use Rattle.mz_machine_theory.specs.Streams.{of_definition}
use Rattle.mz_machine_theory.specs.Spells.{SpelledTerm}
use Rattle.mz_machine_theory.specs.MachineState.{is_definition, Heading}
use Rattle.mz_emit_theory.specs.Sharing.{SharedStream}

-- the stream spells a body, and builds no application twice once all its dummies are met
abbrev pub SharesBody : List Signature → List Binder → List ℕ → Type 0
SharesBody sigs params stream = (body : Tree) × SharedStream of_definition sigs params stream none body

-- the stream of the row, if it has one, does
abbrev pub IsSharedRow : List Signature → SpelledTerm → Type 0
IsSharedRow sigs row = (stream : List ℕ) → row.stream ≡ Some stream → SharesBody sigs row.signature.params stream

-- each stream of a table does
abbrev pub AreSharedRows : List SpelledTerm → Type 0
AreSharedRows rows = (t : ℕ) (row : SpelledTerm) → slice_get rows t ≡ Some row → IsSharedRow (map (λ r. r.signature) rows) row

-- and that of the statement whose body runs, if it is a definition
abbrev pub IsSharedHeading : List Signature → Heading → Type 0
IsSharedHeading sigs h = h.kind ≡ is_definition → SharesBody sigs h.params h.stream
