-- What is promised of the streams that are written.
use Rattle.std.specs.Prelude.{ℕ, ◌≡◌, ◌+◌, ◌*◌, ◌≤◌, ◌<◌, ◌^◌, List, [], ◌∷◌, ◌++◌, length, slice_get, Some}
use Rattle.mz_logic_theory.specs.Tree.{Tree, Trees, var, app, none, more, listed, size, trees_size}
use Rattle.mz_logic_theory.specs.Signature.{Signature}
use Rattle.mz_logic_theory.specs.Declaration.{defined}
use Rattle.mz_logic_theory.specs.Legality.{Each, IsDummy, AreParams}
use Rattle.mz_logic_theory.specs.declared.binder.Binder.{Binder}
use Rattle.mz_logic_theory.specs.declared.binder.SortMods.{SortMods}
use Rattle.mz_machine_theory.specs.Streams.{StreamKind, of_assertion, of_definition, u_term, u_term_save, u_ref, u_dummy}
use Rattle.mz_machine_theory.specs.Spells.{dummy_of, Marks, SpellsText}
use Rattle.mz_machine_theory.specs.Sorted.{Sorted, AllSorted}
use Rattle.mz_emit_theory.specs.AlphaEquivalence.{IsInside, IsSameForm}
use Rattle.mz_emit_theory.specs.StreamWriting.{assertion_written, definition_written, body_spelled, dummies_spelled, stream_of, AreShort}
use Rattle.mz_emit_theory.specs.SpellsBefore.{SpellsBefore}
use Rattle.mz_emit_theory.specs.SharedTexts.{SharesBefore}
use Rattle.mz_emit_theory.specs.Sharing.{Built, BuildsText}

-- what builds spells
abbrev pub BuildingSpells : Type 0
BuildingSpells = (kind : StreamKind) (sigs : List Signature) (params : List Binder) (stream : List ℕ) (hyps : Trees) (e : Tree) (last : Marks) (bs : List Built)
    → BuildsText kind sigs params stream hyps e last bs → SpellsText kind sigs params stream hyps e last

-- the bytes that are written for an assertion spell it, whatever follows them
abbrev pub AssertionsAreWritten : Type 0
AssertionsAreWritten = (sigs : List Signature) (params : List Binder) (hyps : Trees) (e : Tree)
    → AllSorted sigs params (listed hyps) → Sorted sigs params e → AreShort (assertion_written params hyps e).commands
    → SpellsBefore of_assertion sigs params (stream_of (assertion_written params hyps e).commands) hyps e []

-- those of a definition spell its body with its dummies in the order in which they are met
abbrev pub DefinitionsAreWritten : Type 0
DefinitionsAreWritten = (sigs : List Signature) (params dummies : List Binder) (body : Tree)
    → Sorted sigs (params ++ dummies) body → AreShort (definition_written params dummies body).commands
    → SpellsBefore of_definition sigs params (stream_of (definition_written params dummies body).commands) none (body_spelled params dummies body) (dummies_spelled params dummies body)

-- which is the same body
abbrev pub SpelledBodiesAreSame : Type 0
SpelledBodiesAreSame = (ss : List SortMods) (sigs : List Signature) (params dummies : List Binder) (body : Tree)
    → AreParams ss params → Each dummies (λ _ b. IsDummy b) → Sorted sigs (params ++ dummies) body
    → IsSameForm params (defined dummies body) (defined (dummies_spelled params dummies body) (body_spelled params dummies body))

-- and both build no application twice once all its dummies are met, whatever follows them
abbrev pub AssertionsAreShared : Type 0
AssertionsAreShared = (sigs : List Signature) (params : List Binder) (hyps : Trees) (e : Tree)
    → AllSorted sigs params (listed hyps) → Sorted sigs params e → AreShort (assertion_written params hyps e).commands
    → SharesBefore of_assertion sigs params (stream_of (assertion_written params hyps e).commands) hyps e

abbrev pub DefinitionsAreShared : Type 0
DefinitionsAreShared = (sigs : List Signature) (params dummies : List Binder) (body : Tree)
    → Sorted sigs (params ++ dummies) body → AreShort (definition_written params dummies body).commands
    → SharesBefore of_definition sigs params (stream_of (definition_written params dummies body).commands) none (body_spelled params dummies body)

-- ---- operands of four bytes

-- the tables are of the format's size, and so are the sorts of the context
pub record IsSmall (sigs : List Signature) (ctx : List Binder) : Type 0 where
  pub terms : length sigs ≤ 2 ^ 32
  pub sorts : (x : ℕ) (b : Binder) → slice_get ctx x ≡ Some b → b.sort < 2 ^ 32

-- then the operands of what is written are, where the text isn't too long
abbrev pub AssertionsAreShort : Type 0
AssertionsAreShort = (sigs : List Signature) (params : List Binder) (hyps : Trees) (e : Tree) → IsSmall sigs params
    → AllSorted sigs params (listed hyps) → Sorted sigs params e → length params + (size e + (trees_size hyps + length (listed hyps))) ≤ 2 ^ 32
    → AreShort (assertion_written params hyps e).commands

abbrev pub DefinitionsAreShort : Type 0
DefinitionsAreShort = (sigs : List Signature) (params dummies : List Binder) (body : Tree) → IsSmall sigs (params ++ dummies)
    → Sorted sigs (params ++ dummies) body → length params + size body ≤ 2 ^ 32 → AreShort (definition_written params dummies body).commands

-- an operand takes four bytes at most, and a command one more: a stream has at most five bytes for each node of
-- its text, and those of END and of the hypotheses' commands
abbrev pub AssertionsAreBounded : Type 0
AssertionsAreBounded = (sigs : List Signature) (params : List Binder) (hyps : Trees) (e : Tree) → IsSmall sigs params → AllSorted sigs params (listed hyps) → Sorted sigs params e
    → length (stream_of (assertion_written params hyps e).commands) ≤ 5 * (size e + (trees_size hyps + length (listed hyps))) + 1

abbrev pub DefinitionsAreBounded : Type 0
DefinitionsAreBounded = (sigs : List Signature) (params dummies : List Binder) (body : Tree) → IsSmall sigs (params ++ dummies) → Sorted sigs (params ++ dummies) body
    → length (stream_of (definition_written params dummies body).commands) ≤ 5 * size body + 1

-- ---- what is spelled, and what is built

-- the spelled body has only variables of the parameters and of the dummies that were met
abbrev pub SpelledBodiesAreInside : Type 0
SpelledBodiesAreInside = (sigs : List Signature) (params dummies : List Binder) (body : Tree) → Sorted sigs (params ++ dummies) body
    → IsInside params (dummies_spelled params dummies body) (body_spelled params dummies body)

-- whatever spells a text builds something
abbrev pub SpellingBuilds : Type 0
SpellingBuilds = (kind : StreamKind) (sigs : List Signature) (params : List Binder) (stream : List ℕ) (hyps : Trees) (e : Tree) (last : Marks)
    → SpellsText kind sigs params stream hyps e last → (bs : List Built) × BuildsText kind sigs params stream hyps e last bs

-- and one thing alone: what a stream builds is a function of it
abbrev pub OneBuilding : Type 0
OneBuilding = (kind : StreamKind) (sigs : List Signature) (params : List Binder) (stream : List ℕ) (hyps : Trees) (e : Tree) (last last' : Marks) (bs cs : List Built)
    → BuildsText kind sigs params stream hyps e last bs → BuildsText kind sigs params stream hyps e last' cs → bs ≡ cs

-- ---- an example: of three copies of an application over a dummy the first meets the dummy, so the second is saved, and
-- the third is a reference; mark 0 is the dummy

abbrev pub copied : Tree
copied = app 1 (more (var 0) (more (var 0) none))

abbrev pub ThirdIsReference : Type 0
ThirdIsReference = (definition_written [] (dummy_of 4 ∷ []) (app 2 (more copied (more copied (more copied none))))).commands
    ≡ u_term 2 ∷ u_term 1 ∷ u_dummy 4 ∷ u_ref 0 ∷ u_term_save 1 ∷ u_ref 0 ∷ u_ref 0 ∷ u_ref 1 ∷ []
