-- What is promised of shared bodies, and of rows whose definitions' streams share.
use Rattle.std.specs.Prelude.{◌≡◌, ℕ, false, Some, List, [], ◌∷◌, ◌++◌, length, map}
use Rattle.mz_logic_theory.specs.Tree.{Tree, none, listed}
use Rattle.mz_logic_theory.specs.Signature.{Signature}
use Rattle.mz_logic_theory.specs.Declaration.{Assertion, Declaration, sorts, signatures}
use Rattle.mz_logic_theory.specs.Legality.{Each, AreParams}
use Rattle.mz_logic_theory.specs.declared.binder.Binder.{Binder}
use Rattle.mz_machine_theory.specs.Streams.{of_definition}
use Rattle.mz_machine_theory.specs.Sorted.{Sorted}
use Rattle.mz_machine_theory.specs.Spells.{SpelledTerm}
use Rattle.mz_machine_theory.specs.Profile.{strict}
use Rattle.mz_machine_theory.specs.MachineState.{RowsBefore, signatures_in, is_definition, Heading, Declares}
use Rattle.mz_machine_theory.specs.Lists.{kind_of, assertion_of, definition_of}
use Rattle.mz_machine_theory.specs.Bodies.{Runs}
use Rattle.mz_emit_theory.specs.Endings.{Ends}
use Rattle.mz_emit_theory.specs.BodyLaws.{DependOnFirst}
use Rattle.mz_emit_theory.specs.AlphaEquivalence.{IsSameEnv}
use Rattle.mz_emit_theory.specs.SharedBodies.{IsSharedBody}
use Rattle.mz_emit_theory.specs.SharedTexts.{IsSharedText}
use Rattle.mz_emit_theory.specs.StreamWriting.{definition_written, stream_of, AreShort}
use Rattle.mz_pmachine_theory.specs.NodeIdentity.{portable}
use Rattle.mz_emit_theory.specs.SharedRows.{SharesBody, IsSharedRow, AreSharedRows, IsSharedHeading}

-- ---- bodies

-- Over rows whose definitions' streams share, a body that is shared and has no gaps (`IsSharedBody`) runs by identity:
-- where it runs by the standard machine, and where its steps have made what its row spells.
abbrev pub SharedBodiesRunByIdentity : Type 0
SharedBodiesRunByIdentity = (tables : RowsBefore) (env env' : List Declaration) → Declares tables env' → IsSameEnv env env' → AreSharedRows tables.terms
    → (h : Heading) (dummies : List Binder) → IsSharedHeading (signatures_in tables) h → DependOnFirst (length h.params) (h.params ++ dummies)
    → (e : Tree) (hyps : List Tree) (at : ℕ) (bytes : List ℕ) (b : IsSharedBody false env h.kind h.params dummies e hyps bytes)
    → (Runs strict tables h at bytes → Runs portable tables h at bytes) × (Ends env (h.params ++ dummies) h b.body.work → Runs portable tables h at bytes)

-- ---- statements

-- The body of an axiom or a theorem whose parameters are right, which shares over dummies without dependencies, runs by
-- identity where it runs by the standard machine, whatever stream the row has.
abbrev pub AssertionsRunByIdentity : Type 0
AssertionsRunByIdentity = (tables : RowsBefore) (env env' : List Declaration) → Declares tables env' → IsSameEnv env env' → AreSharedRows tables.terms
    → (a : Assertion) (dummies : List Binder) (stream : List ℕ) (at : ℕ) (bytes : List ℕ) → AreParams (sorts env) a.params → Each dummies (λ _ b. b.deps ≡ [])
    → IsSharedBody false env (kind_of a.is_axiom) a.params dummies a.conclusion (listed a.hyps) bytes
    → Runs strict tables (assertion_of a.is_axiom (record { params = a.params; stream = stream })) at bytes
    → Runs portable tables (assertion_of a.is_axiom (record { params = a.params; stream = stream })) at bytes

-- So does a definition's body, where its stream shares too; and the table with its row shares.
abbrev pub DefinitionsRunByIdentity : Type 0
DefinitionsRunByIdentity = (tables : RowsBefore) (env env' : List Declaration) → Declares tables env' → IsSameEnv env env' → AreSharedRows tables.terms
    → (signature : Signature) (dummies dummies' : List Binder) (e e' : Tree) (stream further : List ℕ) (at : ℕ) (bytes : List ℕ) → AreParams (sorts env) signature.params → Each dummies (λ _ b. b.deps ≡ [])
    → IsSharedText of_definition (signatures env) signature.params stream none e' dummies' → IsSharedBody false env is_definition signature.params dummies e [] bytes
    → (row : SpelledTerm) → row ≡ record { signature = signature; stream = Some (stream ++ further) }
    → (Runs strict tables (definition_of row (stream ++ further)) at bytes → Runs portable tables (definition_of row (stream ++ further)) at bytes) × AreSharedRows (tables.terms ++ row ∷ [])

-- ---- rows

-- bytes that share a definition's text share a body, whatever follows them
abbrev pub SharedTextsShare : Type 0
SharedTextsShare = (sigs : List Signature) (params : List Binder) (bytes : List ℕ) (body : Tree) (dummies : List Binder)
    → IsSharedText of_definition sigs params bytes none body dummies → (further : List ℕ) → SharesBody sigs params (bytes ++ further)

-- and so do those that are written for a definition
abbrev pub WrittenDefinitionsShare : Type 0
WrittenDefinitionsShare = (sigs : List Signature) (params dummies : List Binder) (body : Tree) → Sorted sigs (params ++ dummies) body → AreShort (definition_written params dummies body).commands
    → (further : List ℕ) → SharesBody sigs params (stream_of (definition_written params dummies body).commands ++ further)

-- a table without rows shares
abbrev pub SharedAtFirst : Type 0
SharedAtFirst = AreSharedRows []

-- and so does one with one more row, whose stream, if it has one, shares over the terms before it
abbrev pub SharedWithTerm : Type 0
SharedWithTerm = (rows : List SpelledTerm) (row : SpelledTerm) → AreSharedRows rows → IsSharedRow (map (λ r. r.signature) rows) row → AreSharedRows (rows ++ row ∷ [])
