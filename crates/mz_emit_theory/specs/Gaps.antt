-- The gaps and the citations of bodies that are written (the .mmb format's list of proof commands, which writes a gap as
-- Sorry, and a citation as Thm or ThmSave; gapped theorems are this project's own, docs/FORMAT.md, Drafts).
use Rattle.std.specs.Prelude.{◌≡◌, ◌⊎◌, ◌↔◌, ◌++◌, ℕ, Bool, true, false, List, [], ◌∷◌, length, Contains}
use Rattle.mz_cmd.specs.declared.code.ProofCode.{ProofCode}
use Rattle.mz_cmd.specs.declared.code.ProofCode.TheVariants as code
use Rattle.mz_logic_theory.specs.Tree.{Tree}
use Rattle.mz_logic_theory.specs.Declaration.{Declaration, sort_decl, term_decl, assertion_decl}
use Rattle.mz_logic_theory.specs.LegalLists.{Statement}
use Rattle.mz_logic_theory.specs.declared.binder.Binder.{Binder}
use Rattle.mz_layout_tables.specs.Normal.{Written, Parts, file_of}
use Rattle.mz_layout_tables.specs.Standing.{Fit}
use Rattle.mz_machine_theory.specs.MachineState.{Kind, is_theorem}
use Rattle.mz_machine_theory.specs.Sound.{CitesWithin, HasGap}
use Rattle.mz_binary_theory.specs.Gapped.{AssertionBody, bodies_of, IsGapped, GappedIn}
use Rattle.mz_emit_theory.specs.Bodies.{IsBody}
use Rattle.mz_emit_theory.specs.FileWriting.{IsWrittenAs}

-- ---- one body

-- a gap is among the commands
abbrev pub LeaveGap : List (ProofCode × ℕ) → Type 0
LeaveGap cs = (n : ℕ) × Contains cs (code.Sorry, n)

-- assertion U is cited by one of them
abbrev pub Cite : List (ProofCode × ℕ) → ℕ → Type 0
Cite cs U = Contains cs (code.Thm, U) ⊎ Contains cs (code.ThmSave, U)

-- the bytes leave a gap, and cite an assertion, exactly where the body's commands do
pub record SaysItsGaps (commands : List (ProofCode × ℕ)) (bytes : List ℕ) : Type 0 where
  pub gaps : HasGap bytes ↔ LeaveGap commands
  pub citations : (U : ℕ) → CitesWithin (length bytes) bytes U ↔ Cite commands U

abbrev pub BodiesSayTheirGaps : Type 0
BodiesSayTheirGaps = (gaps : Bool) (env : List Declaration) (kind : Kind) (params dummies : List Binder) (e : Tree) (hyps : List Tree) (bytes : List ℕ)
    → (b : IsBody gaps env kind params dummies e hyps bytes) → SaysItsGaps b.commands bytes

-- only a theorem's body leaves one, and only where gaps are let through
abbrev pub OnlyDraftsLeaveGaps : Type 0
OnlyDraftsLeaveGaps = (gaps : Bool) (env : List Declaration) (kind : Kind) (params dummies : List Binder) (e : Tree) (hyps : List Tree) (bytes : List ℕ)
    → IsBody gaps env kind params dummies e hyps bytes → HasGap bytes → (gaps ≡ true) × (kind ≡ is_theorem)

-- ---- all bodies

-- an axiom or theorem has the body that is written of it
abbrev pub body_written : Declaration → Written → List AssertionBody
body_written (sort_decl _) w = []
body_written (term_decl _) w = []
body_written (assertion_decl a) w = record { is_axiom = a.is_axiom; bytes = w.body } ∷ []

-- the bodies of a text's axioms and theorems, of which these statements are written, one by one
abbrev pub bodies_written : List Statement → List Written → List AssertionBody
bodies_written [] ws = []
bodies_written (t ∷ ts) [] = []
bodies_written (t ∷ ts) (w ∷ ws) = body_written t.decl w ++ bodies_written ts ws

-- in the file they are the same
abbrev pub BodiesAreWritten : Type 0
BodiesAreWritten = (gaps : Bool) (p : Parts) (text made : List Statement) → Fit p → IsWrittenAs gaps p text made
    → bodies_of (file_of p) made ≡ bodies_written text p.statements

-- so they say which of its theorems are gapped
abbrev pub BodiesSayWhatIsGapped : Type 0
BodiesSayWhatIsGapped = (gaps : Bool) (p : Parts) (text made : List Statement) → Fit p → IsWrittenAs gaps p text made
    → (T : ℕ) → GappedIn (file_of p) made T ↔ IsGapped (bodies_written text p.statements) T

-- only a draft has gapped ones
abbrev pub OnlyDraftsAreGapped : Type 0
OnlyDraftsAreGapped = (gaps : Bool) (p : Parts) (text made : List Statement) → Fit p → IsWrittenAs gaps p text made
    → (T : ℕ) → GappedIn (file_of p) made T → gaps ≡ true

-- ---- both modes

-- what is written of a finished text is written of a draft, too
abbrev pub FinishedIsDraft : Type 0
FinishedIsDraft = (p : Parts) (text made : List Statement) → IsWrittenAs false p text made → IsWrittenAs true p text made
