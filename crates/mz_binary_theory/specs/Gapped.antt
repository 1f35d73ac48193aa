-- Gapped theorems of a binary, whose proofs aren't finished (this project's own; a gap is Sorry of the .mmb format, which
-- no finished proof has).
use Rattle.std.specs.Prelude.{◌≡◌, ◌<◌, ◌↔◌, ℕ, Bool, true, false, ◌&&◌, List, [], ◌∷◌, ◌++◌, length, slice_get, Option, Some, None, Result, Ok, Err}
use Rattle.mz_cmd.specs.declared.command.Cmd.{Cmd}
use Rattle.mz_cmd.specs.declared.code.ProofCode.{ProofCode}
use Rattle.mz_cmd.specs.declared.code.ProofCode.TheVariants.{Thm, ThmSave}
use Rattle.mz_cmd.specs.declared.statement.StmtAt.{StmtAt}
use Rattle.mz_cmd.specs.declared.statement.StmtAt.TheVariants.{End, Head}
use Rattle.mz_cmd.specs.declared.statement.StmtFault.{StmtFault}
use Rattle.mz_cmd.specs.Codes.{proof_code}
use Rattle.mz_cmd.specs.StatementList.{statement_at}
use Rattle.mz_logic_theory.specs.Declaration.{Declaration, Assertion, sort_decl, term_decl, assertion_decl, assertions}
use Rattle.mz_logic_theory.specs.LegalLists.{Statement, declarations, IsProvedBy}
use Rattle.mz_layout_tables.specs.Tables.{list_at}
use Rattle.mz_machine_theory.specs.Sound.{HasGap, CitesWithin}
use Rattle.mz_layout_tables.specs.Heads.{body_bytes}
use Rattle.mz_machine_theory.specs.Gapped.{free_of}

-- ---- the bodies of the axioms and theorems of a binary, numbered together in their order

pub record AssertionBody : Type 0 where
  pub is_axiom : Bool
  pub bytes : List ℕ

-- the body of the statement that stands there, and the place after it
abbrev pub body_there : List ℕ → Result StmtAt StmtFault → List ℕ
body_there file (Err _) = []
body_there file (Ok End) = []
body_there file (Ok (Head code body next)) = body_bytes file body next

abbrev pub place_after : Result StmtAt StmtFault → ℕ
place_after (Err _) = 0
place_after (Ok End) = 0
place_after (Ok (Head code body next)) = next

-- an axiom or theorem has its body; sorts, terms and definitions leave no gap
abbrev pub body_of : List ℕ → ℕ → Declaration → List AssertionBody
body_of file at (sort_decl _) = []
body_of file at (term_decl _) = []
body_of file at (assertion_decl a) = record { is_axiom = a.is_axiom; bytes = body_there file (statement_at file at) } ∷ []

-- of statements that follow one another from a place on
abbrev pub bodies_from : List ℕ → ℕ → List Statement → List AssertionBody
bodies_from file at [] = []
bodies_from file at (s ∷ ss) = body_of file at s.decl ++ bodies_from file (place_after (statement_at file at)) ss

abbrev pub bodies_of : List ℕ → List Statement → List AssertionBody
bodies_of file ss = bodies_from file (list_at file) ss

-- ---- gapped theorems

-- the T-th is a theorem, whose body has these bytes
abbrev pub IsTheoremBody : List AssertionBody → ℕ → List ℕ → Type 0
IsTheoremBody bodies T bytes = slice_get bodies T ≡ Some (record { is_axiom = false; bytes = bytes })

-- a theorem is gapped: its body leaves a gap, or cites a gapped one, which stands before it
pub data IsGapped (bodies : List AssertionBody) : ℕ → Type 0 where
  leaves_gap : (T : ℕ) (bytes : List ℕ) → IsTheoremBody bodies T bytes → HasGap bytes → IsGapped bodies T
  rests_on : (T U : ℕ) (bytes : List ℕ) → IsTheoremBody bodies T bytes → CitesWithin (length bytes) bytes U → U < T → IsGapped bodies U → IsGapped bodies T

-- of a file with these statements
abbrev pub GappedIn : List ℕ → List Statement → ℕ → Type 0
GappedIn file ss T = IsGapped (bodies_of file ss) T

-- no theorem is, local or not
abbrev pub NoneIsGapped : List ℕ → List Statement → Type 0
NoneIsGapped file ss = (T : ℕ) → GappedIn file ss T → ⊥

-- each theorem that isn't gapped has a derivation without gaps, over the statements before it, that cites no gapped theorem
abbrev pub AreFreeUnlessGapped : List ℕ → List Statement → Type 0
AreFreeUnlessGapped file ss = (before after : List Statement) (s : Statement) (a : Assertion) → ss ≡ before ++ s ∷ after → s.decl ≡ assertion_decl a → a.is_axiom ≡ false
    → (GappedIn file ss (length (assertions (declarations before))) → ⊥) → IsProvedBy (free_of (GappedIn file ss)) (declarations before) a

-- ---- flags of them

-- the U-th is tainted
abbrev pub IsMarked : List Bool → ℕ → Type 0
IsMarked marks U = slice_get marks U ≡ Some true

-- the flags, one for each axiom and theorem, are set for the gapped theorems
pub record AreMarks (file : List ℕ) (ss : List Statement) (marks : List Bool) : Type 0 where
  pub many : length marks ≡ length (bodies_of file ss)
  pub each : (T : ℕ) → IsMarked marks T ↔ GappedIn file ss T

-- a command of these bytes cites a tainted one
abbrev pub CitesMarked : List ℕ → List Bool → Type 0
CitesMarked bytes marks = (U : ℕ) × CitesWithin (length bytes) bytes U × IsMarked marks U

-- Thm and ThmSave cite
abbrev pub is_citing : Option ProofCode → Bool
is_citing None = false
is_citing (Some Thm) = true
is_citing (Some ThmSave) = true
is_citing (Some c) = false

abbrev pub mark_in : Option Bool → Bool
mark_in None = false
mark_in (Some b) = b

-- the command cites a tainted one
abbrev pub cites_mark : Cmd → List Bool → Bool
cites_mark c marks = is_citing (proof_code c.code) && mark_in (slice_get marks c.value)
