-- What is promised of drafts: the statements of the laws that `draft_laws.rt` proves.
use Rattle.std.specs.Prelude.{◌≡◌, ◌↔◌, ⊤, ℕ, true, List, [], ◌∷◌, ◌++◌}
use Rattle.mz_logic_theory.specs.Declaration.{Declaration}
use Rattle.mz_logic_theory.specs.Legality.{IsLegalDecl}
use Rattle.mz_logic_theory.specs.LegalLists.{Statement, MayBeLocal, DraftLegal}
use Rattle.mz_binary_theory.specs.Good.{Good}
use Rattle.mz_binary_theory.specs.Gapped.{NoneIsGapped}
use Rattle.mz_binary_theory.specs.Standards.{strict_standard, draft_standard}

-- a file is good without gaps exactly where it is good with gaps and none of its theorems is gapped, local ones among them
abbrev pub FinishedDraftsAreGood : Type 0
FinishedDraftsAreGood = (file : List ℕ) (ss : List Statement) → Good strict_standard file ss ↔ (Good draft_standard file ss × NoneIsGapped file ss)

-- each declaration is legal over those before it, and what is local may be
abbrev pub AreLegallyDeclared : List Declaration → List Statement → Type 0
AreLegallyDeclared env [] = ⊤
AreLegallyDeclared env (s ∷ ss) = IsLegalDecl env s.decl × (s.is_local ≡ true → MayBeLocal s.decl) × AreLegallyDeclared (env ++ s.decl ∷ []) ss

-- A list is a legal draft exactly where this is so: a gap derives whatever a legal theorem states, so nothing is said of
-- proofs.
abbrev pub DraftsAreLegallyDeclared : Type 0
DraftsAreLegallyDeclared = (ss : List Statement) → DraftLegal ss ↔ AreLegallyDeclared [] ss
