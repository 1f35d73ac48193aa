-- What is promised of a written file beside a specification.
use Rattle.std.specs.Prelude.{◌++◌, ℕ, Bool, List, length}
use Rattle.std.specs.List.{range_with_len}
use Rattle.mz_logic_theory.specs.Tree.{Tree}
use Rattle.mz_logic_theory.specs.Signature.{Signature}
use Rattle.mz_logic_theory.specs.Declaration.{defined, Declaration}
use Rattle.mz_logic_theory.specs.Legality.{InRange, IsLegalEnv}
use Rattle.mz_logic_theory.specs.LegalLists.{Statement, LegalBy, allowed_with, declarations}
use Rattle.mz_logic_theory.specs.declared.binder.Binder.{Binder}
use Rattle.mz_layout_tables.specs.Normal.{Parts, file_of}
use Rattle.mz_layout_tables.specs.Standing.{Fit}
use Rattle.mz_spec_theory.specs.Spec.{SpecOf}
use Rattle.mz_spec_proved_theory.specs.Match.{publics, Agrees}
use Rattle.mz_spec_proved_theory.specs.AlphaTrees.{SameBody}
use Rattle.mz_match_theory.specs.Verdict.{AcceptsBy}
use Rattle.mz_emit_theory.specs.AlphaEquivalence.{IsSameForm}
use Rattle.mz_emit_theory.specs.AlphaLists.{IsSameList}
use Rattle.mz_emit_theory.specs.SpelledLists.{list_spelled}
use Rattle.mz_emit_theory.specs.FileWriting.{IsWrittenAs}
use Rattle.mz_binary_theory.specs.Standards.{by_table}

-- ---- lists that are the same

-- bodies that are one but for the numbers of their dummies are the same as a match compares them, each term being its
-- own partner
abbrev pub SameFormsHaveSameBodies : Type 0
SameFormsHaveSameBodies = (sigs : List Signature) (params dummies dummies' : List Binder) (e e' : Tree) → IsSameForm params (defined dummies e) (defined dummies' e')
    → InRange sigs (length (params ++ dummies)) e
    → SameBody (range_with_len 0 (length sigs)) (length params) dummies dummies' e e'

-- what agrees with the public statements of a list agrees with those of one that is the same
abbrev pub SameListsAgree : Type 0
SameListsAgree = (ds : List Declaration) (ts ss : List Statement) → IsSameList ts ss → Agrees ds (publics ts) → Agrees ds (publics ss)

-- so what agrees with a legal list agrees with what its compiled file spells
abbrev pub SpelledListsAgree : Type 0
SpelledListsAgree = (ds : List Declaration) (ss : List Statement) → IsLegalEnv (declarations ss) → Agrees ds (publics ss) → Agrees ds (publics (list_spelled ss))

-- ---- files

-- a legal text that is written within the format's bounds is accepted against each specification with which its public
-- statements agree; with gaps as a draft, and else as it is
abbrev pub WrittenFilesAreAccepted : Type 0
WrittenFilesAreAccepted = (gaps : Bool) (p : Parts) (text made : List Statement) → Fit p → LegalBy (allowed_with gaps) text → IsWrittenAs gaps p text made
    → (spec : List ℕ) (ds : List Declaration) → SpecOf spec ds → Agrees ds (publics text) → AcceptsBy (by_table gaps) spec (file_of p)
