-- What is promised of a written file where verifiers compare by identity (the .mmb format's proof machine; the profile
-- is this project's own).
use Rattle.std.specs.Prelude.{ℕ, false, List}
use Rattle.mz_logic_theory.specs.Declaration.{Declaration}
use Rattle.mz_logic_theory.specs.LegalLists.{Statement, Legal}
use Rattle.mz_layout_tables.specs.Normal.{Parts, file_of}
use Rattle.mz_layout_tables.specs.Standing.{Fit}
use Rattle.mz_binary_theory.specs.Good.{Good}
use Rattle.mz_pmachine_theory.specs.FilesByIdentity.{portable_standard}
use Rattle.mz_emit_theory.specs.FileWriting.{IsWrittenAs}
use Rattle.mz_spec_theory.specs.Spec.{SpecOf}
use Rattle.mz_spec_proved_theory.specs.Match.{publics, Agrees}
use Rattle.mz_match_theory.specs.Verdict.{AcceptsBy}

-- a finished legal text, written within the format's bounds, is by identity too a good binary of the made statements
abbrev pub WrittenFilesAreGoodByIdentity : Type 0
WrittenFilesAreGoodByIdentity = (p : Parts) (text made : List Statement) → Fit p → Legal text → IsWrittenAs false p text made → Good portable_standard (file_of p) made

-- so it is accepted against each specification with which the text's public statements agree
abbrev pub WrittenFilesAreAcceptedByIdentity : Type 0
WrittenFilesAreAcceptedByIdentity = (p : Parts) (text made : List Statement) → Fit p → Legal text → IsWrittenAs false p text made
    → (spec : List ℕ) (ds : List Declaration) → SpecOf spec ds → Agrees ds (publics text) → AcceptsBy portable_standard spec (file_of p)
