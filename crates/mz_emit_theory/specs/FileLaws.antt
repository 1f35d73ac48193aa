-- What is promised of parts that say a text.
use Rattle.std.specs.Prelude.{Bool, List}
use Rattle.mz_logic_theory.specs.LegalLists.{Statement, LegalBy, allowed_with}
use Rattle.mz_layout_tables.specs.Normal.{Parts, file_of}
use Rattle.mz_layout_tables.specs.Standing.{Fit}
use Rattle.mz_binary_theory.specs.Chains.{Statements}
use Rattle.mz_binary_theory.specs.Good.{Good}
use Rattle.mz_emit_theory.specs.AlphaLists.{IsSameList}
use Rattle.mz_emit_theory.specs.FileWriting.{IsWrittenAs}
use Rattle.mz_binary_theory.specs.Standards.{by_table}

-- a legal text, written within the format's bounds, is a good binary of the made statements; both with gaps, or both
-- without
abbrev pub WrittenFilesAreGood : Type 0
WrittenFilesAreGood = (gaps : Bool) (p : Parts) (text made : List Statement) → Fit p → LegalBy (allowed_with gaps) text → IsWrittenAs gaps p text made → Good (by_table gaps) (file_of p) made

-- they are all that it spells
abbrev pub WrittenFilesSpell : Type 0
WrittenFilesSpell = (gaps : Bool) (p : Parts) (text made : List Statement) → Fit p → LegalBy (allowed_with gaps) text → IsWrittenAs gaps p text made → Statements (file_of p) made

-- a legal list, with gaps where the text has them
abbrev pub WrittenListsAreLegal : Type 0
WrittenListsAreLegal = (gaps : Bool) (p : Parts) (text made : List Statement) → Fit p → LegalBy (allowed_with gaps) text → IsWrittenAs gaps p text made → LegalBy (allowed_with gaps) made

-- and the same list as the text's, but for the dummies of definitions' bodies
abbrev pub WrittenListsAreSame : Type 0
WrittenListsAreSame = (gaps : Bool) (p : Parts) (text made : List Statement) → IsWrittenAs gaps p text made → IsSameList text made
