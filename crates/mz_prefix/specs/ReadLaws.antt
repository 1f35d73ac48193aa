-- What is read of a specification that is printed.
use Rattle.std.specs.Prelude.{ℕ, List, []}
use Rattle.mz_prefix.specs.Lines.{lines_text}
use Rattle.mz_spec_theory.specs.Spec.{SpecOf}
use Rattle.mz_prefix.specs.NamedDeclarations.{Named, Vocabulary, lines_of, decls_of, HasVariables, ArePrintable}

-- legal declarations with names, printed line by line, are a specification that declares them
abbrev pub PrintedSpecificationsDeclare : Type 0
PrintedSpecificationsDeclare = (v : Vocabulary) (n : ℕ) (ds : List Named) → HasVariables v n → ArePrintable v n [] [] ds → SpecOf (lines_text (lines_of v ds)) (decls_of ds)
