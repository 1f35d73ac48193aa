-- What is promised of the samples (this project's own).
use Rattle.std.specs.Prelude.{◌≤◌, ℕ, false, List}
use Rattle.mz_emit_theory.specs.Compiling.{IsCompilable}
use Rattle.mz_prefix.specs.AgreeLaws.{DeclaresText}
use Rattle.mz_tool.specs.Samples.{sample_specification, sample_text}

-- the text can be compiled, and the specification declares what agrees with its public statements
abbrev pub FitTogether : List ℕ → List ℕ → Type 0
FitTogether spec text = IsCompilable false text × DeclaresText spec text

-- So the text is accepted against the specification, for each number of definitions that a sample may have.
abbrev pub SamplesAreAccepted : Type 0
SamplesAreAccepted = (n : ℕ) → n ≤ 10000 → FitTogether (sample_specification n) (sample_text n)
