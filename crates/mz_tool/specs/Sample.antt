-- The command `sample N`: all that is said of it (this project's own).
use Rattle.std.specs.Prelude.{◌≡◌, ◌≤◌, ◌++◌, ℕ, false, List, [], ◌∷◌, length, None, codes, decimal}
use Rattle.mz_spec_proved_theory.specs.Headline.{Proves}
use Rattle.mz_match_theory.specs.Verdict.{IsSound}
use Rattle.mz_emit_theory.specs.Compiling.{CompilesTo}
use Rattle.mz_tool.specs.Samples.{sample_specification, sample_text, sample_line}
use Rattle.mz_tool_engine.specs.Said.{Said, OfNone}
use Rattle.mz_tool_verify.specs.Verify.{IsVerified}

-- a text is compiled, and the binary accepted against the specification
abbrev pub IsUpheld : List ℕ → List ℕ → List ℕ → Type 0
IsUpheld spec text line = (bin : List ℕ) × CompilesTo false text bin × IsVerified spec bin line

-- the line that says how long a sample's specification and its text are
abbrev pub sizes_line : ℕ → List ℕ
sizes_line n = sample_line (length (sample_specification n)) (length (sample_text n))

-- the sample's text is compiled and accepted: the line of that follows the one of the sizes
abbrev pub IsSampleUpheld : ℕ → List ℕ → Type 0
IsSampleUpheld n text = (line : List ℕ) × IsUpheld (sample_specification n) (sample_text n) line × (text ≡ sizes_line n ++ line)

-- each theorem of the specification is proved by a binary of the text
abbrev pub IsProvedByText : List ℕ → List ℕ → Type 0
IsProvedByText spec text = (bin : List ℕ) × CompilesTo false text bin × IsSound spec bin

-- A sample has 1 to 10,000 definitions. Each is accepted, so none is refused.
abbrev pub sample_says : (n : ℕ) → Said
sample_says n = record {
  words = codes "sample" ∷ decimal n ∷ [];
  is_in_range = (1 ≤ n) × (n ≤ 10000);
  reads = [];
  puts = None;
  promise = λ file. Proves (sample_specification n);
  yes = λ contents put text. OfNone ((put ≡ None) × IsSampleUpheld n text) contents;
  no = λ contents text. ⊥;
  sound = λ contents. OfNone (IsProvedByText (sample_specification n) (sample_text n)) contents;
  begun = λ contents text. ⊥;
}
