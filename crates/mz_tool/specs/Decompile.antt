-- The command `decompile SPEC BIN OUT`: all that is said of it (this project's own).
use Rattle.std.specs.Prelude.{◌≡◌, ◌⊎◌, ℕ, List, [], ◌∷◌, length, Option, Some, codes}
use Rattle.mz_match_theory.specs.Verdict.{IsSound}
use Rattle.mz_emit_theory.specs.declared.rule.L.TheVariants.{Bytes}
use Rattle.mz_emit_theory.specs.Lines.{limit_line}
use Rattle.mz_decompile.specs.Restated.{Unstated, deep, too_long}
use Rattle.mz_decompile.specs.Texts.{IsPlainText, IsUnstated}
use Rattle.mz_decompile.specs.Decompiling.{IsTextFor}
use Rattle.mz_decompile.specs.Printed.{decompiled_line, deep_line}
use Rattle.mz_tool_engine.specs.Said.{Said, OfTwo}
use Rattle.mz_tool_verify.specs.Verify.{IsRefuted, IsProvedSpec}

-- yes: the pair is accepted, and the bytes, which are put, are the text that states the binary's statements under the
-- specification's names
abbrev pub IsDecompiledTo : List ℕ → List ℕ → Option (List ℕ) → List ℕ → Type 0
IsDecompiledTo spec bin put line = (text : List ℕ) × (put ≡ Some text) × IsPlainText spec bin text × (line ≡ decompiled_line (length text))

-- the line of what stands against a text
abbrev pub unstated_line : Unstated → List ℕ
unstated_line (deep statement) = deep_line statement
unstated_line (too_long count) = limit_line Bytes count

-- no: the pair is refused, or it is accepted and something stands first against its text
abbrev pub IsNotDecompiled : List ℕ → List ℕ → List ℕ → Type 0
IsNotDecompiled spec bin line = IsRefuted spec bin line ⊎ ((u : Unstated) × IsUnstated spec bin u × (line ≡ unstated_line u))

-- each text of a pair is well typed and says the binary's statements; it can be compiled, and what it is compiled to is
-- accepted against the specification
abbrev pub AreItsTexts : List ℕ → List ℕ → Type 0
AreItsTexts spec bin = (text : List ℕ) → IsPlainText spec bin text → IsTextFor spec bin text

-- A pair whose binary is made a text is sound, and the text says the binary's statements and compiles to what is accepted
-- again.
abbrev pub decompile_says : (spec_name bin_name out_name : List ℕ) → Said
decompile_says spec_name bin_name out_name = record {
  words = codes "decompile" ∷ spec_name ∷ bin_name ∷ out_name ∷ [];
  is_in_range = Unit {0};
  reads = spec_name ∷ bin_name ∷ [];
  puts = Some out_name;
  promise = λ file. IsProvedSpec file spec_name;
  yes = λ contents put text. OfTwo (λ spec bin. IsDecompiledTo spec bin put text) contents;
  no = λ contents text. OfTwo (λ spec bin. IsNotDecompiled spec bin text) contents;
  sound = λ contents. OfTwo (λ spec bin. IsSound spec bin × AreItsTexts spec bin) contents;
  begun = λ contents text. ⊥;
}
