-- The command `verify SPEC BIN`: all that is said of it (this project's own).
use Rattle.std.specs.Prelude.{◌≡◌, ℕ, List, [], ◌∷◌, None, Some, codes}
use Rattle.mz_binary_theory.specs.Standards.{Standard, strict_standard}
use Rattle.mz_match_theory.specs.declared.verdict.Counts.{Counts}
use Rattle.mz_match_theory.specs.declared.verdict.Verdict.{Verdict}
use Rattle.mz_match_theory.specs.declared.verdict.Verdict.TheVariants as verdicts
use Rattle.mz_spec_proved_theory.specs.Headline.{Proves}
use Rattle.mz_match_theory.specs.Verdict.{AcceptsWithBy, FirstRefusalBy, IsSound, line_of}
use Rattle.mz_tool_engine.specs.Said.{Said, Files, OfTwo}

-- yes: the binary, held to a standard, is accepted against the specification; the line has how many declarations there are of
-- each kind
abbrev pub IsVerifiedBy : Standard → List ℕ → List ℕ → List ℕ → Type 0
IsVerifiedBy standard spec bin text = (counts : Counts) × AcceptsWithBy standard spec bin counts × (text ≡ line_of (verdicts.Accepted counts))

abbrev pub IsVerified : List ℕ → List ℕ → List ℕ → Type 0
IsVerified spec bin text = IsVerifiedBy strict_standard spec bin text

-- no: this is the first refusal, of which each pair that isn't accepted has one; the line is its own
abbrev pub IsRefutedBy : Standard → List ℕ → List ℕ → List ℕ → Type 0
IsRefutedBy standard spec bin text = (verdict : Verdict) × FirstRefusalBy standard spec bin verdict × (text ≡ line_of verdict)

abbrev pub IsRefuted : List ℕ → List ℕ → List ℕ → Type 0
IsRefuted spec bin text = IsRefutedBy strict_standard spec bin text

-- the file of this name is a specification that is proved
abbrev pub IsProvedSpec : Files → List ℕ → Type 0
IsProvedSpec file name = (spec : List ℕ) × (file name ≡ Some spec) × Proves spec

-- What is accepted is sound: each theorem of the specification ends a prefix of the binary's statements, which is a legal
-- list and agrees with the specification up to the theorem; it has a derivation from axioms alone over the statements before it, and
-- this cites only axioms that the specification declares before it. All of the binary's statements are legal and agree too.
abbrev pub verify_says : (spec_name bin_name : List ℕ) → Said
verify_says spec_name bin_name = record {
  words = codes "verify" ∷ spec_name ∷ bin_name ∷ [];
  is_in_range = Unit {0};
  reads = spec_name ∷ bin_name ∷ [];
  puts = None;
  promise = λ file. IsProvedSpec file spec_name;
  yes = λ contents put text. OfTwo (λ spec bin. (put ≡ None) × IsVerified spec bin text) contents;
  no = λ contents text. OfTwo (λ spec bin. IsRefuted spec bin text) contents;
  sound = λ contents. OfTwo IsSound contents;
  begun = λ contents text. ⊥;
}
