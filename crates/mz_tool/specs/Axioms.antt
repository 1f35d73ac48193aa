-- The command `axioms SPEC BIN`: all that is said of it (this project's own).
use Rattle.std.specs.Prelude.{◌≡◌, ℕ, List, [], ◌∷◌, None, codes}
use Rattle.mz_match_theory.specs.Verdict.{IsSound}
use Rattle.mz_axioms.specs.Lists.{TheoremSupport, AreSupports}
use Rattle.mz_axioms.specs.Text.{IsTextOf}
use Rattle.mz_tool_engine.specs.Said.{Said, OfTwo}
use Rattle.mz_tool_verify.specs.Verify.{IsRefuted, IsProvedSpec}

-- yes: the binary is accepted against the specification, and these are the lines of its theorems, each with the axioms on
-- which it rests
abbrev pub AreAxiomsPrinted : List ℕ → List ℕ → List ℕ → Type 0
AreAxiomsPrinted spec bin text = (supports : List TheoremSupport) × AreSupports spec bin supports × IsTextOf spec supports text

-- No, and what a yes promises, are those of `verify`.
abbrev pub axioms_says : (spec_name bin_name : List ℕ) → Said
axioms_says spec_name bin_name = record {
  words = codes "axioms" ∷ spec_name ∷ bin_name ∷ [];
  is_in_range = Unit {0};
  reads = spec_name ∷ bin_name ∷ [];
  puts = None;
  promise = λ file. IsProvedSpec file spec_name;
  yes = λ contents put text. OfTwo (λ spec bin. (put ≡ None) × AreAxiomsPrinted spec bin text) contents;
  no = λ contents text. OfTwo (λ spec bin. IsRefuted spec bin text) contents;
  sound = λ contents. OfTwo IsSound contents;
  begun = λ contents text. ⊥;
}
