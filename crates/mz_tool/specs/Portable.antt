-- The command `portable SPEC BIN`: all that is said of it (this project's own).
use Rattle.std.specs.Prelude.{◌≡◌, ℕ, List, [], ◌∷◌, None, codes}
use Rattle.mz_pmachine_theory.specs.FilesByIdentity.{portable_standard}
use Rattle.mz_match_theory.specs.Verdict.{Accepts, IsSound}
use Rattle.mz_tool_engine.specs.Said.{Said, OfTwo}
use Rattle.mz_tool_verify.specs.Verify.{IsVerifiedBy, IsRefutedBy, IsProvedSpec}

-- Yes and no are those of `verify` for verifiers that compare by identity. What they accept is sound, and `verify` accepts it.
abbrev pub portable_says : (spec_name bin_name : List ℕ) → Said
portable_says spec_name bin_name = record {
  words = codes "portable" ∷ spec_name ∷ bin_name ∷ [];
  is_in_range = Unit {0};
  reads = spec_name ∷ bin_name ∷ [];
  puts = None;
  promise = λ file. IsProvedSpec file spec_name;
  yes = λ contents put text. OfTwo (λ spec bin. (put ≡ None) × IsVerifiedBy portable_standard spec bin text) contents;
  no = λ contents text. OfTwo (λ spec bin. IsRefutedBy portable_standard spec bin text) contents;
  sound = λ contents. OfTwo (λ spec bin. IsSound spec bin × Accepts spec bin) contents;
  begun = λ contents text. ⊥;
}
