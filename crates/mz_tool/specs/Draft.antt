-- The command `draft SPEC BIN`: all that is said of it (this project's own).
use Rattle.std.specs.Prelude.{◌≡◌, ℕ, List, [], ◌∷◌, None, codes}
use Rattle.mz_binary_theory.specs.Standards.{draft_standard}
use Rattle.mz_match_theory.specs.declared.verdict.Counts.{Counts}
use Rattle.mz_match.specs.Drafts.{DraftAccepts, IsDraftSound, IsDraftSoundBut}
use Rattle.mz_axioms.specs.Gaps.{IsGapsTextOf}
use Rattle.mz_tool_engine.specs.Said.{Said, OfTwo}
use Rattle.mz_tool_verify.specs.Verify.{IsRefutedBy}

-- yes: the binary, whose proofs may have gaps, is accepted against the specification, and the lines say how many of its
-- theorems rest on a gap, and which: the public ones among the gapped theorems of the binary, in their order; all others are
-- proved
abbrev pub IsDraftPrinted : List ℕ → List ℕ → List ℕ → Type 0
IsDraftPrinted spec bin text = (counts : Counts) × (places : List ℕ) × DraftAccepts spec bin counts places × IsDraftSoundBut spec bin places × IsGapsTextOf spec counts.theorems places text

-- What is accepted with gaps agrees and is a legal draft, and each theorem that isn't gapped has a derivation without gaps,
-- over the statements before it, that cites no gapped theorem.
abbrev pub draft_says : (spec_name bin_name : List ℕ) → Said
draft_says spec_name bin_name = record {
  words = codes "draft" ∷ spec_name ∷ bin_name ∷ [];
  is_in_range = Unit {0};
  reads = spec_name ∷ bin_name ∷ [];
  puts = None;
  promise = λ file. Unit {0};
  yes = λ contents put text. OfTwo (λ spec bin. (put ≡ None) × IsDraftPrinted spec bin text) contents;
  no = λ contents text. OfTwo (λ spec bin. IsRefutedBy draft_standard spec bin text) contents;
  sound = λ contents. OfTwo IsDraftSound contents;
  begun = λ contents text. ⊥;
}
