-- The command `show BIN`: all that is said of it (this project's own).
use Rattle.std.specs.Prelude.{◌≡◌, ◌++◌, ℕ, List, [], ◌∷◌, None, codes}
use Rattle.mz_cmd.specs.declared.rule.Refusal.{Refusal}
use Rattle.mz_binary_theory.specs.RefusalLine.{refusal_line}
use Rattle.mz_show.specs.Listing.{IsListing, IsListedUpTo, IsListed}
use Rattle.mz_tool_engine.specs.Said.{Said, OfOne}

-- no: the listing stops, and the refusal's line follows what was listed
abbrev pub IsPartlyListed : List ℕ → List ℕ → Type 0
IsPartlyListed bin text = (listed : List ℕ) × (refusal : Refusal) × IsListedUpTo bin listed refusal × (text ≡ listed ++ refusal_line refusal)

-- A listing is written as it is made.
abbrev pub show_says : (bin_name : List ℕ) → Said
show_says bin_name = record {
  words = codes "show" ∷ bin_name ∷ [];
  is_in_range = Unit {0};
  reads = bin_name ∷ [];
  puts = None;
  promise = λ file. Unit {0};
  yes = λ contents put text. OfOne (λ bin. (put ≡ None) × IsListing bin text) contents;
  no = λ contents text. OfOne (λ bin. IsPartlyListed bin text) contents;
  sound = λ contents. Unit {0};
  begun = λ contents text. OfOne (λ bin. IsListed bin text) contents;
}
