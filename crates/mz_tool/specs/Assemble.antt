-- The command `assemble LIST OUT`: all that is said of it (this project's own).
use Rattle.std.specs.Prelude.{◌≡◌, ◌⊎◌, ◌<◌, ◌^◌, ℕ, List, [], ◌∷◌, length, Option, Some, codes}
use Rattle.mz_show.specs.Listing.{IsListing}
use Rattle.mz_asm.specs.declared.rule.A.{A}
use Rattle.mz_asm.specs.Spoken.{bytes_line, refusal_line, limit_line}
use Rattle.mz_asm.specs.Assembling.{IsBinaryOf, IsNormal, Breaks, IsTooLong}
use Rattle.mz_tool_engine.specs.Said.{Said, OfOne}

-- yes: the text is a listing, and the bytes, which are put, are the binary of the statements that it says
abbrev pub IsAssembledTo : List ℕ → Option (List ℕ) → List ℕ → Type 0
IsAssembledTo text put line = (bin : List ℕ) × (put ≡ Some bin) × IsBinaryOf text bin × (line ≡ bytes_line (length bin))

-- no: one of its lines breaks a rule, or it is a listing and its binary would be too long
abbrev pub IsNotAssembled : List ℕ → List ℕ → Type 0
IsNotAssembled text line =
    ((number : ℕ) × (rule : A) × Breaks text number rule × (line ≡ refusal_line number rule))
    ⊎ ((count : ℕ) × IsTooLong text count × (line ≡ limit_line count))

-- the text is the listing of this file, which is in the normal layout and has at most 4,294,967,295 bytes
abbrev pub IsListingOfNormal : List ℕ → List ℕ → Type 0
IsListingOfNormal text file = IsNormal file × (length file < 2 ^ 32) × IsListing file text

-- the round trip: what the text is assembled to is in the normal layout, and this is its listing; and each file in the normal
-- layout of which it is the listing is what it is assembled to
pub record ReturnsFrom (text : List ℕ) : Type 0 where
  pub listed : (file : List ℕ) → IsBinaryOf text file → IsListingOfNormal text file
  pub back : (file : List ℕ) → IsListingOfNormal text file → IsBinaryOf text file

-- What is assembled has the text for its listing, and a text that isn't assembled is the listing of no file in the normal layout.
abbrev pub assemble_says : (listing_name out_name : List ℕ) → Said
assemble_says listing_name out_name = record {
  words = codes "assemble" ∷ listing_name ∷ out_name ∷ [];
  is_in_range = Unit {0};
  reads = listing_name ∷ [];
  puts = Some out_name;
  promise = λ file. Unit {0};
  yes = λ contents put text. OfOne (λ listing. IsAssembledTo listing put text) contents;
  no = λ contents text. OfOne (λ listing. IsNotAssembled listing text × ((file : List ℕ) → IsListingOfNormal listing file → ⊥)) contents;
  sound = λ contents. OfOne ReturnsFrom contents;
  begun = λ contents text. ⊥;
}
