-- The command `show BIN` of the program: what is said of the verifier's, and the way back (this project's own).
use Rattle.std.specs.Prelude.{ℕ, List}
use Rattle.mz_show.specs.Listing.{IsListing}
use Rattle.mz_asm.specs.Assembling.{IsNormal, IsBinaryOf}
use Rattle.mz_tool_engine.specs.Said.{Said, OfOne}
use Rattle.mz_tool_verify.specs.Show.{show_says}

-- the round trip: where the binary is in the normal layout, its listing is assembled to it
abbrev pub ReturnsTo : List ℕ → Type 0
ReturnsTo bin = IsNormal bin → (text : List ℕ) → IsListing bin text → IsBinaryOf text bin

-- The listing of a binary in the normal layout is assembled to it.
abbrev pub listed_says : (bin_name : List ℕ) → Said
listed_says bin_name = record (show_says bin_name) { sound = λ contents. OfOne ReturnsTo contents }
