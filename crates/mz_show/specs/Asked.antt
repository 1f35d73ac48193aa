-- What a listing asks of the sink, by what came of it (this project's own).
use Rattle.std.specs.Prelude.{◌≡◌, ◌++◌, ℕ, List}
use Rattle.mz_io.specs.Calls.{Call, IsWritten, IsCut}
use Rattle.mz_show.specs.Listing.{IsListing, IsListedUpTo, IsListed}
use Rattle.mz_show.specs.declared.writing.Shown.{Shown}
use Rattle.mz_show.specs.declared.writing.Shown.TheVariants as shown

-- a prefix of the text was handed over and taken, in pieces, and nothing more was
pub record IsBegunText (text : List ℕ) (calls : List Call) : Type 0 where
  pub front : List ℕ
  pub rest : List ℕ
  pub text_is : text ≡ front ++ rest
  pub written : IsWritten front calls

abbrev pub IsShowing : List ℕ → Shown → List Call → Type 0
-- the listing is written whole
IsShowing file shown.Done calls = (text : List ℕ) × IsListing file text × IsWritten text calls
-- it is written up to the refusal
IsShowing file (shown.Refused refusal) calls = (text : List ℕ) × IsListedUpTo file text refusal × IsWritten text calls
-- it is written up to a call that failed
IsShowing file shown.Fault calls = (text : List ℕ) × IsListed file text × IsCut text calls
-- a prefix of it is written
IsShowing file shown.Mem calls = (text : List ℕ) × IsListed file text × IsBegunText text calls
