-- Laws of assembling.
use Rattle.std.specs.Prelude.{◌≡◌, ◌<◌, ◌^◌, ◌⊎◌, ◌↔◌, ℕ, Bool, List, length}
use Rattle.mz_emit_theory.specs.Compiling.{CompilesTo}
use Rattle.mz_show.specs.Listing.{IsListing}
use Rattle.mz_asm.specs.declared.rule.A.{A}
use Rattle.mz_asm.specs.Assembling.{IsBinaryOf, IsNormal, IsTooLong, Breaks}

-- exactly one answer fits a text
pub record HasOneAnswer (text : List ℕ) : Type 0 where
  pub some_answer : ((file : List ℕ) × IsBinaryOf text file) ⊎ ((n : ℕ) × IsTooLong text n) ⊎ ((n : ℕ) × (r : A) × Breaks text n r)
  pub one_binary : (a b : List ℕ) → IsBinaryOf text a → IsBinaryOf text b → a ≡ b
  pub one_length : (m n : ℕ) → IsTooLong text m → IsTooLong text n → m ≡ n
  pub one_fault : (m n : ℕ) (q r : A) → Breaks text m q → Breaks text n r → (m ≡ n) × (q ≡ r)
  pub not_refused : (file : List ℕ) (n : ℕ) (r : A) → IsBinaryOf text file → Breaks text n r → ⊥
  pub not_limited : (file : List ℕ) (n : ℕ) → IsBinaryOf text file → IsTooLong text n → ⊥
  pub not_both : (m n : ℕ) (r : A) → IsTooLong text m → Breaks text n r → ⊥

-- what a text is assembled to is in the normal layout, and is listed with the text
abbrev pub BinariesAreListed : Type 0
BinariesAreListed = (text file : List ℕ) → IsBinaryOf text file → IsNormal file × IsListing file text

-- each file in the normal layout has a listing, if it isn't too long, and it is what its listing is assembled to
abbrev pub NormalFilesAreListed : Type 0
NormalFilesAreListed = (file : List ℕ) → IsNormal file → length file < 2 ^ 32 → (text : List ℕ) × IsListing file text

abbrev pub ListingsAreAssembled : Type 0
ListingsAreAssembled = (text file : List ℕ) → IsNormal file → length file < 2 ^ 32 → IsListing file text → IsBinaryOf text file

-- a file of at most 4,294,967,295 bytes is in the normal layout, by its bytes, exactly where some text is assembled to it
abbrev pub NormalFilesAreBinaries : Type 0
NormalFilesAreBinaries = (file : List ℕ) → length file < 2 ^ 32 → IsNormal file ↔ ((text : List ℕ) × IsBinaryOf text file)

-- what a proof text compiles to is in the normal layout; so it has a listing, and comes back from it
abbrev pub CompiledFilesAreNormal : Type 0
CompiledFilesAreNormal = (gaps : Bool) (text bytes : List ℕ) → CompilesTo gaps text bytes → IsNormal bytes
