-- What comes of a listing: it is assembled, or one of its lines breaks a rule, or its binary would be too long.
use Rattle.std.proofs.Common.{◌≡◌, ◌≤◌, ◌∙◌, ℕ, List, Option, Some, length, ap, inl, inr, refl, arith}
use Rattle.mz_layout_tables.specs.Normal.{file_length}
use Rattle.mz_layout_tables.proofs.Offered.{file-length}
use Rattle.mz_asm.specs.declared.assembled.Assembled.{Assembled}
use Rattle.mz_asm.specs.declared.assembled.Assembled.TheVariants as answers
use Rattle.mz_asm.specs.Statements.{parts_of}
use Rattle.mz_asm.specs.Spoken.{line_of, bytes_line}
use Rattle.mz_asm.specs.Assembling.{IsAssembly, IsBinaryOf}
use Rattle.mz_asm.specs.Laws.{HasOneAnswer, BinariesAreListed, ListingsAreAssembled}
use Rattle.mz_tool_engine.specs.Run.{longest}
use Rattle.mz_tool_engine.specs.Outcomes.{IfNo, OnNo}
use Rattle.mz_tool_engine.specs.declared.outcome.Outcome.{Outcome}
use Rattle.mz_tool_engine.specs.declared.outcome.Outcome.TheVariants as outcomes
use Rattle.mz_tool.specs.Assemble.{IsAssembledTo, IsNotAssembled, IsListingOfNormal, ReturnsFrom}

-- a binary is no longer than a file that is read
pub short-assembled : (text bin : List ℕ) → IsBinaryOf text bin → length bin ≤ longest
short-assembled text bin (ss, says, is, short) =
    let long : length bin ≡ file_length (parts_of ss) = ap length is ∙ file-length (parts_of ss) in
    omega (arith, short, long)

-- the round trip
pub returns-from : BinariesAreListed → ListingsAreAssembled → (text : List ℕ) → ReturnsFrom text
returns-from listed assembled text = record {
  listed = λ file binary.
      let short : length file ≤ longest = short-assembled text file binary in
      let back = listed text file binary in
      (back.0, omega (arith, short), back.1);
  back = λ file lists. assembled text file lists.0 lists.1 lists.2;
}

module _ (text : List ℕ) (one : HasOneAnswer text) where
  pub is-not-assembled : (a : Assembled) (line : List ℕ) → IsAssembly text a → ((bytes : _) → a ≡ answers.Bytes bytes → ⊥) → (a ≡ answers.Mem → ⊥) → line ≡ line_of a → IsNotAssembled text line
  is-not-assembled (answers.Bytes bytes) line is other some same = absurd (other bytes refl)
  is-not-assembled (answers.Refused number rule) line is other some same = inl (number, rule, is, same)
  is-not-assembled (answers.Limit count) line is other some same = inr (count, is, same)
  is-not-assembled answers.Mem line is other some same = absurd (some refl)

  -- where the text is assembled, it isn't refused
  pub assembled-alone : (a : Assembled) → IsAssembly text a → ((bytes : _) → a ≡ answers.Bytes bytes → ⊥) → (a ≡ answers.Mem → ⊥)
      → (put : Option (List ℕ)) (line : List ℕ) → IsAssembledTo text put line → ⊥
  assembled-alone (answers.Bytes bytes) is other some put line (bin, puts, binary, same) = other bytes refl
  assembled-alone (answers.Refused number rule) is other some put line (bin, puts, binary, same) = one.not_refused bin number rule binary is
  assembled-alone (answers.Limit count) is other some put line (bin, puts, binary, same) = one.not_limited bin count binary is
  assembled-alone answers.Mem is other some put line (bin, puts, binary, same) = some refl

  -- then it lists no file in the normal layout
  pub lists-none : (a : Assembled) → IsAssembly text a → ((bytes : _) → a ≡ answers.Bytes bytes → ⊥) → (a ≡ answers.Mem → ⊥) → ListingsAreAssembled
      → (file : List ℕ) → IsListingOfNormal text file → ⊥
  lists-none a is other some assembled file (normal, short, listing) =
      assembled-alone a is other some (Some file) (bytes_line (length file)) (file, refl, assembled text file normal short listing, refl)

  -- where it is refused, it isn't assembled
  pub not-assembled-alone : (bin : List ℕ) → IsBinaryOf text bin → (line : List ℕ) → IsNotAssembled text line → ⊥
  not-assembled-alone bin binary line (inl (number, rule, breaks, same)) = one.not_refused bin number rule binary breaks
  not-assembled-alone bin binary line (inr (count, long, same)) = one.not_limited bin count binary long

-- what is said of each no, and more
pub no-both : (P : List ℕ → Type 0) (Q : Type 0) (o : Outcome) → IfNo o (λ line. P line) → OnNo o Q → IfNo o (λ line. P line × Q)
no-both P Q (outcomes.Yes put text) p q = tt
no-both P Q (outcomes.No text) p q = (p, q)
no-both P Q outcomes.Mem p q = tt
