-- What a listing can say: plain lines, and files that are made of them.
use Rattle.std.proofs.Common.{◌≡◌, ◌<◌, ◌^◌, false, List, [], ◌∷◌, ℕ}
use Rattle.std.specs.Prelude.{⊤}
use Rattle.mz_layout_tables.specs.Normal.{file_of}
use Rattle.mz_show.specs.Tokens.{unify_has_number, proof_has_number}
use Rattle.mz_asm.specs.declared.line.Line.{Line}
use Rattle.mz_asm.specs.declared.line.Line.TheVariants as lines
use Rattle.mz_asm.specs.Rows.{no_rows}
use Rattle.mz_asm.specs.Statements.{Statement, listing_lines, parts_of}
use Rattle.mz_asm.specs.Assembling.{AreFitting}

-- words have 64 bits, and a command whose number isn't listed has no operand
abbrev pub IsPlain : Line → Type 0
IsPlain (lines.Param w) = w.0 < 2 ^ 64
IsPlain (lines.Outcome w) = w.0 < 2 ^ 64
IsPlain (lines.Unify code value) = unify_has_number code ≡ false → value ≡ 0
IsPlain (lines.Proof code value) = proof_has_number code ≡ false → value ≡ 0
IsPlain _ = ⊤

abbrev pub ArePlain : List Line → Type 0
ArePlain [] = ⊤
ArePlain (l ∷ ls) = IsPlain l × ArePlain ls

-- the file is made of statements whose rows come in order and whose numbers aren't too large, each command spelled as short as
-- it can be, with operands only where the listing has numbers
pub record IsMade (file : List ℕ) : Type 0 where
  pub statements : List Statement
  pub fitting : AreFitting no_rows (listing_lines statements)
  pub plain : ArePlain (listing_lines statements)
  pub file_is : file ≡ file_of (parts_of statements)
