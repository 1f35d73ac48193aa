-- From a listing to its binary, and back.
use Rattle.std.proofs.Common.{◌<◌, ◌^◌, ◌∙◌, List, [], ℕ, length, ap, arith, inl, sym, subst}
use Rattle.mz_layout_tables.specs.Normal.{file_length, file_of}
use Rattle.mz_layout_tables.proofs.Offered.{file-length}
use Rattle.mz_show.specs.Listing.{IsListing}
use Rattle.mz_show.specs.Tokens.{texts}
use Rattle.mz_show.proofs.Offered.{text-unique}
use Rattle.mz_asm.specs.Assembling.{IsNormal, IsBinaryOf, IsAssembly, IsListedBack, GivesBack}
use Rattle.mz_asm.proofs.Plain.{IsMade}
use Rattle.mz_asm.proofs.NormalChain.{by-bytes}
use Rattle.mz_asm.proofs.WholeFile.{in-range}
use Rattle.mz_asm.specs.Rows.{no_rows}
use Rattle.mz_asm.specs.Statements.{listing_lines, parts_of}
use Rattle.mz_asm.specs.declared.assembled.Assembled.{Assembled}
use Rattle.mz_asm.specs.declared.assembled.Assembled.TheVariants as answers
use Rattle.mz_asm.proofs.LineTexts.{line_text}
use Rattle.mz_asm.proofs.Listable.{has-lines, plain-lines}
use Rattle.mz_asm.proofs.OneAnswer.{listing-breaks-none, one-listing}
use Rattle.mz_asm.proofs.Shown.{is-listed}

pub listed : (text file : List ℕ) → IsBinaryOf text file → IsListing file text
listed text file (ss, says, is, short) = subst (λ (f : List ℕ). IsListing f text) (sym is) (is-listed text ss says short)

pub normal : (text file : List ℕ) → IsBinaryOf text file → IsNormal file
normal text file (ss, says, is, short) =
    let many = ap length is ∙ file-length (parts_of ss) in
    by-bytes file (omega (arith, many, short)) (record { statements = ss; fitting = says.fitting; plain = plain-lines text (listing_lines ss) [] says.lines; file_is = is })

-- a normal file has a listing, whose binary it is
pub assembled : (file : List ℕ) → IsNormal file → length file < 2 ^ 32 → (text : List ℕ) × IsBinaryOf text file
assembled file normal short =
    let made : IsMade file = in-range file normal.bytes normal in
    let ss = made.statements in
    let many = ap length made.file_is ∙ file-length (parts_of ss) in
    (texts line_text (listing_lines ss), (ss, record { lines = has-lines (listing_lines ss) no_rows made.fitting made.plain; fitting = made.fitting }, made.file_is, omega (arith, many, short)))

-- of which it is the only one
pub from-listing : (text file : List ℕ) → IsNormal file → length file < 2 ^ 32 → IsListing file text → IsBinaryOf text file
from-listing text file is short listing =
    let made = assembled file is short in
    subst (λ t. IsBinaryOf t file) (text-unique file made.0 text (inl (listed made.0 file made.1)) (inl listing)) made.1

-- ---- what is answered

pub answers-listed : (text : List ℕ) (answer : Assembled) → IsAssembly text answer → IsListedBack text answer
answers-listed text (answers.Bytes bytes) of = (normal text bytes.items of, listed text bytes.items of)
answers-listed text _ of = tt

pub answers-back : (text file : List ℕ) (answer : Assembled) → IsBinaryOf text file → IsAssembly text answer → GivesBack file answer
answers-back text file (answers.Bytes bytes) (ss, says, is, short) (ts, others, same, few) = same ∙ ap file_of (one-listing text ts ss others says) ∙ sym is
answers-back text file (answers.Refused line rule) (ss, says, is, short) breaks = listing-breaks-none text ss line rule says breaks
answers-back text file (answers.Limit count) (ss, says, is, short) (ts, others, long, many) =
    omega (arith, short, many, long ∙ ap file_length (one-listing text ts ss others says))
answers-back text file answers.Mem of answer = tt
