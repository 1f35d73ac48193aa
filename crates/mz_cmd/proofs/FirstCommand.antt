-- What the front of some bytes is read as, from its first byte and what follows it.
use Rattle.std.proofs.Common.{◌≡◌, ℕ, zero, suc, ◌+◌, ◌-◌, ◌*◌, ◌/◌, ◌%◌, ◌<◌, ◌≤◌, List, [], ◌∷◌, length, take, drop, Some, None, Ok, Err, refl, ap, arith}
use Rattle.std.specs.Prelude.{slice_get, if◌then◌else◌}
use Rattle.std.proofs.lemmas.Bool.{le-ltb, lt-ltb}
use Rattle.std.proofs.lemmas.List.{take_all}
use Rattle.byteorder.specs.Endian.{little_number}
use Rattle.mz_cmd.specs.declared.command.CmdFault.TheVariants.{Cut, Unknown}
use Rattle.mz_cmd.specs.Codes.{is_known}
use Rattle.mz_cmd.specs.Spelling.{operand_len}
use Rattle.mz_cmd.specs.Reading.{first_command}

pub split-first : (bytes : List ℕ) (head : ℕ) → Some head ≡ slice_get bytes 0 → bytes ≡ head ∷ take (length bytes - 1) (drop 1 bytes)
split-first [] head e = absurd cc
split-first (byte ∷ rest) head e =
    let all : take (length (byte ∷ rest) - 1) rest ≡ rest = take_all _ rest (omega arith) in
    cc

pub nothing-read : (bytes : List ℕ) → None ≡ slice_get bytes 0 → Err Cut ≡ first_command bytes
nothing-read [] e = refl
nothing-read (byte ∷ rest) e = absurd cc

pub cut-read : (bytes operand : List ℕ) (head width : ℕ) → bytes ≡ head ∷ operand → operand_len (head / 64) ≡ width → length operand < width → Err Cut ≡ first_command bytes
cut-read bytes operand head width is w short = rw (is, w, lt-ltb _ _ short) refl

pub whole-read : (bytes operand : List ℕ) (head width value len : ℕ) → bytes ≡ head ∷ operand → operand_len (head / 64) ≡ width → width ≤ length operand → value ≡ little_number width operand → len ≡ width + 1
    → (if is_known (head % 64) then Ok (record { code = head % 64; value = value; len = len }) else Err Unknown) ≡ first_command bytes
whole-read bytes operand head width value len is w long v l = rw (is, w, le-ltb _ _ long, v, l) refl

sized : (head size : ℕ) → 64 * size ≤ head → head < 64 * size + 64 → head / 64 ≡ size
sized head size low high = omega arith

pub width-0 : (head : ℕ) → head < 64 → operand_len (head / 64) ≡ 0
width-0 head h = ap operand_len (sized head 0 (omega arith) (omega arith))

pub width-1 : (head : ℕ) → 64 ≤ head → head < 128 → operand_len (head / 64) ≡ 1
width-1 head l h = ap operand_len (sized head 1 (omega arith) (omega arith))

pub width-2 : (head : ℕ) → 128 ≤ head → head < 192 → operand_len (head / 64) ≡ 2
width-2 head l h = ap operand_len (sized head 2 (omega arith) (omega arith))

widest : (size : ℕ) → 2 < size → operand_len size ≡ 4
widest zero h = absurd (omega arith)
widest (suc zero) h = absurd (omega arith)
widest (suc (suc zero)) h = absurd (omega arith)
widest (suc (suc (suc size))) h = refl

pub width-4 : (head : ℕ) → 192 ≤ head → operand_len (head / 64) ≡ 4
width-4 head l = widest (head / 64) (omega arith)
