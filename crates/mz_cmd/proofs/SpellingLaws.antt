-- What is spelled is read again, whatever follows it, and no spelling begins another.
use Rattle.std.proofs.Common.{◌≡◌, ℕ, ◌+◌, ◌*◌, ◌^◌, ◌<◌, ◌/◌, ◌%◌, Bool, true, false, cond, ltb, List, ◌++◌, length, take, Result, Ok, refl, sym, ap, ◌∙◌, arith}
use Rattle.std.specs.Prelude.{IsTrue, nat_lt, ◌==◌}
use Rattle.std.proofs.lemmas.Bool.{eqb-true, le-ltb, ltb-true}
use Rattle.std.proofs.lemmas.Bool.Decides.{nat_tests}
use Rattle.std.proofs.lemmas.List.{take_at, length-append}
use Rattle.byteorder.specs.Endian.{little_bytes}
use Rattle.byteorder.specs.Numbers.{little_number-reads_back, length-bytes_low_first}
use Rattle.mz_cmd.specs.declared.command.Cmd.{Cmd}
use Rattle.mz_cmd.specs.declared.command.CmdFault.{CmdFault}
use Rattle.mz_cmd.specs.Codes.{is_known}
use Rattle.mz_cmd.specs.Spelling.{operand_len, shortest_size, shortest, spelling, Spells}
use Rattle.mz_cmd.specs.Reading.{first_command}

known-lt : (c : ℕ) → IsTrue (is_known c) → c < 64
known-lt c h = grind (arith, nat_tests)

head-size : (size code : ℕ) → code < 64 → (64 * size + code) / 64 ≡ size
head-size size code h = omega arith

head-code : (size code : ℕ) → code < 64 → (64 * size + code) % 64 ≡ code
head-code size code h = omega arith

again : (size code value : ℕ) (rest : List ℕ) → IsTrue (is_known code) → value < 256 ^ operand_len size → first_command (spelling size code value ++ rest) ≡ Ok (record { code = code; value = value; len = operand_len size + 1 })
again size code value rest known fits =
    let n : ℕ = operand_len size in
    let lt : code < 64 = known-lt code known in
    let long : ltb (length (little_bytes n value ++ rest)) n ≡ false = le-ltb _ _ (omega (arith, length-append (little_bytes n value) rest, length-bytes_low_first 0 n value)) in
    rw (head-size size code lt, head-code size code lt, long, known, little_number-reads_back n value rest fits) refl

length-spelled : (size code value : ℕ) → length (spelling size code value) ≡ operand_len size + 1
length-spelled size code value = omega (arith, length-bytes_low_first 0 (operand_len size) value)

-- what is spelled is read again, whatever follows it
pub Spells-again : (bytes rest : List ℕ) (code value : ℕ) → Spells bytes code value → first_command (bytes ++ rest) ≡ Ok (record { code = code; value = value; len = length bytes })
Spells-again bytes rest code value s =
    let shape : (bs : List ℕ) → bs ≡ spelling s.size code value → first_command (bs ++ rest) ≡ Ok (record { code = code; value = value; len = length bs }) =
    λ bs e. rw (e, length-spelled s.size code value) (again s.size code value rest s.known s.value_fits) in
    shape bytes s.bytes_are

abbrev found : Cmd → Result Cmd CmdFault
found c = Ok c

pub found-is : (c d : Cmd) → found c ≡ found d → c ≡ d
found-is c d e = cc

-- no command's spelling begins another's
pub Spells-one : (a b x y : List ℕ) (code value code' value' : ℕ) → Spells a code value → Spells b code' value' → a ++ x ≡ b ++ y → (a ≡ b) × (code ≡ code') × (value ≡ value')
Spells-one a b x y code value code' value' s t e =
    let same : found (record { code = code; value = value; len = length a }) ≡ found (record { code = code'; value = value'; len = length b }) = sym (Spells-again a x code value s) ∙ ap first_command e ∙ Spells-again b y code' value' t in
    let one = found-is _ _ same in
    let front : a ≡ b = sym (take_at a x (length a) refl) ∙ ap (λ (z : List ℕ). take (length a) z) e ∙ take_at b y (length a) (sym (ap (λ (c : Cmd). c.len) one)) in
    (front, ap (λ (c : Cmd). c.code) one, ap (λ (c : Cmd). c.value) one)

-- the shortest spelling of a command spells it
pub shortest-spells : (c v : ℕ) → IsTrue (is_known c) → v < 2 ^ 32 → Spells (shortest c v) c v
shortest-spells c v known lt = record { size = shortest_size v; size_fits = small (v == 0) (nat_lt v 256) (nat_lt v 65536); known = known; value_fits = holds (v == 0) refl (nat_lt v 256) refl (nat_lt v 65536) refl; bytes_are = refl }
  where
    small : (a b d : Bool) → cond a 0 (cond b 1 (cond d 2 3)) < 4
    small true b d = omega arith
    small false true d = omega arith
    small false false true = omega arith
    small false false false = omega arith

    holds : (a : Bool) → (v == 0) ≡ a → (b : Bool) → nat_lt v 256 ≡ b → (d : Bool) → nat_lt v 65536 ≡ d → v < 256 ^ operand_len (cond a 0 (cond b 1 (cond d 2 3)))
    holds true a-is b b-is d d-is = let is : v ≡ 0 = eqb-true _ _ a-is in omega arith
    holds false a-is true b-is d d-is = let lt : v < 256 = ltb-true _ _ b-is in lt
    holds false a-is false b-is true d-is = let lt : v < 65536 = ltb-true _ _ d-is in lt
    holds false a-is false b-is false d-is = lt
