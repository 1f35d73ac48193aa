-- A command is read exactly where its spelling stands.
use Rattle.std.proofs.Common.{◌≡◌, ℕ, zero, suc, ◌+◌, ◌*◌, ◌^◌, ◌<◌, ◌≤◌, ◌/◌, ◌%◌, Bool, true, false, cond, ltb, List, [], ◌∷◌, ◌++◌, length, take, drop, get_or, Result, Ok, Err, refl, sym, ap, subst, ◌∙◌, arith, add-one, inl, inr}
use Rattle.std.specs.Prelude.{◌↔◌}
use Rattle.std.proofs.lemmas.Bool.{ltb-false, ltb-true}
use Rattle.std.proofs.lemmas.List.{length-take-le, take-append-drop}
use Rattle.byteorder.specs.Endian.{little_bytes, little_number}
use Rattle.byteorder.specs.Numbers.{little_from-cons, little_from-lt}
use Rattle.std.specs.Int.{byte_at, bytes_low_first}
use Rattle.std.proofs.Math.Nat.{pow-suc, div-one, div-div-eq-div-mul}
use Rattle.mz_base.specs.Checks.{Judges}
use Rattle.mz_cmd.specs.declared.command.Cmd.{Cmd}
use Rattle.mz_cmd.specs.declared.command.CmdFault.{CmdFault}
use Rattle.mz_cmd.specs.declared.command.CmdFault.TheVariants.{Cut, Unknown}
use Rattle.mz_cmd.specs.Codes.{is_known}
use Rattle.mz_cmd.specs.Spelling.{operand_len, spelling, Spells}
use Rattle.mz_cmd.specs.Reading.{BeginsWith, command_checks, first_command}
use Rattle.mz_cmd.proofs.SpellingLaws.{Spells-again}

abbrev pub IsBytes : List ℕ → Type 0
IsBytes bytes = (i : ℕ) → get_or bytes i 0 < 256

byte_at-pow : (k x : ℕ) → byte_at k x ≡ x / 256 ^ k % 256
byte_at-pow zero x = ap (λ (y : ℕ). y % 256) (sym (div-one x))
byte_at-pow (suc k) x = refl

-- the bytes of the number that k bytes make are these bytes
low-bytes : (k j x : ℕ) (xs : List ℕ) → IsBytes xs → k ≤ length xs → x / 256 ^ j ≡ little_number k xs → bytes_low_first j k x ≡ take k xs
low-bytes zero j x xs fits long e = refl
low-bytes (suc k) j x [] fits long e = absurd (omega arith)
low-bytes (suc k) j x (a ∷ xs) fits long e =
    let rest-fits : IsBytes xs = λ i. fits (suc i) in
    let a-fits : a < 256 = fits 0 in
    let sum : x / 256 ^ j ≡ a + 256 * little_number k xs = e ∙ ap (λ (r : ℕ). a + 256 * r) (little_from-cons 0 k a xs) in
    let first : byte_at j x ≡ a = byte_at-pow j x ∙ (omega arith) in
    let below : x / 256 ^ suc j ≡ little_number k xs = ap (λ (p : ℕ). x / p) (pow-suc 256 j) ∙ sym (div-div-eq-div-mul x (256 ^ j) 256) ∙ (omega arith) in
    rw (first, low-bytes k (suc j) x xs rest-fits (omega arith) below) refl

head-parts : (head : ℕ) → 64 * (head / 64) + head % 64 ≡ head
head-parts head = omega arith

-- a test that let something through
guard_ok : {A : Type 0} (b : Bool) (d : CmdFault) (r : Result A CmdFault) (y : A) → cond b (Err d) r ≡ Ok y → (b ≡ false) × (r ≡ Ok y)
guard_ok true d r y e = absurd cc
guard_ok false d r y e = (refl, e)

pass_ok : {A : Type 0} (b : Bool) (d : CmdFault) (x y : A) → cond b (Ok x) (Err d) ≡ Ok y → (b ≡ true) × (x ≡ y)
pass_ok true d x y e = (refl, cc)
pass_ok false d x y e = absurd cc

-- what is read stands there
pub first-begins : (bytes : List ℕ) (c : Cmd) → IsBytes bytes → first_command bytes ≡ Ok c → BeginsWith bytes c
first-begins [] c fits e = absurd cc
first-begins (head ∷ rest) c fits e =
    let n : ℕ = operand_len (head / 64) in
    let made : Cmd = record { code = head % 64; value = little_number n rest; len = n + 1 } in
    let long = guard_ok (ltb (length rest) n) Cut (cond (is_known (head % 64)) (Ok made) (Err Unknown)) c e in
    let known = pass_ok (is_known (head % 64)) Unknown made c long.1 in
    let room : n ≤ length rest = ltb-false _ _ long.0 in
    let rest-fits : IsBytes rest = λ i. fits (suc i) in
    let head-fits : head < 256 = fits 0 in
    let operand : little_bytes n (little_number n rest) ≡ take n rest = low-bytes n 0 (little_number n rest) rest rest-fits room (div-one _) in
    let front : take (n + 1) (head ∷ rest) ≡ spelling (head / 64) (head % 64) (little_number n rest) = rw (add-one, operand, head-parts head) refl in
    let spells : Spells (take made.len (head ∷ rest)) made.code made.value = record { size = head / 64; size_fits = omega arith; known = known.0; value_fits = little_from-lt 0 n rest rest-fits; bytes_are = front } in
    subst (λ (d : Cmd). BeginsWith (head ∷ rest) d) known.1 (record { whole = omega arith; spelled = spells })

-- what stands there is read
pub begins-first : (bytes : List ℕ) (c : Cmd) → BeginsWith bytes c → first_command bytes ≡ Ok c
begins-first bytes c b =
    let again = Spells-again (take c.len bytes) (drop c.len bytes) c.code c.value b.spelled in
    let parts : take c.len bytes ++ drop c.len bytes ≡ bytes = take-append-drop c.len bytes in
    let long : length (take c.len bytes) ≡ c.len = length-take-le c.len bytes b.whole in
    ap first_command (sym parts) ∙ again ∙ ap (λ (n : ℕ). Ok (record { code = c.code; value = c.value; len = n })) long

-- the answer is the first check's that fails
pub first-judged : (bytes : List ℕ) → Judges (first_command bytes) (command_checks bytes)
first-judged [] = inl (λ p. p tt, refl)
first-judged (head ∷ rest) = go (ltb (length rest) (operand_len (head / 64))) (is_known (head % 64)) refl refl
  where
    made : Cmd
    made = record { code = head % 64; value = little_number (operand_len (head / 64)) rest; len = operand_len (head / 64) + 1 }

    go : (cut known : Bool) → ltb (length rest) (operand_len (head / 64)) ≡ cut → is_known (head % 64) ≡ known → Judges (cond cut (Err Cut) (cond known (Ok made) (Err Unknown))) (command_checks (head ∷ rest))
    go true known e f = inl (λ whole. whole (ltb-true _ _ e), refl)
    go false true e f = (λ is_cut. absurd (omega (arith, ltb-false _ _ e)), (f, tt))
    go false false e f = inr (λ is_cut. absurd (omega (arith, ltb-false _ _ e)), inl (λ known. absurd cc, refl))

-- the same of an answer that is known to be the computed one

abbrev pub IsReadFrom : Result Cmd CmdFault → List ℕ → Type 0
IsReadFrom r bytes = (c : Cmd) → (r ≡ Ok c) ↔ BeginsWith bytes c

pub stands : (bytes : List ℕ) (r : Result Cmd CmdFault) → IsBytes bytes → r ≡ first_command bytes → IsReadFrom r bytes
stands bytes r fits e c = (λ is. first-begins bytes c fits (sym e ∙ is), λ begins. e ∙ begins-first bytes c begins)

pub judged : (bytes : List ℕ) (r : Result Cmd CmdFault) → r ≡ first_command bytes → Judges r (command_checks bytes)
judged bytes r e = subst (λ (q : Result Cmd CmdFault). Judges q (command_checks bytes)) (sym e) (first-judged bytes)
