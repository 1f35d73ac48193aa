-- Runs of commands by turns: each command takes a byte, so that a bound never ends a run.
use Rattle.std.proofs.Common.{◌≡◌, ℕ, suc, ◌+◌, ◌≤◌, Bool, true, false, cond, List, [], ◌∷◌, length, drop, Result, Ok, Err, refl, ap, arith, ltb-false}
use Rattle.std.specs.Prelude.{◌/◌, ◌%◌, nat_lt}
use Rattle.std.proofs.lemmas.List.{length-drop}
use Rattle.byteorder.specs.Endian.{little_number}
use Rattle.mz_cmd.specs.declared.rule.K.{K}
use Rattle.mz_cmd.specs.declared.command.Cmd.{Cmd}
use Rattle.mz_cmd.specs.declared.command.CmdFault.{CmdFault}
use Rattle.mz_cmd.specs.declared.command.CmdFault.TheVariants.{Cut, Unknown}
use Rattle.mz_cmd.specs.Codes.{is_known}
use Rattle.mz_cmd.specs.Spelling.{operand_len}
use Rattle.mz_cmd.specs.Reading.{first_command}
use Rattle.mz_machine_theory.specs.Steps.{at_place, Turn, over, goes_on, follow, goes_to, if_read}

abbrev read : Cmd → Result Cmd CmdFault
read c = Ok c

cmd-is : (x y : Cmd) → read x ≡ read y → x ≡ y
cmd-is x y e = cc

-- a command takes a byte at least, and no more than there are
pub command-long : (bytes : List ℕ) (c : Cmd) → first_command bytes ≡ Ok c → (1 ≤ c.len) × (c.len ≤ length bytes)
command-long [] c e = absurd cc
command-long (head ∷ rest) c e = go (nat_lt (length rest) (operand_len (head / 64))) refl (is_known (head % 64)) e
  where
    made : Cmd
    made = record { code = head % 64; value = little_number (operand_len (head / 64)) rest; len = operand_len (head / 64) + 1 }

    go : (p : Bool) → nat_lt (length rest) (operand_len (head / 64)) ≡ p → (q : Bool) → cond p (Err Cut) (cond q (Ok made) (Err Unknown)) ≡ Ok c → (1 ≤ c.len) × (c.len ≤ length (head ∷ rest))
    go true is q h = absurd cc
    go false is false h = absurd cc
    go false is true h =
        let len-is : made.len ≡ c.len = ap (λ (x : Cmd). x.len) (cmd-is made c h) in
        (omega arith, omega (arith, ltb-false (length rest) (operand_len (head / 64)) is))

-- and lies within the stream
pub further : (stream : List ℕ) (at : ℕ) (c : Cmd) → first_command (drop at stream) ≡ Ok c → at ≤ length stream → (1 ≤ c.len) × (at + c.len ≤ length stream)
further stream at c read le =
    let (one, within) = command-long (drop at stream) c read in
    (one, omega (arith, within, length-drop at stream))

-- what follows a turn is the same where the rests agree on what it goes on to
pub follow-same : {S : Type 0} (at : ℕ) (r : Result (Turn S) K) (f g : ℕ → S → Result S (ℕ × K))
    → ((len : ℕ) (s : S) → r ≡ Ok (goes_on len s) → f len s ≡ g len s) → follow (at_place at r) f ≡ follow (at_place at r) g
follow-same at (Err k) f g same = refl
follow-same at (Ok (over s)) f g same = refl
follow-same at (Ok (goes_on len s)) f g same = same len s refl

-- what is counted after a turn, and that the turn is bounded
pub goes_to-le : {S F : Type 0} (r : Result (Turn S) F) (f : ℕ → S → ℕ) (n : ℕ)
    → ((len : ℕ) (s : S) → r ≡ Ok (goes_on len s) → f len s ≤ n) → goes_to r f ≤ n
goes_to-le (Err k) f n le = omega arith
goes_to-le (Ok (over s)) f n le = omega arith
goes_to-le (Ok (goes_on len s)) f n le = le len s refl

pub if_read-le : {A F : Type 0} (r : Result A F) (f : A → ℕ) (n : ℕ) → ((x : A) → r ≡ Ok x → f x ≤ n) → if_read r f ≤ n
if_read-le (Err k) f n le = omega arith
if_read-le (Ok x) f n le = le x refl

-- the same is counted where the rests agree on what it goes on to
pub goes_to-same : {S F : Type 0} (r : Result (Turn S) F) (f g : ℕ → S → ℕ)
    → ((len : ℕ) (s : S) → r ≡ Ok (goes_on len s) → f len s ≡ g len s) → goes_to r f ≡ goes_to r g
goes_to-same (Err k) f g same = refl
goes_to-same (Ok (over s)) f g same = refl
goes_to-same (Ok (goes_on len s)) f g same = same len s refl

pub if_read-same : {A F : Type 0} (r : Result A F) (f g : A → ℕ) → ((x : A) → r ≡ Ok x → f x ≡ g x) → if_read r f ≡ if_read r g
if_read-same (Err k) f g same = refl
if_read-same (Ok x) f g same = same x refl

-- less is left after a command
pub drop-less : (bytes : List ℕ) (len n : ℕ) → 1 ≤ len → length bytes ≤ suc n → length (drop len bytes) ≤ n
drop-less bytes len n one le = omega (arith, length-drop len bytes)
