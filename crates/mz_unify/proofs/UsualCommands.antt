-- A command that is told by its first byte.
use Rattle.std.proofs.Common.{◌≡◌, ℕ, ◌+◌, ◌*◌, ◌/◌, ◌%◌, ◌≤◌, true, List, [], ◌∷◌, get_or, length, Some, Ok, refl, ap, ◌∙◌, arith}
use Rattle.std.proofs.lemmas.Bool.{le-ltb}
use Rattle.mz_cmd.specs.Codes.{is_known}
use Rattle.mz_cmd.specs.Spelling.{operand_len}
use Rattle.mz_cmd.specs.Reading.{first_command}
use Rattle.mz_machine_theory.specs.Streams.{unify_command}
use Rattle.mz_machine_theory.specs.UnifyMachine.{UnifyMode as Mode, kind_of}
use Rattle.mz_unify.specs.Rows.{command_of, IsNext}
use Rattle.mz_unify.specs.declared.command.Command.{Command}

parts : (bytes : List ℕ) → 3 ≤ length bytes → (rest : List ℕ) × (bytes ≡ get_or bytes 0 0 ∷ get_or bytes 1 0 ∷ get_or bytes 2 0 ∷ rest)
parts [] long = absurd (omega arith)
parts (a ∷ []) long = absurd (omega arith)
parts (a ∷ b ∷ []) long = absurd (omega arith)
parts (a ∷ b ∷ d ∷ rest) long = (rest, refl)

-- at least two bytes follow the first one: what the size of the operand says of them is the operand
module _ (bytes : List ℕ) (head : ℕ) (long : 3 ≤ length bytes) (is : get_or bytes 0 0 ≡ head) (known : is_known (head % 64) ≡ true) where
  pub told-0 : operand_len (head / 64) ≡ 0 → first_command bytes ≡ Ok (record { code = head % 64; value = 0; len = 1 })
  told-0 w = let (rest, are) = parts bytes long in ap first_command are ∙ rw (is, w, le-ltb (length (0 ∷ 0 ∷ rest)) 0 (omega arith), known) refl

  pub told-1 : (value : ℕ) → operand_len (head / 64) ≡ 1 → value ≡ get_or bytes 1 0 → first_command bytes ≡ Ok (record { code = head % 64; value = value; len = 2 })
  told-1 value w low =
      let (rest, are) = parts bytes long in
      ap first_command are ∙ rw (is, w, le-ltb (length (0 ∷ 0 ∷ rest)) 1 (omega arith), known) (ap (λ v. Ok (record { code = head % 64; value = v; len = 2 })) (omega (arith, low)))

  pub told-2 : (low high : ℕ) → operand_len (head / 64) ≡ 2 → low ≡ get_or bytes 1 0 → high ≡ get_or bytes 2 0 → first_command bytes ≡ Ok (record { code = head % 64; value = low + 256 * high; len = 3 })
  told-2 low high w l h =
      let (rest, are) = parts bytes long in
      ap first_command are ∙ rw (is, w, le-ltb (length (0 ∷ 0 ∷ rest)) 2 (omega arith), known) (ap (λ v. Ok (record { code = head % 64; value = v; len = 3 })) (omega (arith, l, h)))

module _ (mode : Mode) (bytes : List ℕ) (head : ℕ) (u : Command) (long : 3 ≤ length bytes) (is : get_or bytes 0 0 ≡ head) (known : is_known (head % 64) ≡ true) where
  pub without : operand_len (head / 64) ≡ 0 → unify_command (kind_of mode) (head % 64) 0 ≡ Some (command_of u) → IsNext mode bytes u 1
  without w here = (head % 64, 0, told-0 bytes head long is known w, here)

  pub with-short : (value : ℕ) → operand_len (head / 64) ≡ 1 → value ≡ get_or bytes 1 0 → unify_command (kind_of mode) (head % 64) value ≡ Some (command_of u) → IsNext mode bytes u 2
  with-short value w v here = (head % 64, value, told-1 bytes head long is known value w v, here)

  pub with-long : (low high : ℕ) → operand_len (head / 64) ≡ 2 → low ≡ get_or bytes 1 0 → high ≡ get_or bytes 2 0 → unify_command (kind_of mode) (head % 64) (low + 256 * high) ≡ Some (command_of u) → IsNext mode bytes u 3
  with-long low high w l h here = (head % 64, low + 256 * high, told-2 bytes head long is known low high w l h, here)
